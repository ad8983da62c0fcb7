use Rattle.base_bits.specs.Member.{member}
use Rattle.cabinet_layout.specs.Shape.{at}
use Rattle.base_laws.proofs.Fill.{FilledSoFar}
use mathlib.Core.Bool.{cond}
use Rattle.cabinet_losing.proofs.fallen.Given as goal

abbrev pub invariant-loop-c : goal.invariant-loop-c
invariant-loop-c l = FilledSoFar 0 16 (λ k. cond (member l.cards k) (at l.stored k) (at l.held k)) l.out l.c
