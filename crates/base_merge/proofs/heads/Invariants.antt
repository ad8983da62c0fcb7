-- `base_merge::heads` has the number at the head of each card. The invariant: of the cards passed. Assumes nothing.
use Prim.Native.Nat.{◌-◌}
use mathlib.Core.Path.{refl}
use Rattle.base_laws.proofs.Fill.{FilledSoFar, filled_none, filled_more, filled_done}
use Rattle.base_merge.specs.Merge.{at, change_at, head_number}
use borrow.Author.Rules.{rules}
use Rattle.base_merge.proofs.heads.Given as goal

abbrev pub invariant-loop-c : goal.invariant-loop-c
invariant-loop-c l = FilledSoFar 0 16 (λ i. head_number (change_at l.changes i) (at l.passed i) (at l.ends i)) l.out l.c
