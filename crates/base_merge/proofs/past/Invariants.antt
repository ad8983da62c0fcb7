-- `base_merge::past` brings each card past a number. The invariant: those passed are brought. Assumes nothing.
use Prim.Native.Nat.{◌-◌}
use mathlib.Core.Path.{refl}
use Rattle.base_laws.proofs.Fill.{FilledSoFar, filled_none, filled_more, filled_done}
use Rattle.base_merge.specs.Merge.{at, card_past}
use borrow.Author.Rules.{rules}
use Rattle.base_merge.proofs.past.Given as goal

abbrev pub invariant-loop-c : goal.invariant-loop-c
invariant-loop-c l = FilledSoFar 0 16 (λ i. card_past (at l.passed i) (at l.ends i) (at l.heads i) l.k) l.out l.c
