-- `base_merge::ends_of` has the last state of each of n cards. The invariant: of those passed. Assumes nothing.
use Prim.Native.Nat.{◌-◌}
use mathlib.Core.Path.{refl}
use mathlib.Core.Bool.{cond}
use lib.Dec.{ltb}
use Rattle.base_laws.proofs.Fill.{FilledSoFar, filled_none, filled_more, filled_done}
use Rattle.base_merge.specs.Merge.{at}
use borrow.Author.Rules.{rules}
use Rattle.base_merge.proofs.ends_of.Given as goal

abbrev pub invariant-loop-c : goal.invariant-loop-c
invariant-loop-c l = FilledSoFar 0 16 (λ i. cond (ltb i l.n) (at l.last i) 0) l.out l.c
