-- `base_merge::least` finds the least number. The invariant: it is the least of the cards passed. Assumes nothing.
use Prim.Native.Nat.{◌-◌}
use mathlib.Core.Path.{refl}
use Rattle.base_merge.specs.Merge.{at}
use Rattle.base_merge.proofs.Next.{LeastSoFar, least_none, least_more, least_done}
use borrow.Author.Rules.{rules}
use Rattle.base_merge.proofs.least.Given as goal

abbrev pub invariant-loop-c : goal.invariant-loop-c
invariant-loop-c l = LeastSoFar 16 (at l.heads) l.best l.c
