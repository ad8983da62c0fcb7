-- `base_merge::least` finds the least number. The invariant: it is the least of the cards passed. Assumes nothing.
use Prim.Native.Nat.{◌-◌}
use mathlib.Core.Path.{refl}
use Rattle.base_merge.specs.Merge.{at}
use Rattle.base_merge.proofs.Next.{LeastSoFar, least_none, least_more, least_done}
use borrow.Author.Rules.{rules}
use Rattle.base_merge.proofs.least.Goals as goal

pub loop-c-init : goal.loop-c-init
loop-c-init c = least_none

pub loop-c-preserved : goal.loop-c-preserved
loop-c-preserved c = least_more c.loop-c.invariant c.loop-c-test.true refl c.lesser-b.ensures

pub returns : goal.returns
returns c = least_done c.loop-c.invariant c.loop-c-test.false
