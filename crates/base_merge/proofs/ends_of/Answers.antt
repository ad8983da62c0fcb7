-- `base_merge::ends_of` has the last state of each of n cards. The invariant: of those passed. Assumes nothing.
use Prim.Native.Nat.{◌-◌}
use mathlib.Core.Path.{refl}
use mathlib.Core.Bool.{cond}
use lib.Dec.{ltb}
use Rattle.base_laws.proofs.Fill.{FilledSoFar, filled_none, filled_more, filled_done}
use Rattle.base_merge.specs.Merge.{at}
use borrow.Author.Rules.{rules}
use Rattle.base_merge.proofs.ends_of.Goals as goal

pub loop-c-init : goal.loop-c-init
loop-c-init c = filled_none refl

pub loop-c-preserved : goal.loop-c-preserved
loop-c-preserved c = filled_more c.loop-c.invariant c.loop-c-test.true c.end_of-x.ensures

pub returns : goal.returns
returns c = filled_done c.loop-c.invariant c.loop-c-test.false refl
