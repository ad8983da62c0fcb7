-- `base_merge::heads` has the number at the head of each card. The invariant: of the cards passed. Assumes nothing.
use Prim.Native.Nat.{◌-◌}
use mathlib.Core.Path.{refl}
use Rattle.base_laws.proofs.Fill.{FilledSoFar, filled_none, filled_more, filled_done}
use Rattle.base_merge.specs.Merge.{at, change_at, head_number}
use borrow.Author.Rules.{rules}
use Rattle.base_merge.proofs.heads.Goals as goal

pub loop-c-init : goal.loop-c-init
loop-c-init c = filled_none refl

pub loop-c-preserved : goal.loop-c-preserved
loop-c-preserved c = filled_more c.loop-c.invariant c.loop-c-test.true c.head_number-x.ensures

pub returns : goal.returns
returns c = filled_done c.loop-c.invariant c.loop-c-test.false refl
