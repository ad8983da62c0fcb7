use Prim.Native.Nat.{◌+◌, ◌-◌}
use mathlib.Core.Path.{◌∙◌}
use lib.Dec.{ltb}
use Rattle.base_laws.proofs.Fill.{AnySoFar, any_none, any_more, any_done}
use Rattle.cabinet_layout.specs.Shape.{limits16, at}
use Rattle.cabinet_layout.proofs.Limits.{width16}
use Rattle.cabinet_recovery.proofs.Climb.{orphan_held}
use borrow.Author.Rules.{rules}
use Rattle.cabinet_recovery.proofs.orphan_from.Goals as goal

pub loop-j-init : goal.loop-j-init
loop-j-init c = any_none

pub loop-j-preserved : goal.loop-j-preserved
loop-j-preserved c = any_more c.loop-j.invariant c.loop-j-test.true c.hits-hit.ensures

pub returns : goal.returns
returns c = let a : _ = c.args in any_done c.loop-j.invariant c.loop-j-test.false width16 ∙ orphan_held limits16.width (at a.stored) (λ j. at a.entries.now (a.from + j))
