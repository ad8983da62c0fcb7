use Rattle.cabinet_layout.proofs.Limits.{width16}
use Rattle.base_laws.proofs.Fill.{filled_none, filled_more, filled_done}
use mathlib.Core.Path.{refl}
use Rattle.cabinet_losing.proofs.fallen.Goals as goal

pub loop-c-init : goal.loop-c-init
loop-c-init c = filled_none refl

pub loop-c-preserved : goal.loop-c-preserved
loop-c-preserved c = filled_more c.loop-c.invariant c.loop-c-test.true (rw c.has-lost.ensures at c.pick.ensures)

pub returns : goal.returns
returns c = filled_done c.loop-c.invariant c.loop-c-test.false width16
