-- `cabinet_recalling::last_vectors` is the vector of each card's last frame. Assumes nothing.
use mathlib.Core.Path.{refl}
use Rattle.base_laws.proofs.Fill.{filled_none, filled_more, filled_done}
use Rattle.cabinet_layout.proofs.Limits.{width16}
use Rattle.cabinet_recalling.proofs.last_vectors.Goals as goal

pub loop-c-init : goal.loop-c-init
loop-c-init c = filled_none refl

pub loop-c-preserved : goal.loop-c-preserved
loop-c-preserved c = filled_more c.loop-c.invariant c.loop-c-test.true c.last_vector.ensures

pub returns : goal.returns
returns c = filled_done c.loop-c.invariant c.loop-c-test.false width16
