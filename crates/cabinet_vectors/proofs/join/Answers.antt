use Rattle.cabinet_layout.proofs.Limits.{width16}
use Rattle.base_laws.proofs.Fill.{filled_none, filled_more, filled_done}
use mathlib.Core.Path.{refl}
use Rattle.cabinet_vectors.proofs.join.Goals as goal

pub loop-j-init : goal.loop-j-init
loop-j-init c = filled_none refl

pub loop-j-preserved : goal.loop-j-preserved
loop-j-preserved c = filled_more c.loop-j.invariant c.loop-j-test.true c.greater.ensures

pub returns : goal.returns
returns c = filled_done c.loop-j.invariant c.loop-j-test.false width16
