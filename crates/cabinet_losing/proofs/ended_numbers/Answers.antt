use Rattle.cabinet_layout.proofs.Limits.{slots8}
use Rattle.base_laws.proofs.Fill.{filled_none, filled_more, filled_done}
use mathlib.Core.Path.{refl}
use Rattle.cabinet_losing.proofs.ended_numbers.Goals as goal

pub loop-p-init : goal.loop-p-init
loop-p-init c = filled_none refl

pub loop-p-preserved : goal.loop-p-preserved
loop-p-preserved c = filled_more c.loop-p.invariant c.loop-p-test.true c.remembered_number.ensures

pub returns : goal.returns
returns c = filled_done c.loop-p.invariant c.loop-p-test.false slots8
