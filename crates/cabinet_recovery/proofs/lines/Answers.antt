use Rattle.cabinet_recovery.proofs.Climb.{lines_ring}
use mathlib.Core.Path.{refl, ◌∙◌}
use Rattle.base_laws.proofs.Fill.{filled_none, filled_more, filled_done}
use Rattle.cabinet_layout.proofs.Limits.{width16}
use Rattle.cabinet_recovery.proofs.lines.Goals as goal

pub loop-c-init : goal.loop-c-init
loop-c-init c = filled_none refl

pub loop-c-preserved : goal.loop-c-preserved
loop-c-preserved c = filled_more c.loop-c.invariant c.loop-c-test.true c.line_of.ensures

pub returns : goal.returns
returns c = let a : _ = c.args in filled_done c.loop-c.invariant c.loop-c-test.false width16 ∙ lines_ring a.entries.now a.base a.stored a.reached a.head
