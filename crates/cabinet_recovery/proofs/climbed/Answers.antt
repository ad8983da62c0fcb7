use Rattle.cabinet_recovery.proofs.Climb.{climbed_none, climbed_more, climbed_hit, climbed_top}
use mathlib.Core.Path.{sym, ◌∙◌}
use Rattle.cabinet_recovery.proofs.climbed.Goals as goal

pub loop-x-init : goal.loop-x-init
loop-x-init c = climbed_none

pub returns-then-is_orphan : goal.returns-then-is_orphan
returns-then-is_orphan c = climbed_hit c.loop-x.invariant c.loop-x-test.true (sym c.is_orphan.ensures ∙ c.if-is_orphan.true)

pub loop-x-preserved : goal.loop-x-preserved
loop-x-preserved c = climbed_more c.loop-x.invariant c.loop-x-test.true (sym c.is_orphan.ensures ∙ c.if-is_orphan.false)

pub returns : goal.returns
returns c = c.max.ensures ∙ climbed_top c.loop-x.invariant c.loop-x-test.false c.loop-x.auto.x-end
