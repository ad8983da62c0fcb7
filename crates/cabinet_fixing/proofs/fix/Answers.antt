-- `cabinet_fixing::fix` hands back what its plan says, by what the core of fix answers. Assumes nothing.
use mathlib.Core.Path.{sym, ◌∙◌}
use Rattle.cabinet_fixing.proofs.Told.{fix_done, fix_refused}
use Rattle.cabinet_fixing.proofs.fix.Goals as goal

pub returns-then-is_ok : goal.returns-then-is_ok
returns-then-is_ok c =
    let a : _ = c.args in
    let told : _ = c.fix-reply in
    fix_done a.entries.now a.changes.now a.core a.places a.list.now told.result.line _ told.result.reply told.ensures _ (sym c.is_ok.ensures.value ∙ c.if-is_ok.true) c.in_phase-core.ensures

pub returns-else-is_ok : goal.returns-else-is_ok
returns-else-is_ok c =
    let a : _ = c.args in
    let told : _ = c.fix-reply in
    fix_refused a.entries.now a.changes.now a.core a.places a.list.now told.result.line _ told.result.reply told.ensures (sym c.is_ok.ensures.value ∙ c.if-is_ok.false)
