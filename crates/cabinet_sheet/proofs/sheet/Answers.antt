-- `cabinet_sheet::sheet` writes a card's sheet by its plan. Assumes nothing.
use mathlib.Core.Path.{sym, ◌∙◌}
use Rattle.cabinet_sheet.proofs.Pages.{within, told_same}
use Rattle.cabinet_sheet.proofs.sheet.Goals as goal

pub write_card-requires : goal.write_card-requires
write_card-requires c = λ t. let a : _ = c.args in within a.entries.now a.changes.now a.core a.card (sym c.cabinet_valid-valid.ensures ∙ t)

pub returns : goal.returns
returns c =
    let a : _ = c.args in
    told_same a.entries.now a.changes.now a.core a.card a.b.now c.write_card.new.b c.cabinet_valid-valid.result c.write_card.result c.cabinet_valid-valid.ensures c.write_card.ensures
