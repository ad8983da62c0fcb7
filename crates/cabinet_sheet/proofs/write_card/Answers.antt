-- `cabinet_sheet::write_card` writes a card's sheet by its plan. Assumes nothing.
use Prim.Native.Nat.{◌<◌}
use mathlib.Core.Path.{sym, ◌∙◌}
use native.Mathlib.Omega.{arith}
use Rattle.cabinet_sheet.proofs.Told.{card_there, told_invalid, told_absent, passes_7, told_whole}
use Rattle.cabinet_sheet.proofs.write_card.Goals as goal

pub returns-then-not-valid : goal.returns-then-not-valid
returns-then-not-valid c =
    let a = c.args in
    told_invalid a.valid a.entries.now a.changes.now a.head a.rolled a.base a.stored a.card a.b.now c.if-not-valid.true

pub returns-then-not-is_card : goal.returns-then-not-is_card
returns-then-not-is_card c =
    let a = c.args in
    told_absent a.valid a.entries.now a.changes.now a.head a.rolled a.base a.stored a.card a.b.now c.if-not-valid.false (sym c.is_card.ensures ∙ c.if-not-is_card.true)

pub header_of-h-requires : goal.header_of-h-requires
header_of-h-requires c =
    let a = c.args in
    let w = c.requires c.if-not-valid.false in
    let n = sym c.is_card.ensures ∙ c.if-not-is_card.false in
    let t : a.card < a.head.cards = card_there a.head a.card n in
    let x = w.low t in
    let p = c.at-low.ensures in
    let q = c.at-high.ensures in
    (omega arith, w.next)

pub write_page-requires : goal.write_page-requires
write_page-requires c =
    let a = c.args in
    let w = c.requires c.if-not-valid.false in
    let n = sym c.is_card.ensures ∙ c.if-not-is_card.false in
    passes_7 a.valid a.entries.now a.changes.now a.head a.rolled a.base a.stored a.card a.b.now c.header_of-h.result c.at-low.result c.at-high.result c.header_of-h.ensures c.at-low.ensures c.at-high.ensures w n

pub returns : goal.returns
returns c =
    let a = c.args in
    let t = c.if-not-valid.false in
    let w = c.requires t in
    let n = sym c.is_card.ensures ∙ c.if-not-is_card.false in
    told_whole a.valid a.entries.now a.changes.now a.head a.rolled a.base a.stored a.card a.b.now c.header_of-h.result c.at-low.result c.at-high.result c.header_of-h.ensures c.at-low.ensures c.at-high.ensures w n t c.write_page.new.b c.write_page.result c.write_page.ensures
