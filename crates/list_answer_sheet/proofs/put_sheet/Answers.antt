-- `list_answer_sheet::put_sheet` writes the answer of sheet writing. Assumes nothing.
use Rattle.std.specs.Prelude.{ℕ, Result}
use Rattle.base_refusal.specs.declared.Refusal.{Refusal}
use mathlib.Core.Path.{sym, ◌∙◌, ap}
use lib.ListN.{take}
use Rattle.cabinet_sheet.specs.Card.{sheet_reply_of}
use Rattle.list_answers.specs.Texts.{reply_text}
use Rattle.base_text.proofs.Puts.{put_as}
use Rattle.list_answer_sheet.proofs.Sheets.{sheet_as}
use borrow.Author.Rules.{rules}
use Rattle.list_answer_sheet.proofs.put_sheet.Goals as goal

pub returns-in-Ok : goal.returns-in-Ok
returns-in-Ok c =
    let a = c.args in
    put_as
    (sheet_as a.sheet.now _ a.places c.least-lent.result c.least-count.result (search rules) c.least-lent.ensures c.least-count.ensures
    ∙ ap (λ (x : (Result ℕ Refusal)). reply_text (sheet_reply_of (take a.places a.sheet.now) x)) (sym c.in-Ok.is))
    c.put_bytes.ensures
