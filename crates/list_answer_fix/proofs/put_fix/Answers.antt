-- `list_answer_fix::put_fix` writes the answer of fix. Assumes nothing.
use Rattle.std.specs.Prelude.{ℕ, Result}
use Rattle.base_refusal.specs.declared.Refusal.{Refusal}
use mathlib.Core.Path.{sym, ◌∙◌, ap}
use lib.ListN.{take}
use Rattle.cabinet_recovery.specs.Fix.{fix_reply_of}
use Rattle.list_answers.specs.Texts.{reply_text}
use Rattle.base_text.proofs.Puts.{put_as}
use Rattle.list_answer_fix.proofs.Spaced.{fixed_as}
use borrow.Author.Rules.{rules}
use Rattle.list_answer_fix.proofs.put_fix.Goals as goal

pub returns-in-Ok : goal.returns-in-Ok
returns-in-Ok c =
    let a = c.args in
    put_as
    (fixed_as a.cards a.stored a.line a.list _ a.places c.least-some.result c.least-count.result (search rules) c.least-some.ensures c.least-count.ensures
    ∙ ap (λ (x : (Result ℕ Refusal)). reply_text (fix_reply_of a.cards a.stored a.line (take a.places a.list) x)) (sym c.in-Ok.is))
    c.put_fixed.ensures
