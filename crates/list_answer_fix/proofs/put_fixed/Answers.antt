-- `list_answer_fix::put_fixed` writes an accepted fix. Assumes nothing.
use Prim.Native.Nat.{ℕ}
use mathlib.Core.Path.{◌≡◌, ◌∙◌, ap}
use mathlib.Core.List.{[], ◌∷◌, ◌++◌, append_assoc}
use Rattle.cabinet_recovery.specs.Fix.{rows_of}
use Rattle.base_lines.specs.Lines.{text_line}
use Rattle.list_answers.specs.Texts.{fixed_word, lost_word, rows_text}
use Rattle.base_text.proofs.Puts.{put_then, put_as}
use Rattle.list_answer_fix.specs.Fixed.{row_count}
use native.Mathlib.Omega.{arith}
use Rattle.list_answer_fix.proofs.put_fixed.Goals as goal

pub returns : goal.returns
returns c =
    let a = c.args in
    let n : c.min.result ≡ row_count a.cards = omega arith in
    put_as
    (append_assoc (text_line fixed_word (c.min.result ∷ a.count ∷ [])) (rows_text (rows_of a.cards a.stored a.line)) (text_line lost_word a.lost.now)
    ∙ ap (λ (n : ℕ). text_line fixed_word (n ∷ a.count ∷ []) ++ (rows_text (rows_of a.cards a.stored a.line) ++ text_line lost_word a.lost.now)) n)
    (put_then (put_then c.put_line-w.ensures c.put_rows-w.ensures) c.put_line.ensures)
