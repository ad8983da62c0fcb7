-- The text of fix's answer, from the arrays and the list that it is answered in.
use Rattle.std.specs.Prelude.{ℕ, min, List, [], ◌∷◌, ◌++◌}
use Rattle.base_limits.specs.Document.{most_cards}
use Rattle.base_lines.specs.Lines.{text_line}
use Rattle.cabinet_recovery.specs.Fix.{rows_of}
use Rattle.list_answers.specs.Texts.{fixed_word, lost_word, rows_text}

-- of so many cards those that have a record
abbrev pub row_count : ℕ → ℕ
row_count n = min n most_cards

-- the text of fix's answer, from the arrays and the list that it is answered in
abbrev pub fixed_text : ℕ → (stored line lost : List ℕ) → ℕ → List ℕ
fixed_text cards stored line lost count = text_line fixed_word (row_count cards ∷ count ∷ []) ++ (rows_text (rows_of cards stored line) ++ text_line lost_word lost)
