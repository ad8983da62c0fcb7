-- The text of each answer: lines, each a word and numbers after it, each after one space.
use Rattle.std.specs.Prelude.{ℕ, List, [], ◌∷◌, ◌++◌, length}
use Rattle.base_decimal.specs.Digits.{decimal}
use Rattle.base_lines.specs.Lines.{text_line}
use Rattle.theory_protocol.specs.Plan.{CardRow, Answer, done, opened, safe, unsafe, fixed, written, Reply, accepted, refused}
use Rattle.list_answer_words.specs.Words.{refused_text}

-- ---- the words, as bytes

abbrev pub ok_word : List ℕ
ok_word = 111 ∷ 107 ∷ []

abbrev pub change_word : List ℕ
change_word = 99 ∷ 104 ∷ 97 ∷ 110 ∷ 103 ∷ 101 ∷ []

abbrev pub safe_word : List ℕ
safe_word = 115 ∷ 97 ∷ 102 ∷ 101 ∷ []

abbrev pub unsafe_word : List ℕ
unsafe_word = 117 ∷ 110 ∷ 115 ∷ 97 ∷ 102 ∷ 101 ∷ []

abbrev pub fixed_word : List ℕ
fixed_word = 102 ∷ 105 ∷ 120 ∷ 101 ∷ 100 ∷ []

abbrev pub lost_word : List ℕ
lost_word = 108 ∷ 111 ∷ 115 ∷ 116 ∷ []

abbrev pub sheet_word : List ℕ
sheet_word = 115 ∷ 104 ∷ 101 ∷ 101 ∷ 116 ∷ []

-- ---- the answers

-- a line for each card record of fix
abbrev pub rows_text : List CardRow → List ℕ
rows_text [] = []
rows_text (r ∷ rs) = text_line (decimal r.card) (r.stored ∷ r.line ∷ []) ++ rows_text rs

abbrev pub answer_text : Answer → List ℕ
answer_text done = text_line ok_word []
answer_text (opened k) = text_line change_word (k ∷ [])
answer_text safe = text_line safe_word []
answer_text unsafe = text_line unsafe_word []
answer_text (fixed rows lost) = text_line fixed_word (length rows ∷ length lost ∷ []) ++ (rows_text rows ++ text_line lost_word lost)
answer_text (written bytes) = text_line sheet_word (length bytes ∷ []) ++ bytes

abbrev pub reply_text : Reply → List ℕ
reply_text (accepted a) = answer_text a
reply_text (refused q) = refused_text q
