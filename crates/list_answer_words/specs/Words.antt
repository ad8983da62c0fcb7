-- The texts that any line can be answered with: lines, each a word and numbers after it, each after one space.
use Rattle.std.specs.Prelude.{ℕ, List, [], ◌∷◌}
use Rattle.base_refusal.specs.declared.Refusal.{Refusal}
use Rattle.base_refusal.specs.declared.Told.{Told}
use Rattle.base_refusal.specs.declared.Told.TheVariants.{Alone, Card}
use Rattle.base_refusal.specs.Number.{told_of}
use Rattle.base_lines.specs.Lines.{text_line}

-- ---- the words, as bytes

abbrev pub refused_word : List ℕ
refused_word = 114 ∷ 101 ∷ 102 ∷ 117 ∷ 115 ∷ 101 ∷ 100 ∷ []

abbrev pub none_word : List ℕ
none_word = 110 ∷ 111 ∷ 110 ∷ 101 ∷ []

abbrev pub unreadable_word : List ℕ
unreadable_word = 117 ∷ 110 ∷ 114 ∷ 101 ∷ 97 ∷ 100 ∷ 97 ∷ 98 ∷ 108 ∷ 101 ∷ []

-- ---- the answers

-- before the first cabinet
abbrev pub none_text : List ℕ
none_text = text_line none_word []

-- a line that is no call
abbrev pub unreadable_text : List ℕ
unreadable_text = text_line unreadable_word []

-- "21 answers `refused 21 CARD`"
abbrev pub told_numbers : Told → List ℕ
told_numbers (Alone k) = k ∷ []
told_numbers (Card k card) = k ∷ card ∷ []

abbrev pub refused_text : Refusal → List ℕ
refused_text q = text_line refused_word (told_numbers (told_of q))
