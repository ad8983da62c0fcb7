-- The first line of `show`.
use Rattle.std.specs.Prelude.{ℕ, List, [], ◌∷◌, ◌++◌}
use Rattle.cabinet_layout.specs.declared.Phase.{Phase}
use Rattle.cabinet_layout.specs.declared.Phase.TheVariants.{Up, Down, Rolling}
use Rattle.cabinet_layout.specs.declared.Head.{Head}
use Rattle.base_lines.specs.Lines.{spaced, text_line}

abbrev pub session_word : List ℕ
session_word = 115 ∷ 101 ∷ 115 ∷ 115 ∷ 105 ∷ 111 ∷ 110 ∷ []

abbrev pub cards_word : List ℕ
cards_word = 99 ∷ 97 ∷ 114 ∷ 100 ∷ 115 ∷ []

abbrev pub phase_name : Phase → List ℕ
phase_name Up = 117 ∷ 112 ∷ []
phase_name Down = 100 ∷ 111 ∷ 119 ∷ 110 ∷ []
phase_name Rolling = 114 ∷ 111 ∷ 108 ∷ 108 ∷ 105 ∷ 110 ∷ 103 ∷ []

-- `session S PHASE cards N`
abbrev pub head_text : Head → List ℕ
head_text h = session_word ++ (spaced (h.session ∷ []) ++ (32 ∷ (phase_name h.phase ++ (32 ∷ text_line cards_word (h.cards ∷ [])))))
