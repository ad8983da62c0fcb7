-- The text of `show`: what a cabinet is.
use Rattle.std.specs.Prelude.{ℕ, ◌-◌, cond, List, [], ◌∷◌, ◌++◌, eqb}
use Rattle.base_laws.specs.Below.{selected}
use Rattle.base_decimal.specs.Digits.{decimal}
use Rattle.cabinet_layout.specs.declared.Head.{Head}
use Rattle.cabinet_layout.specs.Shape.{limits16, at, present_of}
use Rattle.base_lines.specs.Lines.{spaced, text_line, joined}
use Rattle.list_answer_head.specs.First.{head_text}

-- ` writing`
abbrev pub writing_word : List ℕ
writing_word = 32 ∷ 119 ∷ 114 ∷ 105 ∷ 116 ∷ 105 ∷ 110 ∷ 103 ∷ []

-- a card and its numbers, and ` writing S` where a write up to state S runs
abbrev pub card_text : ℕ → List ℕ → (writing : ℕ) → List ℕ
card_text c ns w = cond (eqb w 0) (text_line (decimal c) ns) (decimal c ++ (spaced ns ++ text_line writing_word ((w - 1) ∷ [])))

-- for each card `CARD BASE STORED HELD REACHED`
abbrev pub cards_text : ℕ → (base stored kept reached writing : List ℕ) → List ℕ
cards_text n base stored kept reached writing =
    joined (selected limits16.width (present_of n) (λ c. card_text c (at base c ∷ at stored c ∷ at kept c ∷ at reached c ∷ []) (at writing c)))

abbrev pub show_text : Head → (base stored kept reached writing : List ℕ) → List ℕ
show_text h base stored kept reached writing = head_text h ++ cards_text h.cards base stored kept reached writing
