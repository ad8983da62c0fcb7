-- Lines of text: a word, and numbers after it, each after one space.
use Rattle.std.specs.Prelude.{ℕ, List, [], ◌∷◌, ◌++◌}
use Rattle.base_decimal.specs.Digits.{decimal}

-- numbers, each after a space
abbrev pub spaced : List ℕ → List ℕ
spaced [] = []
spaced (n ∷ ns) = 32 ∷ (decimal n ++ spaced ns)

-- a word, numbers after it, and byte 10
abbrev pub text_line : List ℕ → List ℕ → List ℕ
text_line word ns = word ++ (spaced ns ++ (10 ∷ []))

-- texts one after the other
abbrev pub joined : List (List ℕ) → List ℕ
joined [] = []
joined (t ∷ ts) = t ++ joined ts
