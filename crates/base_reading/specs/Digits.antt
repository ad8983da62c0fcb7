-- Digits in a text, and the number that they stand for. A text is a list of bytes.
use Rattle.std.specs.Prelude.{ℕ, ◌+◌, ◌-◌, ◌*◌, Bool, true, ◌&&◌, cond, List, [], ◌∷◌, leb}

-- whether a byte is a digit
abbrev pub is_digit : ℕ → Bool
is_digit b = leb 48 b && leb b 57

-- whether a text is digits alone
abbrev pub digits_only : List ℕ → Bool
digits_only [] = true
digits_only (b ∷ s) = is_digit b && digits_only s

-- the digits that a text begins with
abbrev pub run : List ℕ → List ℕ
run [] = []
run (b ∷ s) = cond (is_digit b) (b ∷ run s) []

-- the number v with the digits of a text written after it
abbrev pub value_from : ℕ → List ℕ → ℕ
value_from v [] = v
value_from v (b ∷ s) = value_from (v * 10 + (b - 48)) s

-- the number that a text of digits stands for; leading zeros add nothing
abbrev pub value : List ℕ → ℕ
value s = value_from 0 s
