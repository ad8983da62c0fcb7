-- The text of a state's line: its change, and the entries of its vector.
use Rattle.std.specs.Prelude.{ℕ, ◌-◌, cond, List, [], ◌∷◌, ◌++◌, eqb}
use Rattle.base_decimal.specs.Digits.{decimal}
use Rattle.base_lines.specs.Lines.{spaced}

-- an entry after a space: a vector has the state's number plus one, and 0 for none, which is written `-`
abbrev pub entry_text : ℕ → List ℕ
entry_text e = cond (eqb e 0) (32 ∷ 45 ∷ []) (spaced ((e - 1) ∷ []))

abbrev pub entries_text : List ℕ → List ℕ
entries_text [] = []
entries_text (e ∷ es) = entry_text e ++ entries_text es

-- `STATE CHANGE E0 E1 ..`
abbrev pub frame_text : (state change : ℕ) (entries : List ℕ) → List ℕ
frame_text x k es = decimal x ++ (spaced (k ∷ []) ++ (entries_text es ++ (10 ∷ [])))
