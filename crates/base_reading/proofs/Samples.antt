-- The definitions at texts that are written out. Assumes nothing.
use Rattle.std.specs.Prelude.{Some, None}
use Prim.Native.Nat.{ℕ}
use mathlib.Core.Path.{◌≡◌, refl}
use mathlib.Core.List.{List, [], ◌∷◌}
use Rattle.base_reading.specs.Reads.{read_at}

-- "x007 1" at 1 is 7, and goes to 4; at 0 and at 9 there is no number
abbrev word : List ℕ
word = 120 ∷ 48 ∷ 48 ∷ 55 ∷ 32 ∷ 49 ∷ []

seven : read_at word 1 ≡ Some (7, 4)
seven = refl

letter : read_at word 0 ≡ None
letter = refl

beyond : read_at word 9 ≡ None
beyond = refl

-- "4294967295" is a number, and "4294967296" is none
greatest_read : read_at (52 ∷ 50 ∷ 57 ∷ 52 ∷ 57 ∷ 54 ∷ 55 ∷ 50 ∷ 57 ∷ 53 ∷ []) 0 ≡ Some (4294967295, 10)
greatest_read = refl

over_read : read_at (52 ∷ 50 ∷ 57 ∷ 52 ∷ 57 ∷ 54 ∷ 55 ∷ 50 ∷ 57 ∷ 54 ∷ []) 0 ≡ None
over_read = refl
