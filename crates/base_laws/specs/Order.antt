-- The order in which the numbers of a list stand.
use Rattle.std.specs.Prelude.{ℕ, ◌<◌, ◌≡◌, List, length, get_or}

-- the numbers of a list rise strictly: each is below every later one
abbrev pub InRisingOrder : List ℕ → Type 0
InRisingOrder xs = (i k : ℕ) → i < k → k < length xs → get_or xs i 0 < get_or xs k 0

-- x stands in a list, and y after it
pub record StandsBefore (x y : ℕ) (xs : List ℕ) : Type 0 where
  pub i : ℕ
  pub k : ℕ
  pub earlier : i < k
  pub in_list : k < length xs
  pub first : get_or xs i 0 ≡ x
  pub second : get_or xs k 0 ≡ y
