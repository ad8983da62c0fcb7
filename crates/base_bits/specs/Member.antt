-- Sets of cards as numbers: "a set of 16 bits, card 0 the lowest", over any width.
use Rattle.std.specs.Prelude.{ℕ, zero, suc, ◌+◌, ◌*◌, ◌/◌, ◌%◌, ◌^◌, Bool, eqb}
use Rattle.base_laws.specs.Below.{one_if}

-- the set that a number stands for: i is in it where the digit of x at i is 1
abbrev pub member : ℕ → ℕ → Bool
member x i = eqb (x / 2 ^ i % 2) 1

-- the number of w digits that stands for what p has below w: its digit at i is 1 where p has i
abbrev pub number : ℕ → (ℕ → Bool) → ℕ
number zero p = 0
number (suc w) p = number w (λ i. p (suc i)) * 2 + one_if (p 0)
