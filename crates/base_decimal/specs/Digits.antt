-- Decimal text: the digits of a number. A text is a list of bytes.
use Rattle.std.specs.Prelude.{ℕ, zero, suc, ◌+◌, ◌/◌, ◌%◌, cond, List, [], ◌∷◌, ◌++◌, ltb}

-- the byte of a digit
abbrev pub digit : ℕ → ℕ
digit d = 48 + d

-- the digits of n, the highest first, but no more than the w lowest: those of n / 10, where n is 10 or more, and then the last one
abbrev pub digits_in : ℕ → ℕ → List ℕ
digits_in zero n = []
digits_in (suc w) n = let higher = digits_in w (n / 10) in cond (ltb n 10) [] higher ++ (digit (n % 10) ∷ [])

-- the digits of n, with no leading zero; 0 is "0". A number n has at most n + 1 digits.
abbrev pub decimal : ℕ → List ℕ
decimal n = digits_in (suc n) n

-- the w lowest digits of n, leading zeros included
abbrev pub lowest : ℕ → ℕ → List ℕ
lowest zero n = []
lowest (suc w) n = lowest w (n / 10) ++ (digit (n % 10) ∷ [])
