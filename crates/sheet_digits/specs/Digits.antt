-- Document 01's "digits": numbers written in upper-case hexadecimal digits, most significant first, in a given width.
use Rattle.std.specs.Prelude.{ℕ, zero, suc, ◌+◌, ◌*◌, ◌-◌, ◌/◌, ◌%◌, Bool, true, ◌&&◌, ◌||◌, cond, List, [], ◌∷◌, ◌++◌, leb, ltb, take, drop}

-- the byte is one of 0 to 9
unfoldable pub is_numeral : ℕ → Bool
is_numeral b = leb 48 b && ltb b 58

-- the byte is one of A to F
unfoldable pub is_letter : ℕ → Bool
is_letter b = leb 65 b && ltb b 71

-- the byte is an upper-case digit
unfoldable pub is_digit : ℕ → Bool
is_digit b = is_numeral b || is_letter b

-- the byte of the digit of a value below 16
unfoldable pub digit : ℕ → ℕ
digit v = cond (ltb v 10) (48 + v) (55 + v)

-- the value of a digit's byte, and 0 of any other byte
unfoldable pub digit_value : ℕ → ℕ
digit_value b = cond (is_numeral b) (b - 48) (cond (is_letter b) (b - 55) 0)

-- every byte is a digit
abbrev pub all_digits : List ℕ → Bool
all_digits [] = true
all_digits (b ∷ bs) = is_digit b && all_digits bs

-- a number in k digits; of a number that needs more, its last k
abbrev pub digits : ℕ → ℕ → List ℕ
digits zero n = []
digits (suc k) n = digits k (n / 16) ++ (digit (n % 16) ∷ [])

-- the number that digits give after the number a
abbrev pub number_after : ℕ → List ℕ → ℕ
number_after a [] = a
number_after a (b ∷ bs) = number_after (a * 16 + digit_value b) bs

-- the number that digits give
abbrev pub number : List ℕ → ℕ
number bs = number_after 0 bs

-- numbers, one after another, in the widths given
abbrev pub written : List ℕ → List ℕ → List ℕ
written [] vs = []
written (k ∷ ks) [] = []
written (k ∷ ks) (v ∷ vs) = digits k v ++ written ks vs

-- the numbers that stand one after another in the widths given
abbrev pub numbers : List ℕ → List ℕ → List ℕ
numbers [] bs = []
numbers (k ∷ ks) bs = number (take k bs) ∷ numbers ks (drop k bs)
