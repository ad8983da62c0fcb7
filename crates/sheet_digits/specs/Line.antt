-- Document 01's lines of a sheet: digits, the check over them, byte 10.
use Rattle.base_refusal.specs.Reply.{Reply}
use Rattle.std.specs.Prelude.{ℕ, ◌+◌, ◌*◌, ◌%◌, ◌^◌, Bool, ◌&&◌, cond, List, [], ◌∷◌, ◌++◌, leb, eqb, length, take, drop, get_or, Ok, Err}
use Rattle.base_refusal.specs.declared.Refusal.TheVariants.{BadLine, EndOrMore}
use Rattle.sheet_digits.specs.declared.Sums.{Sums}
use Rattle.sheet_digits.specs.Digits.{all_digits, digits, number}

-- "The first adds the byte, then the second adds the first", both "of eight bits that wrap at 256"
abbrev pub added : Sums → ℕ → Sums
added s b = record { first = (s.first + b) % 2 ^ 8; second = (s.second + (s.first + b) % 2 ^ 8) % 2 ^ 8 }

-- the two running sums over bytes, from any two starting sums
abbrev pub summed : Sums → List ℕ → Sums
summed s [] = s
summed s (b ∷ bs) = summed (added s b) bs

-- the check as one number of 4 digits: "second, first", two digits each
unfoldable pub check_of : Sums → ℕ
check_of s = s.second * 256 + s.first

-- a line: its digits before the check, the check over them, byte 10
unfoldable pub sheet_line : Sums → List ℕ → List ℕ
sheet_line start body = body ++ digits 4 (check_of (summed start body)) ++ (10 ∷ [])

-- the input begins with a line of n digits before the check: as many digits and 4 more, then byte 10
unfoldable pub shaped : ℕ → List ℕ → Bool
shaped n input = leb (n + 5) (length input) && (all_digits (take (n + 4) input) && eqb (get_or input (n + 4) 0) 10)

-- the 4 digits after the first n bytes are the check over them
unfoldable pub checked : Sums → ℕ → List ℕ → Bool
checked start n input = eqb (number (take 4 (drop n input))) (check_of (summed start (take n input)))

-- whether a line of n digits before the check is where the input stands: 8 where it ends, 5 where it is no such line
unfoldable pub shape_of : ℕ → List ℕ → Reply
shape_of n [] = Err EndOrMore
shape_of n (b ∷ bs) = cond (shaped n (b ∷ bs)) (Ok tt) (Err BadLine)
