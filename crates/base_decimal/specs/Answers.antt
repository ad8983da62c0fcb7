-- What the writer answers.
use Rattle.std.specs.Prelude.{ℕ, ◌+◌, ◌≡◌, Bool, cond, List, leb, length, Option, Some, None}
use Rattle.std.proofs.lemmas.List.Edits.{sets}
use Rattle.base_decimal.specs.Digits.{decimal}

-- whether the digits of n have room from the place at on in a buffer of so many bytes
abbrev pub fits : ℕ → ℕ → ℕ → Bool
fits size at n = leb (at + length (decimal n)) size

-- what the writer answers: the place after the digits, where they have room
abbrev pub writing : ℕ → ℕ → ℕ → Option ℕ
writing size at n = cond (fits size at n) (Some (at + length (decimal n))) None

-- the whole buffer after it: the digits from the place at on, where they have room, and every other byte as it was
abbrev pub written : List ℕ → ℕ → ℕ → List ℕ
written b at n = cond (fits (length b) at n) (sets b at (decimal n)) b

-- what writing n at a place of the buffer b comes to: the answer r, and the buffer e
pub record Wrote (b : List ℕ) (at n : ℕ) (r : (Option ℕ)) (e : List ℕ) : Type 0 where
  pub answer : r ≡ writing (length b) at n
  pub buffer : e ≡ written b at n
