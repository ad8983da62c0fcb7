-- What was written is read back. Assumes nothing.
use Rattle.std.specs.Prelude.{Some}
use Prim.Native.Nat.{ℕ, ◌+◌, ◌≤◌}
use mathlib.Core.Path.{◌≡◌, sym, ◌∙◌, ap}
use mathlib.Core.List.{List, [], ◌++◌, append_assoc}
use native.Mathlib.Omega.{arith}
use lib.ListN.{length, take, drop}
use lib.Seq.{sets, sets-eq, length-take-le}
use Rattle.base_reading.specs.Digits.{run}
use Rattle.base_reading.specs.Reads.{limit, read_at}
use Rattle.base_reading.proofs.Runs.{read_run}
use Rattle.base_decimal.specs.Digits.{decimal}
use Rattle.base_decimal.proofs.Digits.{decimal_leads, decimal_only, decimal_value}

-- a number's own digits read as the number
pub read_decimal : (n : ℕ) (p r : List ℕ) → n ≤ limit → run r ≡ [] → read_at (p ++ (decimal n ++ r)) (length p) ≡ Some (n, (length p + length (decimal n)))
read_decimal n p r h e =
    read_run (decimal n) p r (decimal_only n) (decimal_leads n).some (rw (decimal_value n) h) e
    ∙ ap (λ (v : ℕ). Some (v, (length p + length (decimal n)))) (decimal_value n)

-- Written at a place of a buffer that has room, with no digit in the byte after it, a number is read there again, and to its end.
pub round_trip : (b : List ℕ) (at n : ℕ) → n ≤ limit → at + length (decimal n) ≤ length b → run (drop (at + length (decimal n)) b) ≡ []
    → read_at (sets b at (decimal n)) at ≡ Some (n, (at + length (decimal n)))
round_trip b at n h fit e =
    ap (λ (s : List ℕ). read_at s at) (sets-eq (decimal n) b at fit ∙ append_assoc (take at b) (decimal n) (drop (at + length (decimal n)) b))
    ∙ ap (λ (k : ℕ). read_at (take at b ++ (decimal n ++ drop (at + length (decimal n)) b)) k) (sym before)
    ∙ read_decimal n (take at b) (drop (at + length (decimal n)) b) h e
    ∙ ap (λ (k : ℕ). Some (n, (k + length (decimal n)))) before
  where
    before : length (take at b) ≡ at
    before = length-take-le at b (omega arith)
