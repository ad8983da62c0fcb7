-- The lowest session of a read-out's sheets, and refusal 11; numbers by card.
use Rattle.std.specs.Prelude.{ℕ, zero, suc, ◌+◌, min, Bool, ◌&&◌, ◌||◌, ltb}
use Rattle.base_laws.specs.Below.{any_below}

-- the lowest of f at the numbers up to n
abbrev pub lowest_to : (ℕ → ℕ) → ℕ → ℕ
lowest_to f zero = f 0
lowest_to f (suc n) = min (lowest_to f n) (f (suc n))

-- refusal 11 of n sheets, of which `low` is the lowest session: "sessions more than one apart, or a sheet one ahead has frames"
unfoldable pub apart : (session count : ℕ → ℕ) → (low n : ℕ) → Bool
apart session count low n = any_below n (λ j. ltb (low + 1) (session j) || (ltb low (session j) && ltb 0 (count j)))
