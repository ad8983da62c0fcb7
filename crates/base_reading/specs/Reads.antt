-- What the reader answers.
use Rattle.std.specs.Prelude.{ℕ, ◌+◌, cond, List, eqb, leb, length, drop, Option, Some, None}
use Rattle.base_reading.specs.Digits.{run, value}

-- the greatest number that is read
abbrev pub limit : ℕ
limit = 4294967295

-- a run of digits from the place at to the place end, which stands for v: a number where there is a digit and v is at most the limit
abbrev pub reading : ℕ → ℕ → ℕ → Option (ℕ × ℕ)
reading at end v = cond (eqb end at) None (cond (leb v limit) (Some (v, end)) None)

-- what stands in a text at a place: the number of the run of digits there
abbrev pub read_at : List ℕ → ℕ → Option (ℕ × ℕ)
read_at s at = reading at (at + length (run (drop at s))) (value (run (drop at s)))
