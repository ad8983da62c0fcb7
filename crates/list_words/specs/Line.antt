-- The numbers of a line of a list of calls, each after one space. A text is a list of bytes.
use Rattle.std.specs.Prelude.{ℕ, ◌+◌, cond, List, eqb, leb, length, get_or, Option, Some, None, Result, Ok, Err}
use Rattle.base_reading.specs.Reads.{read_at}
use Rattle.list_words.specs.declared.Malformed.{Malformed}
use Rattle.list_words.specs.declared.Figures.{Figures}
use Rattle.list_words.specs.declared.Figures.TheVariants.{Zero, One, Two, Three}

abbrev pub malformed : Malformed
malformed = record {}

-- a number that was read, and the place after it
abbrev pub as_figure : Option (ℕ × ℕ) → Result (Option (ℕ × ℕ)) Malformed
as_figure (Some f) = Ok (Some f)
as_figure None = Err malformed

-- what stands at a place of a line: its end, a space and a number, or something else
abbrev pub next_figure : List ℕ → ℕ → Result (Option (ℕ × ℕ)) Malformed
next_figure s at = cond (leb (length s) at) (Ok None) (cond (eqb (get_or s at 0) 32) (as_figure (read_at s (at + 1))) (Err malformed))

-- by what stands there: the numbers so far, or those that one number more makes
abbrev pub go_on : Result (Option (ℕ × ℕ)) Malformed → Figures → (ℕ → ℕ → Result Figures Malformed) → Result Figures Malformed
go_on (Ok None) here more = Ok here
go_on (Ok (Some (v, p))) here more = more v p
go_on (Err e) here more = Err e

-- the numbers of a line from a place on, none or some of them read already: three at most
abbrev pub after_three : List ℕ → ℕ → (a b c : ℕ) → Result Figures Malformed
after_three s at a b c = go_on (next_figure s at) (Three a b c) (λ d p. Err malformed)

abbrev pub after_two : List ℕ → ℕ → (a b : ℕ) → Result Figures Malformed
after_two s at a b = go_on (next_figure s at) (Two a b) (λ c p. after_three s p a b c)

abbrev pub after_one : List ℕ → ℕ → ℕ → Result Figures Malformed
after_one s at a = go_on (next_figure s at) (One a) (λ b p. after_two s p a b)

abbrev pub figures_at : List ℕ → ℕ → Result Figures Malformed
figures_at s at = go_on (next_figure s at) Zero (λ a p. after_one s p a)
