-- What writing a text into a lent buffer comes to: it is cut off where the buffer ends, and every other byte stays. Where nothing is to be written the text is counted.
use Rattle.std.specs.Prelude.{ℕ, ◌+◌, ◌-◌, ◌≡◌, cond, List, leb, length, take}
use Rattle.std.proofs.lemmas.List.Edits.{sets}
use Rattle.base_text.specs.declared.Progress.{Progress}
use Rattle.base_text.specs.declared.Progress.TheVariants.{Next, Counting, TooShort}

-- the greatest number of 64 bits
abbrev pub greatest : ℕ
greatest = 18446744073709551615

-- so many bytes more are counted, as far as a number of 64 bits goes
abbrev pub counted_on : ℕ → ℕ → Progress
counted_on n more = cond (leb more (greatest - n)) (Counting (n + more)) TooShort

-- the place after a text in a buffer of so many bytes, or that it is too short for it, or was too short before
abbrev pub place_after : ℕ → Progress → List ℕ → Progress
place_after size (Next at) t = cond (leb (length t) (size - at)) (Next (at + length t)) TooShort
place_after size (Counting n) t = counted_on n (length t)
place_after size TooShort t = TooShort

-- the buffer with as much of the text as it has room for
abbrev pub buffer_after : List ℕ → Progress → List ℕ → List ℕ
buffer_after b (Next at) t = sets b at (take (length b - at) t)
buffer_after b (Counting n) t = b
buffer_after b TooShort t = b

-- writing the text t into the buffer b, from where w says on, answers r and leaves the buffer e
pub record Put (b : List ℕ) (w : Progress) (t : List ℕ) (r : Progress) (e : List ℕ) : Type 0 where
  pub answer : r ≡ place_after (length b) w t
  pub buffer : e ≡ buffer_after b w t

-- ---- whole or not at all

-- the buffer with the text, where it has room for all of it
abbrev pub whole_after : List ℕ → Progress → List ℕ → List ℕ
whole_after b (Next at) t = cond (leb (length t) (length b - at)) (sets b at t) b
whole_after b (Counting n) t = b
whole_after b TooShort t = b

-- the same as Put, but that "a refusal .. changes no .. buffer"
pub record Whole (b : List ℕ) (w : Progress) (t : List ℕ) (r : Progress) (e : List ℕ) : Type 0 where
  pub answer : r ≡ place_after (length b) w t
  pub buffer : e ≡ whole_after b w t

-- where a text goes that was counted: where it was to go, if a buffer of so many bytes has room for all of it
abbrev pub fitting_of : ℕ → Progress → Progress → Progress
fitting_of size (Next at) (Counting n) = cond (leb n (size - at)) (Next at) TooShort
fitting_of size (Next at) (Next k) = TooShort
fitting_of size (Next at) TooShort = TooShort
fitting_of size (Counting k) counted = Counting k
fitting_of size TooShort counted = TooShort

-- ---- as a number

-- the count of bytes, or the greatest number of 64 bits where the buffer is too short
abbrev pub count_of : Progress → ℕ
count_of (Next n) = n
count_of (Counting n) = greatest
count_of TooShort = greatest
