-- The samples of document 01 come out as it says: one equation over the whole table, computed, and what it says of each entry. Assumes nothing.
use Prim.Native.Nat.{ℕ, zero, suc, ◌<◌}
use mathlib.Core.Path.{◌≡◌, refl, ap}
use mathlib.Core.List.{List, [], ◌∷◌, map}
use native.Mathlib.Nat.{not-suc-le-zero, le_of_suc-le-suc}
use lib.ListN.{length, get_or}
use Rattle.theory_history.specs.Samples.{Sample, Outcome, worked, worked_out, samples}

all_worked : map worked_out samples ≡ samples
all_worked = refl

-- what is so of a whole list is so of each entry
each : {A : Type 0} (f : A → A) (l : List A) → map f l ≡ l → (d : A) (k : ℕ) → k < length l → f (get_or l k d) ≡ get_or l k d
each f [] e d k h = absurd (not-suc-le-zero h)
each f (x ∷ xs) e d zero h = cc
each f (x ∷ xs) e d (suc k) h = each f xs (cc) d k (le_of_suc-le-suc h)

-- each outcome that document 01 gives of each of its samples is what the definitions give
pub sample_outcome : (none : Sample) (k : ℕ) → k < length samples → (no-outcome : Outcome) (m : ℕ) → m < length (get_or samples k none).outcomes
    → worked (get_or samples k none) (get_or (get_or samples k none).outcomes m no-outcome) ≡ get_or (get_or samples k none).outcomes m no-outcome
sample_outcome d k h o m l =
    each (worked (get_or samples k d)) (get_or samples k d).outcomes
    (ap (λ (s : Sample). s.outcomes) (each worked_out samples all_worked d k h)) o m l
