-- Laws of texts: where a byte first stands, and when two texts are the same. Assumes nothing.
use Prim.Native.Nat.{ℕ, suc, ◌+◌, ◌≤◌, ◌<◌}
use mathlib.Core.Path.{◌≡◌, refl, ◌∙◌, ap, ap₂}
use mathlib.Core.Bool.{true}
use mathlib.Core.List.{List, [], ◌∷◌}
use native.Mathlib.Numerals.{add-one}
use native.Mathlib.Omega.{arith}
use lib.Dec.{eqb}
use lib.ListN.{length, get_or, take, drop, drop_of_length-le}
use lib.Seq.{drop-cons}
use borrow.Author.Tests.{eq-eqb, ne_eqb, eqb-true}
use Rattle.base_laws.proofs.Logic.{test, clash, and_left, and_right}
use Rattle.base_search.specs.Search.{before, same}

-- ---- the text before a byte

before_here : (b a : ℕ) (s : List ℕ) → a ≡ b → before b (a ∷ s) ≡ []
before_here b a s e = rw (eq-eqb a b e)

before_past : (b a : ℕ) (s : List ℕ) → (a ≡ b → ⊥) → before b (a ∷ s) ≡ a ∷ before b s
before_past b a s n = rw (ne_eqb a b n)

-- it is the front of the text
pub before_take : (b : ℕ) (s : List ℕ) → take (length (before b s)) s ≡ before b s
before_take b [] = refl
before_take b (a ∷ s) =
    test (eqb a b) (λ e. rw e)
    (λ e. rw e (ap (λ (l : List ℕ). a ∷ l) (before_take b s)))

pub before_length : (b : ℕ) (s : List ℕ) → length (before b s) ≤ length s
before_length b [] = omega arith
before_length b (a ∷ s) = test (eqb a b) (λ e. rw e (omega arith)) (λ e. rw e (omega (arith, before_length b s)))

-- The byte b is looked for from `from` on and was not found before i.
pub record Missed (s : List ℕ) (from b i : ℕ) : Type 0 where
  pub end : i + length (before b (drop i s)) ≡ from + length (before b (drop from s))

pub missed_none : (s : List ℕ) (from b : ℕ) → Missed s from b from
missed_none s from b = record { end = refl }

pub missed_more : {s : List ℕ} {from b i : ℕ} → Missed s from b i → i < length s → (get_or s i 0 ≡ b → ⊥) → Missed s from b (i + 1)
missed_more {s} {from} {b} {i} r h n =
    record {
      end = rw (add-one i) (omega (arith, ap length (ap (before b) (drop-cons s i 0 h) ∙ before_past b (get_or s i 0) (drop (suc i) s) n), r.end));
    }

pub missed_found : {s : List ℕ} {from b i : ℕ} → Missed s from b i → i < length s → get_or s i 0 ≡ b → i ≡ from + length (before b (drop from s))
missed_found {s} {from} {b} {i} r h e =
    omega (arith, ap length (ap (before b) (drop-cons s i 0 h) ∙ before_here b (get_or s i 0) (drop (suc i) s) e), r.end)

pub missed_all : {s : List ℕ} {from b i : ℕ} → Missed s from b i → length s ≤ i → i ≡ from + length (before b (drop from s))
missed_all {s} {from} {b} {i} r h = omega (arith, ap length (ap (before b) (drop_of_length-le s h)), r.end)

-- ---- the same text

-- two texts that are the same are equal, and the other way round
pub same_equal : (s t : List ℕ) → same s t ≡ true → s ≡ t
same_equal [] [] e = refl
same_equal [] (b ∷ t) e = clash e refl
same_equal (a ∷ s) [] e = clash e refl
same_equal (a ∷ s) (b ∷ t) e = ap₂ ◌∷◌ (eqb-true a b (and_left (eqb a b) (same s t) e)) (same_equal s t (and_right (eqb a b) (same s t) e))

pub same_self : (s : List ℕ) → same s s ≡ true
same_self [] = refl
same_self (a ∷ s) = rw (eq-eqb a a refl) (same_self s)
