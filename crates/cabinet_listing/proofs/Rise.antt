-- The numbers that pass a test, found one after the other, and no other list is that. Assumes nothing.
use Prim.Native.Nat.{ℕ, suc, ◌+◌, ◌≤◌, ◌<◌}
use mathlib.Core.Path.{◌≡◌, refl, sym, ◌∙◌, ap, ap₂}
use mathlib.Core.Bool.{Bool, false, cond}
use mathlib.Core.List.{List, [], ◌∷◌, ◌++◌}
use mathlib.Core.Logic.{by_cases}
use native.Mathlib.Decide.{ℕ_discrete}
use native.Mathlib.Omega.{arith}
use lib.ListN.{length, set, length-append}
use lib.Seq.{sets}
use Rattle.base_laws.proofs.Order.{those, flat, those_same}
use Rattle.base_laws.proofs.Fill.{sets_snoc}
use Rattle.base_merge.specs.Merge.{NextOf}
use Rattle.cabinet_listing.specs.Lost.{Rising, Listed}

-- the next that passes
pub step : (p : ℕ → Bool) (k x : ℕ) → NextOf p k x → (x ≡ 0 → ⊥) → those p (suc x) ≡ those p (suc k) ++ (x ∷ [])
step p k x r n = ap₂ (λ (l : List ℕ) (b : Bool). l ++ cond b (x ∷ []) []) (flat p x k (r.above n) r.least) (r.passes n)

-- two lists of all that pass are the same
pub rising_one : {p : ℕ → Bool} {xs ys : List ℕ} → Rising p xs → Rising p ys → xs ≡ ys
rising_one {p} {xs} {ys} r s = r.so ∙ those_same p r.top s.top r.end s.end ∙ sym s.so

-- ---- found so far: those up to k, of which there are n; x is the next
pub record FoundSoFar (p : ℕ → Bool) (n k x : ℕ) : Type 0 where
  pub next : NextOf p k x
  pub count : n ≡ length (those p (suc k))

those_first : (p : ℕ → Bool) → p 0 ≡ false → those p (suc 0) ≡ []
those_first p e = let one : List ℕ = 0 ∷ [] in ap (λ (b : Bool). cond b one []) e

found_none : {p : ℕ → Bool} {x : ℕ} → p 0 ≡ false → NextOf p 0 x → FoundSoFar p 0 0 x
found_none {p} {x} e r = record { next = r; count = ap length (sym (those_first p e)) }

found_more : {p : ℕ → Bool} {n k x y : ℕ} → FoundSoFar p n k x → (x ≡ 0 → ⊥) → NextOf p x y → FoundSoFar p (n + 1) x y
found_more {p} {n} {k} {x} {y} s h r =
    record {
      next = r;
      count = ap (λ (i : ℕ). i + 1) s.count ∙ sym (length-append (those p (suc k)) (x ∷ [])) ∙ ap length (sym (step p k x s.next h));
    }

found_rising : {p : ℕ → Bool} {n k x : ℕ} → FoundSoFar p n k x → x ≤ k → Rising p (those p (suc k))
found_rising {p} {n} {k} {x} s e = record { top = k; so = refl; end = s.next.none (no_next s.next.above) }
  where
    no_next : ((x ≡ 0 → ⊥) → k < x) → x ≡ 0
    no_next a = by_cases (ℕ_discrete x 0) (λ (z : x ≡ 0). z) (λ (z : ¬ (x ≡ 0)). let l : k < x = a z in absurd (omega arith))

-- ---- and they stand at the beginning of a list
pub record StoredSoFar (p : ℕ → Bool) (before now : List ℕ) (n k x : ℕ) : Type 0 where
  pub found : FoundSoFar p n k x
  pub so : now ≡ sets before 0 (those p (suc k))

pub stored_none : {p : ℕ → Bool} {before : List ℕ} {x : ℕ} → p 0 ≡ false → NextOf p 0 x → StoredSoFar p before before 0 0 x
stored_none {p} {before} {x} e r = record { found = found_none e r; so = ap (sets before 0) (sym (those_first p e)) }

pub stored_more : {p : ℕ → Bool} {before now later : List ℕ} {n k x y : ℕ} → StoredSoFar p before now n k x → (x ≡ 0 → ⊥) → later ≡ set now n x → NextOf p x y → StoredSoFar p before later (n + 1) x y
stored_more {p} {before} {now} {later} {n} {k} {x} {y} s h e r =
    record {
      found = found_more s.found h r;
      so = e ∙ ap₂ (λ (l : List ℕ) (i : ℕ). set l i x) s.so (s.found.count ∙ (let z : length (those p (suc k)) ≡ 0 + length (those p (suc k)) = omega arith in z)) ∙ sym (sets_snoc (those p (suc k)) before 0 x) ∙ ap (sets before 0) (sym (step p k x s.found.next h));
    }

pub stored_done : {p : ℕ → Bool} {before now : List ℕ} {n k x : ℕ} → StoredSoFar p before now n k x → x ≤ k → Listed p before now n
stored_done {p} {before} {now} {n} {k} {x} s e = record { list = those p (suc k); rising = found_rising s.found e; count = s.found.count; stored = s.so }
