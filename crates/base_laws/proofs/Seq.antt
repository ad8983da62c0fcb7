-- Laws of parts of lists and of runs of stores. Assumes nothing.
use Prim.Native.Nat.{ℕ, zero, suc, ◌+◌, ◌-◌, ◌≤◌, ◌<◌}
use mathlib.Core.Path.{◌≡◌, refl, sym, ◌∙◌, ap}
use mathlib.Core.Logic.{◌⊎◌, inl, inr}
use mathlib.Core.List.{List, [], ◌∷◌, ◌++◌, append_assoc}
use native.Mathlib.Nat.{add-zero}
use native.Mathlib.Omega.{arith}
use lib.ListN.{length, take, drop, get_or, set, length-set}
use lib.Seq.{drop-cons, sets, set_comm, sets-eq, take_at, drop_at, length-take-le, get_or-set_same, get_or-set_other}

module _ {A : Type 0} where
  -- what a walk over the n elements from `at` on has still to see when i of them are passed
  abbrev pub left : List A → ℕ → ℕ → ℕ → List A
  left s at n i = take (n - i) (drop (at + i) s)

  pub left_none : (s : List A) (at n : ℕ) → left s at n 0 ≡ take n (drop at s)
  left_none s at n =
      let e : n - 0 ≡ n = omega arith in
      let d : at + 0 ≡ at = omega arith in
      rw (e, d)

  pub left_step : (s : List A) (at n i : ℕ) (d : A) → i < n → at + n ≤ length s → left s at n i ≡ get_or s (at + i) d ∷ left s at n (i + 1)
  left_step s at n i d h k =
      let e : n - i ≡ suc (n - (i + 1)) = omega arith in
      let q : at + (i + 1) ≡ suc (at + i) = omega arith in
      let l : at + i < length s = omega arith in
      rw (e, q, drop-cons s (at + i) d l)

  pub left_all : (s : List A) (at n i : ℕ) → n ≤ i → left s at n i ≡ []
  left_all s at n i h =
      let e : n - i ≡ 0 = omega arith in
      rw e

  pub sets_append : (xs l : List A) (i : ℕ) (ys : List A) → sets l i (xs ++ ys) ≡ sets (sets l i xs) (i + length xs) ys
  sets_append [] l i ys = ap (λ (k : ℕ). sets l k ys) (sym (add-zero i))
  sets_append (x ∷ xs) l i ys =
      let e : i + suc (length xs) ≡ suc i + length xs = omega arith in
      sets_append xs (set l i x) (suc i) ys ∙ ap (λ (k : ℕ). sets (sets (set l i x) (suc i) xs) k ys) (sym e)

  -- a store past a run of stores may come before it
  pub sets_set : (xs l : List A) (i k : ℕ) (v : A) → i + length xs ≤ k → sets (set l k v) i xs ≡ set (sets l i xs) k v
  sets_set [] l i k v h = refl
  sets_set (x ∷ xs) l i k v h =
      ap (λ (m : List A). sets m (suc i) xs) (set_comm l k i v x (omega arith))
      ∙ sets_set xs (set l i x) (suc i) k v (omega arith)

  -- the part where a run was stored holds the run
  pub sets_part : (xs l : List A) (i : ℕ) → i + length xs ≤ length l → take (length xs) (drop i (sets l i xs)) ≡ xs
  sets_part xs l i h =
      let e : length (take i l) ≡ i = length-take-le i l (omega arith) in
      rw (sets-eq xs l i h, append_assoc (take i l) xs, drop_at (take i l) (xs ++ drop (i + length xs) l) i e) (take_at xs (drop (i + length xs) l) (length xs) refl)

  -- what a list holds after a run of stores
  pub sets_outside : (vs l : List A) (i k : ℕ) (d : A) → (k < i) ⊎ (i + length vs ≤ k) → get_or (sets l i vs) k d ≡ get_or l k d
  sets_outside [] l i k d h = refl
  sets_outside (a ∷ vs) l i k d h = sets_outside vs (set l i a) (suc i) k d (further h) ∙ get_or-set_other l i k a d (apart h)
    where
      further : (k < i) ⊎ (i + suc (length vs) ≤ k) → (k < suc i) ⊎ (suc i + length vs ≤ k)
      further (inl l) = inl (omega arith)
      further (inr l) = inr (omega arith)

      apart : (k < i) ⊎ (i + suc (length vs) ≤ k) → ¬ (k ≡ i)
      apart (inl l) e = omega arith
      apart (inr l) e = omega arith

  pub sets_inside : (vs l : List A) (i j : ℕ) (d : A) → i + length vs ≤ length l → j < length vs → get_or (sets l i vs) (i + j) d ≡ get_or vs j d
  sets_inside [] l i j d h g = absurd (omega arith)
  sets_inside (a ∷ vs) l i zero d h g =
      ap (λ (k : ℕ). get_or (sets (set l i a) (suc i) vs) k d) (let e : i + 0 ≡ i = omega arith in e)
      ∙ sets_outside vs (set l i a) (suc i) i d (inl (omega arith)) ∙ get_or-set_same l i a d (omega arith)
  sets_inside (a ∷ vs) l i (suc j) d h g =
      ap (λ (k : ℕ). get_or (sets (set l i a) (suc i) vs) k d) (let e : i + suc j ≡ suc i + j = omega arith in e)
      ∙ sets_inside vs (set l i a) (suc i) j d (let q : length (set l i a) ≡ length l = length-set l i a in omega arith) (omega arith)
