-- What the words of specs/Below.antt say, as laws. Assumes nothing.
use Prim.Native.Nat.{ℕ, zero, suc, ◌+◌, ◌≤◌, ◌<◌, max, zero-le, suc-le-suc}
use mathlib.Core.Path.{◌≡◌, refl, sym, ◌∙◌, ap, ap₂}
use mathlib.Core.Bool.{Bool, true, false, ◌&&◌, ◌||◌, cond}
use mathlib.Core.Logic.{◌⊎◌, inl, inr, ⊎_elim, by_cases}
use mathlib.Core.List.{List, [], ◌∷◌, ◌++◌, append-nil}
use native.Mathlib.Nat.{not-suc-le-zero, eq-or-lt_of_le, le_of_suc-le-suc, le_step, le_refl, le_trans, lt-suc_self, le_of_lt, lt_of_not-le, le-add_right, add-le-add, le_antisymm, le-max_left, le-max_right, max-le, max-eq_left, max-eq_right}
use native.Mathlib.Decide.{dec_le, dec_lt}
use native.Mathlib.Omega.{arith}
use Rattle.base_laws.specs.Below.{one_if, all_below, any_below, count_below, greatest, tabulate, selected, first_below, occurs}
use lib.Dec.{eqb}
use Rattle.base_laws.proofs.Logic.{test, and_left, and_right, and_intro, or_left, or_right, or_elim, clash, fails, cond_case}

-- a number below suc n is n or below n
pub below_suc : {k n : ℕ} → k < suc n → (k ≡ n) ⊎ (k < n)
below_suc h = eq-or-lt_of_le (le_of_suc-le-suc h)

-- every case below suc n, from the last and those before it
pub step_below : (P : ℕ → Type 0) {n : ℕ} → ((k : ℕ) → k < n → P k) → P n → (k : ℕ) → k < suc n → P k
step_below P {n} f z k h = pick (below_suc h)
  where
    pick : (k ≡ n) ⊎ (k < n) → P k
    pick (inl e) = rw e z
    pick (inr l) = f k l

pub all_at : (n : ℕ) (p : ℕ → Bool) → all_below n p ≡ true → (k : ℕ) → k < n → p k ≡ true
all_at zero p e k h = absurd (not-suc-le-zero h)
all_at (suc n) p e k h =
    step_below (λ (i : ℕ). p i ≡ true) (all_at n p (and_left (all_below n p) (p n) e)) (and_right (all_below n p) (p n) e) k h

pub all_intro : (n : ℕ) (p : ℕ → Bool) → ((k : ℕ) → k < n → p k ≡ true) → all_below n p ≡ true
all_intro zero p f = refl
all_intro (suc n) p f = and_intro (all_intro n p (λ k h. f k (omega arith))) (f n (omega arith))

pub any_intro : (n : ℕ) (p : ℕ → Bool) (k : ℕ) → k < n → p k ≡ true → any_below n p ≡ true
any_intro zero p k h e = absurd (not-suc-le-zero h)
any_intro (suc n) p k h e =
    ⊎_elim (λ (q : k ≡ n). or_right (any_below n p) (rw q at e)) (λ (l : k < n). or_left (p n) (any_intro n p k l e)) (below_suc h)

-- a number below n at which the test passes
abbrev pub Found : ℕ → (ℕ → Bool) → Type 0
Found n p = (k : ℕ) × (k < n) × (p k ≡ true)

pub any_elim : (n : ℕ) (p : ℕ → Bool) → any_below n p ≡ true → Found n p
any_elim zero p e = clash e refl
any_elim (suc n) p e =
    ⊎_elim (λ q. widen (any_elim n p q)) (λ (q : p n ≡ true). (n, lt-suc_self n, q)) (or_elim (any_below n p) (p n) e)
  where
    widen : Found n p → Found (suc n) p
    widen r = (r.0, le_step r.1, r.2)

-- some number below n passes, or every one fails
pub search_below : (n : ℕ) (p : ℕ → Bool) → Found n p ⊎ ((k : ℕ) → k < n → p k ≡ false)
search_below n p =
    test (any_below n p) (λ e. inl (any_elim n p e))
    (λ e. inr (λ k h. fails (p k) (λ (t : p k ≡ true). clash (any_intro n p k h t) e)))

pub count_le : (n : ℕ) (p : ℕ → Bool) → count_below n p ≤ n
count_le zero p = le_refl 0
count_le (suc n) p = cond_case' (p n) (count_le n p)
  where
    cond_case' : (b : Bool) → count_below n p ≤ n → count_below n p + one_if b ≤ suc n
    cond_case' true h = omega arith
    cond_case' false h = omega arith

-- a longer bound counts no fewer
pub count_mono : (n m : ℕ) (p : ℕ → Bool) → n ≤ m → count_below n p ≤ count_below m p
count_mono n zero p h = rw (le_zero h) (le_refl 0)
  where
    le_zero : n ≤ 0 → n ≡ 0
    le_zero g = omega arith
count_mono n (suc m) p h =
    ⊎_elim (λ (e : n ≡ suc m). rw e (le_refl (count_below (suc m) p)))
    (λ (l : n < suc m). le_trans (count_mono n m p (le_of_suc-le-suc l)) (le-add_right (count_below m p) (one_if (p m))))
    (eq-or-lt_of_le h)

-- tests that agree below n pass equally often there
pub count_same : (n : ℕ) (p q : ℕ → Bool) → ((k : ℕ) → k < n → p k ≡ q k) → count_below n p ≡ count_below n q
count_same zero p q f = refl
count_same (suc n) p q f = ap₂ (λ (a b : ℕ). a + b) (count_same n p q (λ k h. f k (le_step h))) (ap one_if (f n (lt-suc_self n)))

-- a test that passes wherever another does passes no less often
pub count_imp : (n : ℕ) (p q : ℕ → Bool) → ((k : ℕ) → k < n → p k ≡ true → q k ≡ true) → count_below n p ≤ count_below n q
count_imp zero p q f = le_refl 0
count_imp (suc n) p q f = add-le-add (count_imp n p q (λ k h. f k (le_step h))) (one_le (p n) (q n) (f n (lt-suc_self n)))
  where
    one_le : (a b : Bool) → (a ≡ true → b ≡ true) → one_if a ≤ one_if b
    one_le false b g = zero-le
    one_le true b g = rw (g refl) (le_refl 1)

pub greatest_above : (n : ℕ) (f : ℕ → ℕ) (k : ℕ) → k < n → f k ≤ greatest n f
greatest_above zero f k h = absurd (not-suc-le-zero h)
greatest_above (suc n) f k h =
    ⊎_elim (λ (e : k ≡ n). rw e (le-max_right (greatest n f) (f n)))
    (λ (l : k < n). le_trans (greatest_above n f k l) (le-max_left (greatest n f) (f n)))
    (below_suc h)

pub greatest_below : (n : ℕ) (f : ℕ → ℕ) (m : ℕ) → ((k : ℕ) → k < n → f k ≤ m) → greatest n f ≤ m
greatest_below zero f m h = zero-le
greatest_below (suc n) f m h = max-le (greatest_below n f m (λ k l. h k (le_step l))) (h n (lt-suc_self n))

-- a number below n at which f is v
abbrev pub Met : ℕ → (ℕ → ℕ) → ℕ → Type 0
Met n f v = (k : ℕ) × (k < n) × (f k ≡ v)

-- where it is not 0, the greatest is the value at some number below n
pub greatest_met : (n : ℕ) (f : ℕ → ℕ) → 0 < greatest n f → Met n f (greatest n f)
greatest_met zero f h = absurd (not-suc-le-zero h)
greatest_met (suc n) f h = by_cases (dec_le (f n) (greatest n f)) (older (greatest_met n f)) newer
  where
    older : (0 < greatest n f → Met n f (greatest n f)) → f n ≤ greatest n f → Met (suc n) f (max (greatest n f) (f n))
    older rest l =
        let r : Met n f (greatest n f) = rest (rw (max-eq_left l) at h) in
        (r.0, le_step r.1, r.2 ∙ sym (max-eq_left l))

    newer : ¬ (f n ≤ greatest n f) → Met (suc n) f (max (greatest n f) (f n))
    newer l = (n, lt-suc_self n, sym (max-eq_right (le_of_lt (lt_of_not-le l))))

-- where no number from i up passes, none is counted beyond i
pub count_rest : (i n : ℕ) (p : ℕ → Bool) → ((k : ℕ) → i ≤ k → k < n → p k ≡ false) → count_below n p ≤ count_below i p
count_rest i zero p f = zero-le
count_rest i (suc n) p f =
    by_cases (dec_le (suc n) i) (λ l. count_mono (suc n) i p l) (λ l. more (count_rest i n p (λ k a b. f k a (le_step b))) (f n (omega (arith, l)) (lt-suc_self n)))
  where
    more : count_below n p ≤ count_below i p → p n ≡ false → count_below (suc n) p ≤ count_below i p
    more h e = let z : one_if (p n) ≡ 0 = ap one_if e in omega arith

-- a test that passes at m too, where the other fails, and is the same elsewhere, passes once more
pub count_once : (n m : ℕ) (p q : ℕ → Bool) → m < n → p m ≡ false → ((k : ℕ) → k < n → ¬ (k ≡ m) → p k ≡ q k) → count_below n q ≡ count_below n p + one_if (q m)
count_once zero m p q h e f = absurd (not-suc-le-zero h)
count_once (suc n) m p q h e f = ⊎_elim here (λ (l : m < n). before (count_once n m p q l e (λ k a d. f k (le_step a) d)) (f n (lt-suc_self n) (λ (z : n ≡ m). absurd (omega arith)))) (below_suc h)
  where
    here : m ≡ n → count_below (suc n) q ≡ count_below (suc n) p + one_if (q m)
    here z =
        let a : count_below n p ≡ count_below n q = count_same n p q (λ k l. f k (le_step l) (λ (y : k ≡ m). absurd (omega arith))) in
        let b : one_if (p n) ≡ 0 = ap one_if (rw z at e) in
        let d : one_if (q m) ≡ one_if (q n) = ap (λ (x : ℕ). one_if (q x)) z in
        omega arith

    before : count_below n q ≡ count_below n p + one_if (q m) → p n ≡ q n → count_below (suc n) q ≡ count_below (suc n) p + one_if (q m)
    before a b = let d : one_if (p n) ≡ one_if (q n) = ap one_if b in omega arith

-- a number below n that passes, before which x numbers pass
pub record Nth (n : ℕ) (p : ℕ → Bool) (x : ℕ) : Type 0 where
  pub at : ℕ
  pub below : at < n
  pub passes : p at ≡ true
  pub before : count_below at p ≡ x

pub nth : (n : ℕ) (p : ℕ → Bool) (x : ℕ) → x < count_below n p → Nth n p x
nth zero p x h = absurd (not-suc-le-zero h)
nth (suc n) p x h = by_cases (dec_lt x (count_below n p)) (λ l. older (nth n p x l)) (λ l. test (p n) (newer l) (λ e. absurd (none_there l e)))
  where
    older : Nth n p x → Nth (suc n) p x
    older r = record { at = r.at; below = le_step r.below; passes = r.passes; before = r.before }

    newer : ¬ (x < count_below n p) → p n ≡ true → Nth (suc n) p x
    newer l e = record { at = n; below = lt-suc_self n; passes = e; before = let z : one_if (p n) ≡ 1 = ap one_if e in omega (arith, l) }

    none_there : ¬ (x < count_below n p) → p n ≡ false → ⊥
    none_there l e = let z : one_if (p n) ≡ 0 = ap one_if e in omega (arith, l)

-- one that passes counts for those after it
pub count_past : (p : ℕ → Bool) {i k : ℕ} → i < k → p i ≡ true → count_below i p < count_below k p
count_past p {i} {k} h e = let z : one_if (p i) ≡ 1 = ap one_if e in omega (arith, count_mono (suc i) k p h)

pub all_same : (n : ℕ) (p q : ℕ → Bool) → ((k : ℕ) → k < n → p k ≡ q k) → all_below n p ≡ all_below n q
all_same zero p q f = refl
all_same (suc n) p q f = ap₂ (λ (a b : Bool). a && b) (all_same n p q (λ k h. f k (le_step h))) (f n (lt-suc_self n))

pub any_same : (n : ℕ) (p q : ℕ → Bool) → ((k : ℕ) → k < n → p k ≡ q k) → any_below n p ≡ any_below n q
any_same zero p q f = refl
any_same (suc n) p q f = ap₂ (λ (a b : Bool). a || b) (any_same n p q (λ k h. f k (le_step h))) (f n (lt-suc_self n))

-- ---- the first number at which the test passes
-- it passes there
pub first_at : (n : ℕ) (p : ℕ → Bool) → first_below n p < n → p (first_below n p) ≡ true
first_at zero p h = absurd (not-suc-le-zero h)
first_at (suc n) p h =
    cond_case (λ (k : ℕ). k < suc n → p k ≡ true) (p 0) (λ e l. e) (λ e l. first_at n (λ i. p (suc i)) (le_of_suc-le-suc l)) h

-- nothing before it does
pub first_before : (n : ℕ) (p : ℕ → Bool) (k : ℕ) → k < first_below n p → p k ≡ false
first_before zero p k h = absurd (not-suc-le-zero h)
first_before (suc n) p k h =
    cond_case (λ (i : ℕ). k < i → p k ≡ false) (p 0) (λ e l. absurd (not-suc-le-zero l)) (rest (first_before n (λ i. p (suc i))) k) h
  where
    rest : ((j : ℕ) → j < first_below n (λ i. p (suc i)) → p (suc j) ≡ false) → (j : ℕ) → p 0 ≡ false → j < suc (first_below n (λ i. p (suc i))) → p j ≡ false
    rest f zero e l = e
    rest f (suc j) e l = f j (le_of_suc-le-suc l)

-- it is below n where there is one
pub first_below_lem : (n : ℕ) (p : ℕ → Bool) → any_below n p ≡ true → first_below n p < n
first_below_lem n p e =
    let f : Found n p = any_elim n p e in
    by_cases (dec_lt f.0 (first_below n p)) (λ (l : f.0 < first_below n p). clash f.2 (first_before n p f.0 l)) (λ l. omega (arith, l, f.1))

pub first_some : (n : ℕ) (p : ℕ → Bool) → any_below n p ≡ true → p (first_below n p) ≡ true
first_some n p e = first_at n p (first_below_lem n p e)

-- and n where there is none
pub first_none : (n : ℕ) (p : ℕ → Bool) → ((k : ℕ) → k < n → p k ≡ false) → first_below n p ≡ n
first_none zero p f = refl
first_none (suc n) p f = rw (f 0 (suc-le-suc zero-le)) (ap suc (first_none n (λ i. p (suc i)) (λ k h. f (suc k) (suc-le-suc h))))

-- one that passes with nothing before it is the first
pub first_is : (n : ℕ) (p : ℕ → Bool) (k : ℕ) → k < n → p k ≡ true → ((j : ℕ) → j < k → p j ≡ false) → first_below n p ≡ k
first_is zero p k h t f = absurd (not-suc-le-zero h)
first_is (suc n) p zero h t f = rw t
first_is (suc n) p (suc k) h t f =
    rw (f 0 (suc-le-suc zero-le)) (ap suc (first_is n (λ i. p (suc i)) k (le_of_suc-le-suc h) t (λ j l. f (suc j) (suc-le-suc l))))

pub occurs_append : (k : ℕ) (xs ys : List ℕ) → occurs k (xs ++ ys) ≡ occurs k xs + occurs k ys
occurs_append k [] ys = omega arith
occurs_append k (x ∷ xs) ys = let e : occurs k (xs ++ ys) ≡ occurs k xs + occurs k ys = occurs_append k xs ys in omega arith

-- a selected list has k as often as a number that is selected gives it
pub occurs_selected : (n : ℕ) (p : ℕ → Bool) (f : ℕ → ℕ) (k : ℕ) → occurs k (selected n p f) ≡ count_below n (λ i. p i && eqb (f i) k)
occurs_selected zero p f k = refl
occurs_selected (suc n) p f k =
    let e : occurs k (selected n p f) ≡ count_below n (λ i. p i && eqb (f i) k) = occurs_selected n p f k in
    omega (arith, occurs_append k (selected n p f) (cond (p n) (f n ∷ []) []), last (p n))
  where
    last : (b : Bool) → occurs k (cond b (f n ∷ []) []) ≡ one_if (b && eqb (f n) k)
    last true = omega arith
    last false = refl

-- ---- a test that passes at the first n numbers alone
module _ {A : Type 0} (p : ℕ → Bool) (f : ℕ → A) where
  selected_all : (w : ℕ) → ((k : ℕ) → k < w → p k ≡ true) → selected w p f ≡ tabulate w f
  selected_all zero e = refl
  selected_all (suc w) e = rw (e w (lt-suc_self w), selected_all w (λ k h. e k (le_step h)))

  pub selected_first : (w n : ℕ) → n ≤ w → ((k : ℕ) → k < n → p k ≡ true) → ((k : ℕ) → n ≤ k → k < w → p k ≡ false) → selected w p f ≡ tabulate n f
  selected_first zero n h below above = rw (empty h)
    where
      empty : n ≤ 0 → n ≡ 0
      empty g = omega arith
  selected_first (suc w) n h below above =
      by_cases (dec_le n w)
      (λ l. rw (above w l (lt-suc_self w)) (append-nil (selected w p f) ∙ selected_first w n l below (λ k a b. above k a (le_step b))))
      (λ l. let q : n ≡ suc w = omega (arith, l) in rw q (selected_all (suc w) (λ k a. below k (omega arith))))

pub count_first : (p : ℕ → Bool) (w n : ℕ) → n ≤ w → ((k : ℕ) → k < n → p k ≡ true) → ((k : ℕ) → n ≤ k → k < w → p k ≡ false) → count_below w p ≡ n
count_first p w n h below above = le_antisymm (le_trans (count_rest n w p above) (count_le n p)) (le_trans (full n below) (count_mono n w p h))
  where
    full : (k : ℕ) → ((i : ℕ) → i < k → p i ≡ true) → k ≤ count_below k p
    full zero e = zero-le
    full (suc k) e = let z : one_if (p k) ≡ 1 = ap one_if (e k (lt-suc_self k)) in omega (arith, full k (λ i l. e i (le_step l)))
