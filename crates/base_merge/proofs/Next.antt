-- The least of numbers of which 0 is none, and the least above another that passes one test or another. Assumes nothing.
use Prim.Native.Nat.{ℕ, zero, suc, ◌+◌, ◌≤◌, ◌<◌, zero-le}
use mathlib.Core.Path.{◌≡◌, refl, sym, ◌∙◌, ap, ap₂, subst}
use mathlib.Core.Bool.{Bool, false, ◌||◌, cond}
use mathlib.Core.Logic.{by_cases}
use native.Mathlib.Nat.{le_step, lt-suc_self}
use native.Mathlib.Decide.{dec_lt, ℕ_discrete}
use native.Mathlib.Numerals.{add-one}
use native.Mathlib.Omega.{arith}
use lib.Dec.{eqb, ltb}
use borrow.Author.Tests.{lt-ltb, le-ltb, eq-eqb, ne_eqb}
use Rattle.base_laws.specs.Below.{any_below}
use Rattle.base_laws.proofs.Logic.{or_left, or_right}
use Rattle.base_merge.specs.Merge.{NextOf, lesser, least_below}

-- ---- the least above k that passes a test
pub next_none : {k : ℕ} → NextOf (λ j. false) k 0
next_none = record { none = λ e j h. refl; above = λ h. absurd (h refl); passes = λ h. absurd (h refl); least = λ j h l. refl }

or_false : {a b : Bool} → a ≡ false → b ≡ false → a || b ≡ false
or_false e d = rw (e, d)

-- of two tests
pub next_either : (p q : ℕ → Bool) (k a b : ℕ) → NextOf p k a → NextOf q k b → NextOf (λ j. p j || q j) k (lesser a b)
next_either p q k a b r s = by_cases (ℕ_discrete a 0) first (λ (h : ¬ (a ≡ 0)). by_cases (ℕ_discrete b 0) (second h) (both h))
  where
    P : ℕ → Type 0
    P x = NextOf (λ j. p j || q j) k x

    first : a ≡ 0 → P (lesser a b)
    first e =
        let l : lesser a b ≡ b = ap (λ (t : Bool). cond t b (cond (eqb b 0) a (cond (ltb a b) a b))) (eq-eqb a 0 e) in
        subst P (sym l) (record {
          none = λ z j h. or_false (r.none e j h) (s.none z j h);
          above = s.above;
          passes = λ z. or_right (p b) (s.passes z);
          least = λ j h u. or_false (r.none e j h) (s.least j h u);
        })

    second : ¬ (a ≡ 0) → b ≡ 0 → P (lesser a b)
    second n e =
        let l : lesser a b ≡ a = ap₂ (λ (t u : Bool). cond t b (cond u a (cond (ltb a b) a b))) (ne_eqb a 0 n) (eq-eqb b 0 e) in
        subst P (sym l) (record {
          none = λ z j h. absurd (n z);
          above = r.above;
          passes = λ z. or_left (q a) (r.passes z);
          least = λ j h u. or_false (r.least j h u) (s.none e j h);
        })

    less : ¬ (a ≡ 0) → ¬ (b ≡ 0) → a < b → P (lesser a b)
    less n m g =
        let l : lesser a b ≡ a = ap₂ (λ (t u : Bool). cond t b (cond u a (cond (ltb a b) a b))) (ne_eqb a 0 n) (ne_eqb b 0 m) ∙ ap (λ (t : Bool). cond t a b) (lt-ltb a b g) in
        subst P (sym l) (record {
          none = λ z j h. absurd (n z);
          above = r.above;
          passes = λ z. or_left (q a) (r.passes z);
          least = λ j h u. or_false (r.least j h u) (s.least j h (omega arith));
        })

    more : ¬ (a ≡ 0) → ¬ (b ≡ 0) → ¬ (a < b) → P (lesser a b)
    more n m g =
        let g' : b ≤ a = omega (arith, g) in
        let l : lesser a b ≡ b = ap₂ (λ (t u : Bool). cond t b (cond u a (cond (ltb a b) a b))) (ne_eqb a 0 n) (ne_eqb b 0 m) ∙ ap (λ (t : Bool). cond t a b) (le-ltb a b g') in
        subst P (sym l) (record {
          none = λ z j h. absurd (m z);
          above = s.above;
          passes = λ z. or_right (p b) (s.passes z);
          least = λ j h u. or_false (r.least j h (omega arith)) (s.least j h u);
        })

    both : ¬ (a ≡ 0) → ¬ (b ≡ 0) → P (lesser a b)
    both n m = by_cases (dec_lt a b) (less n m) (more n m)

-- of the tests below n
pub next_least : (n : ℕ) (f : ℕ → ℕ → Bool) (v : ℕ → ℕ) (k : ℕ) → ((i : ℕ) → i < n → NextOf (f i) k (v i)) → NextOf (λ j. any_below n (λ i. f i j)) k (least_below n v)
next_least zero f v k h = next_none
next_least (suc n) f v k h =
    next_either (λ j. any_below n (λ i. f i j)) (f n) k (least_below n v) (v n) (next_least n f v k (λ i l. h i (le_step l))) (h n (lt-suc_self n))

-- the same of a test that is equal above k
pub next_same : {p : ℕ → Bool} (q : ℕ → Bool) {k r : ℕ} → ((j : ℕ) → k < j → q j ≡ p j) → NextOf p k r → NextOf q k r
next_same {p} q {k} {r} e s =
    record {
      none = λ z j h. e j h ∙ s.none z j h;
      above = s.above;
      passes = λ n. e r (s.above n) ∙ s.passes n;
      least = λ j h u. e j h ∙ s.least j h u;
    }

-- ---- a loop that finds the least of f so far
pub record LeastSoFar (n : ℕ) (f : ℕ → ℕ) (best i : ℕ) : Type 0 where
  pub within : i ≤ n
  pub so : best ≡ least_below i f

pub least_none : {n : ℕ} {f : ℕ → ℕ} → LeastSoFar n f 0 0
least_none = record { within = zero-le; so = refl }

pub least_more : {n : ℕ} {f : ℕ → ℕ} {best i v r : ℕ} → LeastSoFar n f best i → i < n → v ≡ f i → r ≡ lesser best v → LeastSoFar n f r (i + 1)
least_more {n} {f} {best} {i} {v} {r} s h e d =
    record { within = omega arith; so = d ∙ ap₂ lesser s.so e ∙ ap (λ (m : ℕ). least_below m f) (sym (add-one i)) }

pub least_done : {n : ℕ} {f : ℕ → ℕ} {best i : ℕ} → LeastSoFar n f best i → n ≤ i → best ≡ least_below n f
least_done {n} {f} {best} {i} s h =
    let l : i ≤ n = s.within in
    let e : i ≡ n = omega arith in
    s.so ∙ ap (λ (m : ℕ). least_below m f) e
