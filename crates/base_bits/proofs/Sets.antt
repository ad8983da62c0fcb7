-- Laws of sets as tests, over any width: what is in them, how many, the lowest, and when one holds another. Assumes nothing.
use Prim.Native.Nat.{ℕ, zero, suc, ◌+◌, ◌≤◌, ◌<◌}
use mathlib.Core.Path.{◌≡◌, refl, sym, ◌∙◌, ap}
use mathlib.Core.Bool.{Bool, true, false, not, ◌&&◌, ◌||◌}
use mathlib.Core.Logic.{⊎_elim}
use native.Mathlib.Nat.{le_step, lt-suc_self}
use native.Mathlib.Omega.{arith}
use lib.Dec.{eqb, ltb}
use borrow.Author.Tests.{lt-ltb, ltb-false, eq-eqb, ne_eqb}
use Rattle.base_laws.specs.Below.{one_if, any_below, count_below}
use Rattle.base_laws.proofs.Logic.{test, clash, or_elim, or_left, or_right, fails, not_intro}
use Rattle.base_laws.proofs.Below.{all_at, all_intro, any_intro, any_elim, count_mono, Found}
use Rattle.base_bits.specs.Sets.{either, except, below, truncate, subset}

-- sets with the same cards are equal
pub same_cards : {p q : ℕ → Bool} → ((i : ℕ) → p i ≡ q i) → p ≡ q
same_cards f = λ d i. f i d

-- a set all of whose cards are below w has room there
pub truncate_inside : (w : ℕ) (p : ℕ → Bool) → ((i : ℕ) → w ≤ i → p i ≡ false) → truncate w p ≡ p
truncate_inside w p out = same_cards (λ i. test (ltb i w) (λ e. rw e) (λ e. rw (e, out i (ltb-false i w e))))

-- what is put into a set below w is truncate alike before and after
pub either_truncate : (w : ℕ) (p q : ℕ → Bool) → ((i : ℕ) → w ≤ i → p i ≡ false) → either p (truncate w q) ≡ truncate w (either p q)
either_truncate w p q out = same_cards (λ i. test (ltb i w) (λ e. rw e) (λ e. rw (e, out i (ltb-false i w e))))

-- and what is taken out of it need not be truncate
pub except_truncate : (w : ℕ) (p q : ℕ → Bool) → ((i : ℕ) → w ≤ i → p i ≡ false) → except p (truncate w q) ≡ except p q
except_truncate w p q out = same_cards (λ i. test (ltb i w) (λ e. rw e) (λ e. rw (e, out i (ltb-false i w e))))

-- ---- one set in another

pub subset_at : (w : ℕ) (p q : ℕ → Bool) → subset w p q ≡ true → (k : ℕ) → k < w → p k ≡ true → q k ≡ true
subset_at w p q e k h t = ⊎_elim (λ f. clash t (unnot (p k) f)) (λ f. f) (or_elim (not (p k)) (q k) (all_at w (λ i. not (p i) || q i) e k h))
  where
    unnot : (b : Bool) → not b ≡ true → b ≡ false
    unnot true f = sym f
    unnot false f = refl

pub subset_intro : (w : ℕ) (p q : ℕ → Bool) → ((k : ℕ) → k < w → p k ≡ true → q k ≡ true) → subset w p q ≡ true
subset_intro w p q f =
    all_intro w (λ i. not (p i) || q i) (λ k h. test (p k) (λ e. or_right (not (p k)) (f k h e)) (λ e. or_left (q k) (not_intro e)))

-- every card below w is below a bound that is no less
pub subset_below : (w n : ℕ) (p : ℕ → Bool) → w ≤ n → subset w p (below n) ≡ true
subset_below w n p h = subset_intro w p (below n) (λ k l t. lt-ltb k n (omega arith))

-- nothing of p is left without q where p is in q
pub empty_except : (w : ℕ) (p q : ℕ → Bool) → not (any_below w (except p q)) ≡ subset w p q
empty_except zero p q = refl
empty_except (suc w) p q = parts (any_below w (except p q)) (p w) (q w) ∙ ap (λ (b : Bool). b && (not (p w) || q w)) (empty_except w p q)
  where
    parts : (a b d : Bool) → not (a || b && not d) ≡ not a && (not b || d)
    parts true b d = refl
    parts false true true = refl
    parts false true false = refl
    parts false false d = refl

-- ---- how many

pub count_none : (w : ℕ) (p : ℕ → Bool) → ((k : ℕ) → k < w → p k ≡ false) → count_below w p ≡ 0
count_none zero p f = refl
count_none (suc w) p f = let a : count_below w p ≡ 0 = count_none w p (λ k h. f k (le_step h)) in let b : one_if (p w) ≡ 0 = ap one_if (f w (lt-suc_self w)) in omega arith

-- a set that counts 0 is empty
pub none_of_count : (w : ℕ) (p : ℕ → Bool) → count_below w p ≡ 0 → (k : ℕ) → k < w → p k ≡ false
none_of_count w p e k h = fails (p k) (λ t. counted (ap one_if t))
  where
    counted : one_if (p k) ≡ 1 → ⊥
    counted z = omega (arith, count_mono (suc k) w p h)

-- a set is empty where it counts 0, as one test
pub count_empty : (w : ℕ) (p : ℕ → Bool) → eqb (count_below w p) 0 ≡ not (any_below w p)
count_empty w p =
    test (any_below w p) (λ e. ne_eqb _ _ (λ (z : count_below w p ≡ 0). hit z (any_elim w p e)) ∙ sym (ap not e))
    (λ e. eq-eqb _ _ (count_none w p (λ k h. fails (p k) (λ t. clash (any_intro w p k h t) e))) ∙ sym (ap not e))
  where
    hit : count_below w p ≡ 0 → Found w p → ⊥
    hit z f = clash f.2 (none_of_count w p z f.0 f.1)

-- one test fewer at the front
pub count_front : (w : ℕ) (p : ℕ → Bool) → count_below (suc w) p ≡ count_below w (λ i. p (suc i)) + one_if (p 0)
count_front zero p = refl
count_front (suc w) p = let a : _ = count_front w p in omega arith
