-- The numbers below a bound that pass a test, as a list: each once, in rising order, whatever the bound. Assumes nothing.
use Prim.Native.Nat.{ℕ, zero, suc, ◌+◌, ◌≤◌, ◌<◌}
use mathlib.Core.Path.{◌≡◌, refl, sym, ◌∙◌, ap, ap₂}
use mathlib.Core.Bool.{Bool, true, false, ◌&&◌, cond}
use mathlib.Core.Logic.{by_cases}
use mathlib.Core.List.{List, [], ◌∷◌, ◌++◌, append-nil}
use native.Mathlib.Nat.{zero-add, not-suc-le-zero}
use native.Mathlib.Decide.{dec_lt, ℕ_discrete}
use native.Mathlib.Omega.{arith}
use lib.Dec.{eqb}
use lib.ListN.{length, get_or, length-append, get_or-append}
use lib.Seq.{get_or-append_seam}
use borrow.Author.Tests.{eq-eqb, eqb-true}
use Rattle.base_laws.specs.Below.{one_if, count_below, selected, occurs}
use Rattle.base_laws.specs.Order.{InRisingOrder, StandsBefore}
use Rattle.base_laws.proofs.Logic.{test, fails, and_right}
use Rattle.base_laws.proofs.Below.{count_rest, count_once, occurs_selected}

-- the numbers below n that pass
abbrev pub those : (ℕ → Bool) → ℕ → List ℕ
those p n = selected n p (λ k. k)

-- ---- each once
count_none : (n : ℕ) (q : ℕ → Bool) → ((i : ℕ) → i < n → q i ≡ false) → count_below n q ≡ 0
count_none n q h = let l : count_below n q ≤ count_below 0 q = count_rest 0 n q (λ i a b. h i b) in omega arith

pub those_once : (p : ℕ → Bool) (n k : ℕ) → (p k ≡ true → k < n) → occurs k (those p n) ≡ one_if (p k)
those_once p n k h =
    occurs_selected n p (λ i. i) k
    ∙ by_cases (dec_lt k n)
    (λ l. count_once n k (λ i. false) (λ i. p i && eqb i k) l refl (λ i a b. sym (apart i b))
    ∙ ap₂ (λ (x y : ℕ). x + y) (count_none n (λ i. false) (λ i a. refl)) (ap one_if (here (p k))) ∙ zero-add (one_if (p k)))
    (λ l. count_none n (λ i. p i && eqb i k) (λ i a. apart i (λ (q : i ≡ k). absurd (omega (arith, l, a, q)))) ∙ sym (ap one_if (fails (p k) (λ e. absurd (omega (arith, l, h e))))))
  where
    apart : (i : ℕ) → ¬ (i ≡ k) → p i && eqb i k ≡ false
    apart i b = fails (p i && eqb i k) (λ e. b (eqb-true i k (and_right (p i) (eqb i k) e)))

    here : (b : Bool) → b && eqb k k ≡ b
    here true = eq-eqb k k refl
    here false = refl

-- ---- the bound does not matter
-- no number between passes
pub flat : (p : ℕ → Bool) (m k : ℕ) → k < m → ((j : ℕ) → k < j → j < m → p j ≡ false) → those p m ≡ those p (suc k)
flat p zero k h f = absurd (not-suc-le-zero h)
flat p (suc m) k h f = by_cases (ℕ_discrete k m) (λ (q : k ≡ m). ap (λ (i : ℕ). those p (suc i)) (sym q)) (λ (n : ¬ (k ≡ m)). before n (flat p m k (omega (arith, n)) (λ j a b. f j a (omega arith))))
  where
    before : ¬ (k ≡ m) → those p m ≡ those p (suc k) → those p (suc m) ≡ those p (suc k)
    before n e = ap₂ (λ (l : List ℕ) (b : Bool). l ++ cond b (m ∷ []) []) e (f m (omega (arith, n)) (omega arith)) ∙ append-nil (those p (suc k))

-- none passes above either of two bounds
pub those_same : (p : ℕ → Bool) (a b : ℕ) → ((j : ℕ) → a < j → p j ≡ false) → ((j : ℕ) → b < j → p j ≡ false) → those p (suc a) ≡ those p (suc b)
those_same p a b f g =
    by_cases (dec_lt a b) (λ (h : a < b). sym (flat p (suc b) a (omega arith) (λ j l u. f j l)))
    (λ (h : ¬ (a < b)). flat p (suc a) b (omega (arith, h)) (λ j l u. g j l))

-- ---- in rising order
-- a list whose numbers are all below x
abbrev AllBelow : List ℕ → ℕ → Type 0
AllBelow xs x = (i : ℕ) → i < length xs → get_or xs i 0 < x

-- what is said of a list longer by one: of its first places, and of the last
snoc_places : (xs : List ℕ) (x : ℕ) (P : ℕ → ℕ → Type 0) → ((i : ℕ) → i < length xs → P i (get_or xs i 0)) → P (length xs) x → (i : ℕ) → i < length (xs ++ (x ∷ [])) → P i (get_or (xs ++ (x ∷ [])) i 0)
snoc_places xs x P f l i h =
    by_cases (dec_lt i (length xs)) (λ (a : i < length xs). rw (get_or-append xs (x ∷ []) 0 i a) (f i a))
    (λ (a : ¬ (i < length xs)). let q : i ≡ length xs = omega (arith, a, h, length-append xs (x ∷ [])) in rw (q, get_or-append_seam xs x [] 0) l)

snoc_rises : (xs : List ℕ) (x : ℕ) → InRisingOrder xs → AllBelow xs x → InRisingOrder (xs ++ (x ∷ []))
snoc_rises xs x r b i k h l =
    snoc_places xs x (λ n y. i < n → get_or (xs ++ (x ∷ [])) i 0 < y)
    (λ n a u. rw (get_or-append xs (x ∷ []) 0 i (omega (arith, a, u))) (r i n u a))
    (λ u. rw (get_or-append xs (x ∷ []) 0 i u) (b i u)) k l h

below_later : (xs : List ℕ) (n : ℕ) → AllBelow xs n → AllBelow xs (suc n)
below_later xs n b i h = let z : get_or xs i 0 < n = b i h in omega arith

those_below : (p : ℕ → Bool) (n : ℕ) → AllBelow (those p n) n
those_below p zero = λ i h. absurd (not-suc-le-zero h)
those_below p (suc n) =
    test (p n) (λ e. rw e (snoc_places (those p n) n (λ i y. y < suc n) (below_later (those p n) n (those_below p n)) (omega arith)))
    (λ e. rw (e, append-nil (those p n)) (below_later (those p n) n (those_below p n)))

pub those_rise : (p : ℕ → Bool) (n : ℕ) → InRisingOrder (those p n)
those_rise p zero = λ i k h l. absurd (not-suc-le-zero l)
those_rise p (suc n) = test (p n) (λ e. rw e (snoc_rises (those p n) n (those_rise p n) (those_below p n))) (λ e. rw (e, append-nil (those p n)) (those_rise p n))

-- ---- of two numbers of such a list the lesser stands first
-- a place where k stands
record Place (k : ℕ) (xs : List ℕ) : Type 0 where
  at : ℕ
  in_list : at < length xs
  holds : get_or xs at 0 ≡ k

place_of : (k : ℕ) (xs : List ℕ) → 0 < occurs k xs → Place k xs
place_of k [] h = absurd (not-suc-le-zero h)
place_of k (x ∷ xs) h =
    test (eqb x k) (λ e. record { at = 0; in_list = omega arith; holds = eqb-true x k e })
    (λ e. let r : Place k xs = place_of k xs (omega (arith, h, ap one_if e)) in record { at = suc r.at; in_list = omega (arith, r.in_list); holds = r.holds })

pub stands_before : (xs : List ℕ) (x y : ℕ) → InRisingOrder xs → 0 < occurs x xs → 0 < occurs y xs → x < y → StandsBefore x y xs
stands_before xs x y r a b l =
    by_cases (dec_lt p.at q.at)
    (λ (h : p.at < q.at). record { i = p.at; k = q.at; earlier = h; in_list = q.in_list; first = p.holds; second = q.holds })
    (λ (h : ¬ (p.at < q.at)). by_cases (ℕ_discrete p.at q.at)
    (λ (e : p.at ≡ q.at). absurd (omega (arith, l, p.holds, q.holds, ap (λ (i : ℕ). get_or xs i 0) e)))
    (λ (e : ¬ (p.at ≡ q.at)). absurd (omega (arith, l, p.holds, q.holds, r q.at p.at (omega (arith, h, e)) p.in_list))))
  where
    p : Place x xs
    p = place_of x xs a

    q : Place y xs
    q = place_of y xs b
