-- Laws of a number as a set of cards, over any width: its digits one by one, its operations as operations on sets,
-- a number known by its members, their count and the lowest. Assumes nothing.
use Prim.Native.Nat.{ℕ, zero, suc, ◌+◌, ◌-◌, ◌*◌, ◌/◌, ◌%◌, ◌^◌, ◌≤◌, ◌<◌, zero-le, suc-le-suc, min, max}
use mathlib.Core.Path.{◌≡◌, refl, sym, ◌∙◌, ap, ap₂}
use mathlib.Core.Bool.{Bool, true, false, not, ◌&&◌, ◌||◌, cond}
use native.Mathlib.Nat.{div-one, div-eq_of_lt, div-add-mod', mod-lt, pow-suc, zero-lt-suc, le_trans, lt_of_le_of_lt, add-zero, add_comm, one-mul, add-sub_of_le, le-add_right}
use native.Mathlib.Numerals.{one-add}
use native.Mathlib.Omega.{arith}
use lib.Arith.{lt-one, digits_div, digits_mod}
use lib.Bits.{bit_and, bit_or, and_step, or_step}
use lib.Count.{ones, count_trailing_zeros, under, ones_step}
use lib.Dec.{eqb, ltb, leb-suc-suc, eqb-zero-suc, eqb-suc-zero, eqb-suc-suc}
use lib.Pow.{pow_pos, pow_mono, shr-shr, shr_le, shl_exact}
use borrow.Author.Tests.{lt-ltb, le-ltb, ltb-true, ltb-false, eq-eqb, ne_eqb, eqb-true}
use Rattle.base_laws.specs.Below.{one_if, any_below, count_below, first_below}
use Rattle.base_laws.proofs.Logic.{test, clash, fails, same_test}
use Rattle.base_laws.proofs.Below.{any_intro, any_elim, Found}
use Rattle.base_bits.specs.Sets.{either, both, except, one, below, truncate, subset}
use Rattle.base_bits.specs.Member.{member, number}
use Rattle.base_bits.proofs.Sets.{same_cards, truncate_inside, subset_at, subset_intro, count_front}

-- ---- one digit, and the rest

-- a digit is 0 or 1
digit_case : (P : ℕ → Type 0) → P 0 → P 1 → (x : ℕ) → x < 2 → P x
digit_case P a b zero h = a
digit_case P a b (suc zero) h = b
digit_case P a b (suc (suc x)) h = absurd (omega arith)

two_digits : (P : ℕ → ℕ → Type 0) → P 0 0 → P 0 1 → P 1 0 → P 1 1 → (x y : ℕ) → x < 2 → y < 2 → P x y
two_digits P a b d e x y h l = digit_case (λ (i : ℕ). P i y) (digit_case (P 0) a b y l) (digit_case (P 1) d e y l) x h

odd_lt : (x : ℕ) → x % 2 < 2
odd_lt x = mod-lt x (zero-lt-suc 1)

-- the lowest card is the lowest digit
pub member_zero : (x : ℕ) → member x 0 ≡ eqb (x % 2) 1
member_zero x = ap (λ (n : ℕ). eqb (n % 2) 1) (div-one x)

-- and counts as that digit
low_digit : (x : ℕ) → one_if (member x 0) ≡ x % 2
low_digit x = ap one_if (member_zero x) ∙ digit_case (λ (d : ℕ). one_if (eqb d 1) ≡ d) refl refl (x % 2) (odd_lt x)

-- every other card is a card of the half
pub member_suc : (x i : ℕ) → member x (suc i) ≡ member (x / 2) i
member_suc x i = ap (λ (n : ℕ). eqb (n % 2) 1) (ap (λ (k : ℕ). x / 2 ^ k) (sym (one-add i)) ∙ sym (shr-shr x 1 i))

-- a shift moves the cards down
pub member_shift : (x k i : ℕ) → member (x / 2 ^ k) i ≡ member x (k + i)
member_shift x k i = ap (λ (n : ℕ). eqb (n % 2) 1) (shr-shr x k i)

-- a number by its lowest digit and the rest, as a set
member_split : (h d : ℕ) → d < 2 → (i : ℕ) → member (h * 2 + d) (suc i) ≡ member h i
member_split h d l i = member_suc (h * 2 + d) i ∙ ap (λ (x : ℕ). member x i) (digits_div h l)

member_low : (h d : ℕ) → d < 2 → member (h * 2 + d) 0 ≡ eqb d 1
member_low h d l = member_zero (h * 2 + d) ∙ ap (λ (x : ℕ). eqb x 1) (digits_mod h l)

-- 0 is the empty set
pub member_none : (i : ℕ) → member 0 i ≡ false
member_none zero = member_zero 0
member_none (suc i) = member_suc 0 i ∙ member_none i

-- a number below 2 ^ w has no card at or above w
pub member_above : (w x i : ℕ) → x < 2 ^ w → w ≤ i → member x i ≡ false
member_above w x i h l = ap (λ (n : ℕ). eqb (n % 2) 1) (div-eq_of_lt (le_trans h (pow_mono l)))

-- ---- a number by its halves

not_halves : (w x : ℕ) → x < 2 ^ suc w → (2 ^ suc w - 1) - x ≡ ((2 ^ w - 1) - x / 2) * 2 + (1 - x % 2)
not_halves w x h = omega arith

ones_halves : (n : ℕ) → 2 ^ suc n - 1 ≡ (2 ^ n - 1) * 2 + 1
ones_halves n = omega (arith, pow_pos n)

one_if_lt : (b : Bool) → one_if b < 2
one_if_lt true = omega arith
one_if_lt false = omega arith

one_if_test : (b : Bool) → eqb (one_if b) 1 ≡ b
one_if_test true = refl
one_if_test false = refl

-- ---- the operations

module _ (op f : ℕ → ℕ → ℕ) (g : Bool → Bool → Bool)
    (step : (a b : ℕ) → op a b ≡ op (a / 2) (b / 2) * 2 + f (a % 2) (b % 2))
    (small : (x y : ℕ) → x < 2 → y < 2 → f x y < 2)
    (told : (x y : ℕ) → x < 2 → y < 2 → eqb (f x y) 1 ≡ g (eqb x 1) (eqb y 1)) where
  member_op : (a b i : ℕ) → member (op a b) i ≡ g (member a i) (member b i)
  member_op a b zero =
      ap (λ (x : ℕ). member x 0) (step a b)
      ∙ member_low (op (a / 2) (b / 2)) (f (a % 2) (b % 2)) (small (a % 2) (b % 2) (odd_lt a) (odd_lt b))
      ∙ told (a % 2) (b % 2) (odd_lt a) (odd_lt b)
      ∙ ap₂ g (sym (member_zero a)) (sym (member_zero b))
  member_op a b (suc i) =
      ap (λ (x : ℕ). member x (suc i)) (step a b)
      ∙ member_split (op (a / 2) (b / 2)) (f (a % 2) (b % 2)) (small (a % 2) (b % 2) (odd_lt a) (odd_lt b)) i
      ∙ member_op (a / 2) (b / 2) i
      ∙ ap₂ g (sym (member_suc a i)) (sym (member_suc b i))

pub member_or : (a b i : ℕ) → member (bit_or a b) i ≡ either (member a) (member b) i
member_or =
    member_op bit_or max (λ x y. x || y) or_step (λ x y h l. omega arith)
    (two_digits (λ x y. eqb (max x y) 1 ≡ eqb x 1 || eqb y 1) refl refl refl refl)

pub member_and : (a b i : ℕ) → member (bit_and a b) i ≡ both (member a) (member b) i
member_and =
    member_op bit_and min (λ x y. x && y) and_step (λ x y h l. omega arith)
    (two_digits (λ x y. eqb (min x y) 1 ≡ eqb x 1 && eqb y 1) refl refl refl refl)

-- the complement to w digits
pub member_not : (w x i : ℕ) → x < 2 ^ w → i < w → member ((2 ^ w - 1) - x) i ≡ not (member x i)
member_not zero x i h l = absurd (omega arith)
member_not (suc w) x zero h l =
    ap (λ (n : ℕ). member n 0) (not_halves w x h)
    ∙ member_low ((2 ^ w - 1) - x / 2) (1 - x % 2) (omega arith)
    ∙ digit_case (λ (d : ℕ). eqb (1 - d) 1 ≡ not (eqb d 1)) refl refl (x % 2) (odd_lt x)
    ∙ ap not (sym (member_zero x))
member_not (suc w) x (suc i) h l =
    ap (λ (n : ℕ). member n (suc i)) (not_halves w x h)
    ∙ member_split ((2 ^ w - 1) - x / 2) (1 - x % 2) (omega arith) i
    ∙ member_not w (x / 2) i (omega arith) (omega arith)
    ∙ ap not (sym (member_suc x i))

-- the cards of a that are not in b
pub member_except : (w a b : ℕ) → a < 2 ^ w → b < 2 ^ w → (i : ℕ) → member (bit_and a ((2 ^ w - 1) - b)) i ≡ except (member a) (member b) i
member_except w a b ha hb i =
    member_and a ((2 ^ w - 1) - b) i ∙ test (ltb i w) (λ e. ap (λ (t : Bool). member a i && t) (member_not w b i hb (ltb-true i w e))) (λ e. rw (member_above w a i ha (ltb-false i w e)))

-- a power of two is one card
pub member_one : (c i : ℕ) → member (2 ^ c) i ≡ one c i
member_one zero zero = member_zero 1
member_one zero (suc i) = member_suc 1 i ∙ member_none i ∙ sym (eqb-suc-zero i)
member_one (suc c) zero = ap (λ (n : ℕ). member n 0) (pow-suc 2 c ∙ sym (add-zero (2 ^ c * 2))) ∙ member_low (2 ^ c) 0 (omega arith) ∙ sym (eqb-zero-suc c)
member_one (suc c) (suc i) =
    ap (λ (n : ℕ). member n (suc i)) (pow-suc 2 c ∙ sym (add-zero (2 ^ c * 2)))
    ∙ member_split (2 ^ c) 0 (omega arith) i
    ∙ member_one c i
    ∙ sym (eqb-suc-suc i c)

-- one less than a power of two is every card below it
pub member_below : (n i : ℕ) → member (2 ^ n - 1) i ≡ below n i
member_below zero i = member_none i ∙ sym (le-ltb i 0 zero-le)
member_below (suc n) zero = ap (λ (x : ℕ). member x 0) (ones_halves n) ∙ member_low (2 ^ n - 1) 1 (omega arith) ∙ sym (lt-ltb 0 (suc n) (zero-lt-suc n))
member_below (suc n) (suc i) =
    ap (λ (x : ℕ). member x (suc i)) (ones_halves n)
    ∙ member_split (2 ^ n - 1) 1 (omega arith) i
    ∙ member_below n i
    ∙ sym (leb-suc-suc (suc i) n)

-- ---- one card, and every card below a bound, to w digits

-- 1 moved up to a place that there is
pub shifted_one : (w c : ℕ) → c < w → (1 * 2 ^ c) % 2 ^ w ≡ 2 ^ c
shifted_one w c h = shl_exact 1 c w (omega arith) (omega arith) ∙ one-mul (2 ^ c)

pub one_inside : (w c : ℕ) → c < w → member ((1 * 2 ^ c) % 2 ^ w) ≡ truncate w (one c)
one_inside w c h =
    ap member (shifted_one w c h) ∙ same_cards (member_one c)
    ∙ sym (truncate_inside w (one c) (λ i l. ne_eqb i c (λ (e : i ≡ c). absurd (omega arith))))

pub one_outside : (w c : ℕ) → w ≤ c → member 0 ≡ truncate w (one c)
one_outside w c h =
    same_cards (λ i. member_none i ∙ sym (test (ltb i w) (λ e. rw (e, ne_eqb i c (λ (q : i ≡ c). absurd (omega (arith, ltb-true i w e))))) (λ e. rw e)))

pub below_inside : (w n : ℕ) → n < w → member ((1 * 2 ^ n) % 2 ^ w - 1) ≡ truncate w (below n)
below_inside w n h =
    ap (λ (x : ℕ). member (x - 1)) (shifted_one w n h) ∙ same_cards (member_below n)
    ∙ sym (truncate_inside w (below n) (λ i l. le-ltb i n (omega arith)))

pub below_outside : (w n : ℕ) → w ≤ n → member (2 ^ w - 1) ≡ truncate w (below n)
below_outside w n h =
    same_cards (λ i. member_below w i ∙ sym (test (ltb i w) (λ e. rw (e, lt-ltb i n (omega (arith, ltb-true i w e)))) (λ e. rw e)))

-- ---- a number is known by its members

-- the members of the number that stands for a set are the cards of the set
pub member_number : (w : ℕ) (p : ℕ → Bool) (i : ℕ) → member (number w p) i ≡ truncate w p i
member_number zero p i = member_none i ∙ sym (ap (λ (b : Bool). b && p i) (le-ltb i 0 zero-le))
member_number (suc w) p zero =
    member_low (number w (λ i. p (suc i))) (one_if (p 0)) (one_if_lt (p 0)) ∙ one_if_test (p 0) ∙ sym (ap (λ (b : Bool). b && p 0) (lt-ltb 0 (suc w) (zero-lt-suc w)))
member_number (suc w) p (suc i) =
    member_split (number w (λ i. p (suc i))) (one_if (p 0)) (one_if_lt (p 0)) i
    ∙ member_number w (λ i. p (suc i)) i
    ∙ sym (ap (λ (b : Bool). b && p (suc i)) (leb-suc-suc (suc i) w))

pub number_lt : (w : ℕ) (p : ℕ → Bool) → number w p < 2 ^ w
number_lt zero p = omega arith
number_lt (suc w) p = let a : _ = number_lt w (λ i. p (suc i)) in omega (arith, one_if_lt (p 0))

-- the number that stands for the members of x is x
pub number_members : (w x : ℕ) → x < 2 ^ w → number w (member x) ≡ x
number_members zero x h = omega arith
number_members (suc w) x h =
    ap₂ (λ (p : ℕ → Bool) (d : ℕ). number w p * 2 + d) (same_cards (member_suc x)) (low_digit x)
    ∙ ap (λ (n : ℕ). n * 2 + x % 2) (number_members w (x / 2) (omega arith))
    ∙ div-add-mod' x 2

-- sets that agree below w have one number
pub number_same : (w : ℕ) (p q : ℕ → Bool) → ((i : ℕ) → i < w → p i ≡ q i) → number w p ≡ number w q
number_same zero p q f = refl
number_same (suc w) p q f =
    ap₂ (λ (n d : ℕ). n * 2 + d) (number_same w (λ i. p (suc i)) (λ i. q (suc i)) (λ i h. f (suc i) (suc-le-suc h))) (ap one_if (f 0 (zero-lt-suc w)))

-- two numbers below 2 ^ w with the same members below w are equal
pub same_members : (w x y : ℕ) → x < 2 ^ w → y < 2 ^ w → ((i : ℕ) → i < w → member x i ≡ member y i) → x ≡ y
same_members w x y hx hy f = sym (number_members w x hx) ∙ number_same w (member x) (member y) f ∙ number_members w y hy

-- a number below 2 ^ w whose members are a set's is the number that stands for it
pub number_is : (w x : ℕ) (p : ℕ → Bool) → x < 2 ^ w → member x ≡ p → x ≡ number w p
number_is w x p h e = sym (number_members w x h) ∙ ap (number w) e

-- and the members of that number are the set's, where the set has room
pub members_are : (w : ℕ) (p : ℕ → Bool) → ((i : ℕ) → w ≤ i → p i ≡ false) → member (number w p) ≡ p
members_are w p out = same_cards (member_number w p) ∙ truncate_inside w p out

-- ---- none, how many, the lowest

-- 0 is the number of the empty set alone
pub zero_empty : (w x : ℕ) → x < 2 ^ w → eqb x 0 ≡ not (any_below w (member x))
zero_empty w x h =
    test (any_below w (member x)) (λ e. ne_eqb x 0 (λ (z : x ≡ 0). full z (any_elim w (member x) e)) ∙ sym (ap not e))
    (λ e. eq-eqb x 0 (same_members w x 0 h (pow_pos w) (λ i l. fails (member x i) (λ t. clash (any_intro w (member x) i l t) e) ∙ sym (member_none i))) ∙ sym (ap not e))
  where
    full : x ≡ 0 → Found w (member x) → ⊥
    full z r = clash r.2 (ap (λ (n : ℕ). member n r.0) z ∙ member_none r.0)

-- no card at or above n, by a shift
pub shift_within : (w n x : ℕ) → x < 2 ^ w → eqb (x / 2 ^ n) 0 ≡ subset w (member x) (below n)
shift_within w n x h = same_test (eqb (x / 2 ^ n) 0) (subset w (member x) (below n)) there back
  where
    there : eqb (x / 2 ^ n) 0 ≡ true → subset w (member x) (below n) ≡ true
    there e = subset_intro w (member x) (below n) (λ k l t. test (ltb k n) (λ q. q) (λ q. clash t (outside k (ltb-false k n q))))
      where
        outside : (k : ℕ) → n ≤ k → member x k ≡ false
        outside k l =
            ap (member x) (sym (add-sub_of_le l)) ∙ sym (member_shift x n (k - n))
            ∙ ap (λ (y : ℕ). member y (k - n)) (eqb-true (x / 2 ^ n) 0 e) ∙ member_none (k - n)

    back : subset w (member x) (below n) ≡ true → eqb (x / 2 ^ n) 0 ≡ true
    back e =
        eq-eqb (x / 2 ^ n) 0
        (same_members w (x / 2 ^ n) 0 (lt_of_le_of_lt (shr_le x n) h) (pow_pos w)
        (λ i l. member_shift x n i ∙ fails (member x (n + i)) (λ t. inside i t) ∙ sym (member_none i)))
      where
        inside : (i : ℕ) → member x (n + i) ≡ true → ⊥
        inside i t =
            test (ltb (n + i) w)
            (λ (q : ltb (n + i) w ≡ true). clash (subset_at w (member x) (below n) e (n + i) (ltb-true (n + i) w q) t) (le-ltb (n + i) n (le-add_right n i)))
            (λ (q : ltb (n + i) w ≡ false). clash t (member_above w x (n + i) h (ltb-false (n + i) w q)))

ones_zero : ones 0 ≡ 0
unfolding ones
ones_zero = refl

-- the ones are the members
pub ones_count : (w x : ℕ) → x < 2 ^ w → ones x ≡ count_below w (member x)
ones_count zero x h = ap ones (lt-one h) ∙ ones_zero
ones_count (suc w) x h =
    ones_step x
    ∙ add_comm (x % 2) (ones (x / 2))
    ∙ ap₂ (λ (a b : ℕ). a + b) (ones_count w (x / 2) (omega arith)) (sym (low_digit x))
    ∙ ap (λ (p : ℕ → Bool). count_below w p + one_if (member x 0)) (sym (same_cards (member_suc x)))
    ∙ sym (count_front w (member x))

-- the zeros below the lowest one lead to the lowest member
pub trailing_first : (w x : ℕ) → count_trailing_zeros w x ≡ first_below w (member x)
unfolding count_trailing_zeros
trailing_first zero x = refl
trailing_first (suc w) x =
    digit_case (λ (d : ℕ). under d (count_trailing_zeros w (x / 2)) ≡ cond (eqb d 1) 0 (suc (count_trailing_zeros w (x / 2)))) refl refl (x % 2) (odd_lt x)
    ∙ ap₂ (λ (b : Bool) (n : ℕ). cond b 0 (suc n)) (sym (member_zero x)) (trailing_first w (x / 2) ∙ ap (first_below w) (sym (same_cards (member_suc x))))
