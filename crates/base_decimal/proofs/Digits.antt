-- Laws of a number's digits: how they go on, how many they are, what they stand for, and how they are stored. Assumes nothing.
use Rattle.std.specs.Prelude.{Some, None}
use Prim.Native.Nat.{ℕ, zero, suc, ◌+◌, ◌-◌, ◌*◌, ◌/◌, ◌%◌, ◌^◌, ◌≤◌, ◌<◌}
use mathlib.Core.Path.{◌≡◌, refl, sym, ◌∙◌, ap}
use mathlib.Core.Bool.{Bool, true, cond}
use mathlib.Core.List.{List, [], ◌∷◌, ◌++◌}
use native.Mathlib.Nat.{not-suc-le-zero, add-zero, add-suc, suc-add, add-sub_cancel_left, lt-suc_self, zero-lt-suc}
use native.Mathlib.Numerals.{add-one}
use native.Mathlib.Omega.{arith}
use lib.Dec.{ltb}
use lib.ListN.{length, set, get_or, length-append, length-set, get_or-append}
use lib.Seq.{sets, set_comm}
use borrow.Author.Tests.{lt-ltb, le-ltb, ltb-true, ltb-false, le-leb, lt-leb}
use Rattle.base_laws.proofs.Logic.{test, and_left, and_right, and_intro}
use Rattle.base_decimal.specs.Answers.{Wrote}
use Rattle.base_reading.specs.Digits.{is_digit, digits_only, value_from, value}
use Rattle.base_decimal.specs.Digits.{digit, digits_in, decimal, lowest}

-- ---- how the digits go on

-- any room beyond the number is enough
room : (v w n : ℕ) → n < v → n < w → digits_in v n ≡ digits_in w n
room zero w n h l = absurd (not-suc-le-zero h)
room (suc v) zero n h l = absurd (not-suc-le-zero l)
room (suc v) (suc w) n h l =
    test (ltb n 10) (λ e. rw e)
    (λ e.
    let g : 10 ≤ n = ltb-false n 10 e in
    rw e (ap (λ (s : List ℕ). s ++ (digit (n % 10) ∷ [])) (room v w (n / 10) (omega arith) (omega arith))))

-- a number below 10 is its own digit
pub decimal_one : (n : ℕ) → n < 10 → decimal n ≡ digit (n % 10) ∷ []
decimal_one n h = rw (lt-ltb n 10 h)

-- any other has the digits of its tenth, and then its last
pub decimal_more : (n : ℕ) → 10 ≤ n → decimal n ≡ decimal (n / 10) ++ (digit (n % 10) ∷ [])
decimal_more n h =
    ap (λ (b : Bool). cond b [] (digits_in n (n / 10)) ++ (digit (n % 10) ∷ [])) (le-ltb n 10 h)
    ∙ ap (λ (s : List ℕ). s ++ (digit (n % 10) ∷ [])) (room n (suc (n / 10)) (n / 10) (omega arith) (lt-suc_self (n / 10)))

-- a fact of every number's digits, from one digit to the next
pub by_digits : (P : ℕ → List ℕ → Type 0) → ((n : ℕ) → n < 10 → P n (digit (n % 10) ∷ []))
    → ((n : ℕ) (s : List ℕ) → 10 ≤ n → P (n / 10) s → P n (s ++ (digit (n % 10) ∷ []))) → (n : ℕ) → P n (decimal n)
by_digits P one more n = go (suc n) n (lt-suc_self n)
  where
    go : (w m : ℕ) → m < w → P m (digits_in w m)
    go zero m h = absurd (not-suc-le-zero h)
    go (suc w) m h = test (ltb m 10) (λ e. rw e (one m (ltb-true m 10 e))) (λ e. let g : 10 ≤ m = ltb-false m 10 e in rw e (more m (digits_in w (m / 10)) g (go w (m / 10) (omega arith))))

-- ---- what the digits of a number are

-- how one digit more changes a length
length_last : (s : List ℕ) (b : ℕ) → length (s ++ (b ∷ [])) ≡ suc (length s)
length_last s b = length-append s (b ∷ []) ∙ add-one (length s)

pub length_one : (n : ℕ) → n < 10 → length (decimal n) ≡ 1
length_one n h = ap length (decimal_one n h)

pub length_more : (n : ℕ) → 10 ≤ n → length (decimal n) ≡ suc (length (decimal (n / 10)))
length_more n h = ap length (decimal_more n h) ∙ length_last (decimal (n / 10)) (digit (n % 10))

-- there is one at least, and the first is no zero unless the number is 0
pub record Leads (n : ℕ) (s : List ℕ) : Type 0 where
  pub some : 0 < length s
  pub no_zero : 0 < n → get_or s 0 48 ≡ 48 → ⊥

pub decimal_leads : (n : ℕ) → Leads n (decimal n)
decimal_leads = by_digits Leads (λ n h. record { some = zero-lt-suc 0; no_zero = λ p (e : 48 + n % 10 ≡ 48). omega arith }) more
  where
    more : (n : ℕ) (s : List ℕ) → 10 ≤ n → Leads (n / 10) s → Leads n (s ++ (digit (n % 10) ∷ []))
    more n s h r =
        record {
          some = rw (length_last s (digit (n % 10))) (zero-lt-suc (length s));
          no_zero = λ p e. r.no_zero (omega arith) (sym (get_or-append s (digit (n % 10) ∷ []) 48 0 r.some) ∙ e);
        }

-- every byte is a digit
digit_is : (d : ℕ) → d < 10 → is_digit (digit d) ≡ true
digit_is d h = and_intro (le-leb 48 (48 + d) (omega arith)) (le-leb (48 + d) 57 (omega arith))

only_last : (s : List ℕ) (b : ℕ) → digits_only s ≡ true → is_digit b ≡ true → digits_only (s ++ (b ∷ [])) ≡ true
only_last [] b e h = and_intro h refl
only_last (a ∷ s) b e h = and_intro (and_left (is_digit a) (digits_only s) e) (only_last s b (and_right (is_digit a) (digits_only s) e) h)

pub decimal_only : (n : ℕ) → digits_only (decimal n) ≡ true
decimal_only =
    by_digits (λ n s. digits_only s ≡ true) (λ n h. and_intro (digit_is (n % 10) (omega arith)) refl)
    (λ n s h e. only_last s (digit (n % 10)) e (digit_is (n % 10) (omega arith)))

-- they stand for the number
value_last : (v : ℕ) (s : List ℕ) (b : ℕ) → value_from v (s ++ (b ∷ [])) ≡ value_from v s * 10 + (b - 48)
value_last v [] b = refl
value_last v (a ∷ s) b = value_last (v * 10 + (a - 48)) s b

pub decimal_value : (n : ℕ) → value (decimal n) ≡ n
decimal_value = by_digits (λ n s. value s ≡ n) (λ n h. omega arith) more
  where
    more : (n : ℕ) (s : List ℕ) → 10 ≤ n → value s ≡ n / 10 → value (s ++ (digit (n % 10) ∷ [])) ≡ n
    more n s h e = value_last 0 s (digit (n % 10)) ∙ ap (λ (v : ℕ). v * 10 + (48 + n % 10 - 48)) e ∙ back
      where
        back : n / 10 * 10 + (48 + n % 10 - 48) ≡ n
        back = omega arith

-- a number below a power of ten has no more digits than the power
pub decimal_short : (w n : ℕ) → n < 10 ^ suc w → length (decimal n) ≤ suc w
decimal_short w n = by_digits (λ m s. (k : ℕ) → m < 10 ^ suc k → length s ≤ suc k) (λ m h k l. omega arith) more n w
  where
    more : (m : ℕ) (s : List ℕ) → 10 ≤ m → ((k : ℕ) → m / 10 < 10 ^ suc k → length s ≤ suc k) → (k : ℕ) → m < 10 ^ suc k → length (s ++ (digit (m % 10) ∷ [])) ≤ suc k
    more m s h f zero l = absurd (omega arith)
    more m s h f (suc k) l = let a : length s ≤ suc k = f k (omega arith) in omega (arith, length_last s (digit (m % 10)))

-- and never more than the number and one
pub decimal_few : (n : ℕ) → length (decimal n) ≤ suc n
decimal_few = by_digits (λ n s. length s ≤ suc n) (λ n h. omega arith) (λ n s h l. omega (arith, length_last s (digit (n % 10))))

-- ---- the lowest digits

pub length_lowest : (w n : ℕ) → length (lowest w n) ≡ w
length_lowest zero n = refl
length_lowest (suc w) n = length_last (lowest w (n / 10)) (digit (n % 10)) ∙ ap suc (length_lowest w (n / 10))

-- as many of them as the number has digits are its digits
pub decimal_lowest : (n : ℕ) → lowest (length (decimal n)) n ≡ decimal n
decimal_lowest = by_digits (λ n s. lowest (length s) n ≡ s) (λ n h. refl) more
  where
    more : (n : ℕ) (s : List ℕ) → 10 ≤ n → lowest (length s) (n / 10) ≡ s → lowest (length (s ++ (digit (n % 10) ∷ []))) n ≡ s ++ (digit (n % 10) ∷ [])
    more n s h e = rw (length_last s (digit (n % 10))) (ap (λ (l : List ℕ). l ++ (digit (n % 10) ∷ [])) e)

-- ---- the store of a run, its last byte first

pub sets_last : (l : List ℕ) (i : ℕ) (vs : List ℕ) (b : ℕ) → sets l i (vs ++ (b ∷ [])) ≡ sets (set l (i + length vs) b) i vs
sets_last l i [] b = ap (λ (k : ℕ). set l k b) (sym (add-zero i))
sets_last l i (a ∷ vs) b =
    sets_last (set l i a) (suc i) vs b
    ∙ ap (λ (k : ℕ). sets (set (set l i a) k b) (suc i) vs) (suc-add i (length vs) ∙ sym (add-suc i (length vs)))
    ∙ ap (λ (s : List ℕ). sets s (suc i) vs) (set_comm l i (i + suc (length vs)) a b (λ (e : i ≡ i + suc (length vs)). absurd (omega arith)))

-- The buffer b while the count lowest digits of n are stored from the place at on, the last first: those from i on are stored,
-- and storing the rest, the digits of left, comes to storing them all.
pub record Stored (b₀ : List ℕ) (at count n : ℕ) (b : List ℕ) (left i : ℕ) : Type 0 where
  pub from : at ≤ i
  pub room : i ≤ at + count
  pub size : length b ≡ length b₀
  pub rest : sets b at (lowest (i - at) left) ≡ sets b₀ at (lowest count n)

pub stored_none : (b : List ℕ) (at count n : ℕ) → Stored b at count n b n (at + count)
stored_none b at count n =
    record { from = omega arith; room = omega arith; size = refl; rest = ap (λ (k : ℕ). sets b at (lowest k n)) (add-sub_cancel_left at count) }

pub stored_more : {b₀ : List ℕ} {at count n : ℕ} {b : List ℕ} {left i : ℕ} → Stored b₀ at count n b left i → at < i
    → Stored b₀ at count n (set b (i - 1) (digit (left % 10))) (left / 10) (i - 1)
stored_more {b₀} {at} {count} {n} {b} {left} {i} r h =
    record {
      from = omega arith;
      room = omega arith;
      size = length-set b (i - 1) (digit (left % 10)) ∙ r.size;
      rest = sym (sets_last_at ∙ last) ∙ ap (λ (k : ℕ). sets b at (lowest k left)) one_more_lem ∙ r.rest;
    }
  where
    one_more_lem : suc (i - 1 - at) ≡ i - at
    one_more_lem = omega arith

    sets_last_at : sets b at (lowest (suc (i - 1 - at)) left) ≡ sets (set b (at + length (lowest (i - 1 - at) (left / 10))) (digit (left % 10))) at (lowest (i - 1 - at) (left / 10))
    sets_last_at = sets_last b at (lowest (i - 1 - at) (left / 10)) (digit (left % 10))

    place : at + length (lowest (i - 1 - at) (left / 10)) ≡ i - 1
    place = omega (arith, length_lowest (i - 1 - at) (left / 10))

    last : sets (set b (at + length (lowest (i - 1 - at) (left / 10))) (digit (left % 10))) at (lowest (i - 1 - at) (left / 10)) ≡ sets (set b (i - 1) (digit (left % 10))) at (lowest (i - 1 - at) (left / 10))
    last = ap (λ (k : ℕ). sets (set b k (digit (left % 10))) at (lowest (i - 1 - at) (left / 10))) place

pub stored_all : {b₀ : List ℕ} {at count n : ℕ} {b : List ℕ} {left i : ℕ} → Stored b₀ at count n b left i → i ≤ at → b ≡ sets b₀ at (lowest count n)
stored_all {at = at} {b = b} {left = left} {i = i} r h = sym (ap (λ (k : ℕ). sets b at (lowest k left)) none_left) ∙ r.rest
  where
    none_left : i - at ≡ 0
    none_left = omega arith

-- ---- the answers of the writer

pub wrote_nothing : (b : List ℕ) (at n : ℕ) → length b < at + length (decimal n) → Wrote b at n None b
wrote_nothing b at n h = record { answer = rw (lt-leb (at + length (decimal n)) (length b) h); buffer = rw (lt-leb (at + length (decimal n)) (length b) h) }

pub wrote_all : (b e : List ℕ) (at n count : ℕ) → count ≡ length (decimal n) → at + count ≤ length b → e ≡ sets b at (lowest count n) → Wrote b at n (Some (at + count)) e
wrote_all b e at n count q h z =
    record {
      answer = rw (le-leb (at + length (decimal n)) (length b) fit) (ap (λ (k : ℕ). Some (at + k)) q);
      buffer = rw (le-leb (at + length (decimal n)) (length b) fit) (z ∙ ap (λ (k : ℕ). sets b at (lowest k n)) q ∙ ap (sets b at) (decimal_lowest n));
    }
  where
    fit : at + length (decimal n) ≤ length b
    fit = omega arith
