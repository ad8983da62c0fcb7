-- Laws of digits: what is written in digits reads back, and digits that were read are those that are written. Assumes nothing.
use Prim.Native.Nat.{ℕ, zero, suc, ◌+◌, ◌*◌, ◌-◌, ◌/◌, ◌%◌, ◌^◌, ◌≤◌, ◌<◌}
use mathlib.Core.Path.{◌≡◌, refl, sym, ◌∙◌, ap, ap₂}
use mathlib.Core.Logic.{◌⊎◌, inl, inr}
use mathlib.Core.Bool.{Bool, true, false, not, ◌&&◌, ◌||◌, cond}
use mathlib.Core.List.{List, [], ◌∷◌, ◌++◌, append_assoc}
use native.Mathlib.Nat.{pow-suc, div-add-mod', mod-lt}
use native.Mathlib.Numerals.{add-one}
use native.Mathlib.Omega.{arith}
use lib.Arith.{digits_div, digits_mod}
use lib.Dec.{leb, ltb, eqb, lit<}
use lib.ListN.{length, take, drop, get_or, length-append, length-drop, take-append-drop}
use lib.Seq.{take-suc, take_at, drop_at}
use borrow.Author.Tests.{eqb-true, ltb-true, lt-ltb, le-ltb, le-leb, lt-leb}
use Rattle.base_laws.specs.Below.{all_below}
use Rattle.base_laws.proofs.Below.{all_at}
use Rattle.base_laws.proofs.Logic.{test, and_left, and_right, and_intro, or_elim, clash, cond_case}
use Rattle.sheet_digits.specs.Digits.{is_numeral, is_letter, is_digit, digit, digit_value, all_digits, digits, number_after, number, written, numbers}

-- every value below 16: its byte is a digit, of that value
table : all_below 16 (λ v. is_digit (digit v) && eqb (digit_value (digit v)) v) ≡ true
unfolding is_digit is_numeral is_letter digit digit_value
table = refl

-- every byte below 71: the digit of its value is the byte, where it is a digit
bytes : all_below 71 (λ b. not (is_digit b) || eqb (digit (digit_value b)) b) ≡ true
unfolding is_digit is_numeral is_letter digit digit_value
bytes = refl

pub digit_is : (v : ℕ) → v < 16 → is_digit (digit v) ≡ true
digit_is v h = and_left (is_digit (digit v)) (eqb (digit_value (digit v)) v) (all_at 16 (λ v. is_digit (digit v) && eqb (digit_value (digit v)) v) table v h)

pub value_digit : (v : ℕ) → v < 16 → digit_value (digit v) ≡ v
value_digit v h =
    eqb-true (digit_value (digit v)) v
    (and_right (is_digit (digit v)) (eqb (digit_value (digit v)) v) (all_at 16 (λ v. is_digit (digit v) && eqb (digit_value (digit v)) v) table v h))

pub is_below : (b : ℕ) → is_digit b ≡ true → b < 71
unfolding is_digit is_numeral is_letter
is_below b e = pick (or_elim (leb 48 b && ltb b 58) (leb 65 b && ltb b 71) e)
  where
    pick : (leb 48 b && ltb b 58 ≡ true) ⊎ (leb 65 b && ltb b 71 ≡ true) → b < 71
    pick (inl p) = let h : b < 58 = ltb-true b 58 (and_right (leb 48 b) (ltb b 58) p) in omega arith
    pick (inr p) = ltb-true b 71 (and_right (leb 65 b) (ltb b 71) p)

pub digit_value_lem : (b : ℕ) → is_digit b ≡ true → digit (digit_value b) ≡ b
digit_value_lem b e = eqb-true (digit (digit_value b)) b (past (is_digit b) e (all_at 71 (λ b. not (is_digit b) || eqb (digit (digit_value b)) b) bytes b (is_below b e)))
  where
    past : (t : Bool) → t ≡ true → not t || eqb (digit (digit_value b)) b ≡ true → eqb (digit (digit_value b)) b ≡ true
    past true p q = q
    past false p q = clash {b = false} p refl

pub value_small : (b : ℕ) → digit_value b < 16
unfolding digit_value is_numeral is_letter
value_small b =
    cond_case (λ (x : ℕ). x < 16) (leb 48 b && ltb b 58)
    (λ e. let h : b < 58 = ltb-true b 58 (and_right (leb 48 b) (ltb b 58) e) in omega arith)
    (λ e.
    cond_case (λ (x : ℕ). x < 16) (leb 65 b && ltb b 71)
    (λ e. let h : b < 71 = ltb-true b 71 (and_right (leb 65 b) (ltb b 71) e) in omega arith) (λ e. lit< tt))

pub all_append : (xs ys : List ℕ) → all_digits xs ≡ true → all_digits ys ≡ true → all_digits (xs ++ ys) ≡ true
all_append [] ys p q = q
all_append (x ∷ xs) ys p q = and_intro (and_left (is_digit x) (all_digits xs) p) (all_append xs ys (and_right (is_digit x) (all_digits xs) p) q)

pub all_left : (xs ys : List ℕ) → all_digits (xs ++ ys) ≡ true → all_digits xs ≡ true
all_left [] ys p = refl
all_left (x ∷ xs) ys p = and_intro (and_left (is_digit x) (all_digits (xs ++ ys)) p) (all_left xs ys (and_right (is_digit x) (all_digits (xs ++ ys)) p))

pub all_right : (xs ys : List ℕ) → all_digits (xs ++ ys) ≡ true → all_digits ys ≡ true
all_right [] ys p = p
all_right (x ∷ xs) ys p = all_right xs ys (and_right (is_digit x) (all_digits (xs ++ ys)) p)

pub all_drop : (k : ℕ) (bs : List ℕ) → all_digits bs ≡ true → all_digits (drop k bs) ≡ true
all_drop k bs p = all_right (take k bs) (drop k bs) (rw take-append-drop p)

pub all_get_d : (bs : List ℕ) (i : ℕ) → all_digits bs ≡ true → i < length bs → is_digit (get_or bs i 0) ≡ true
all_get_d [] i p h = absurd (omega arith)
all_get_d (b ∷ bs) zero p h = and_left (is_digit b) (all_digits bs) p
all_get_d (b ∷ bs) (suc i) p h = all_get_d bs i (and_right (is_digit b) (all_digits bs) p) (omega arith)

pub digits_length : (k n : ℕ) → length (digits k n) ≡ k
digits_length zero n = refl
digits_length (suc k) n = length-append (digits k (n / 16)) (digit (n % 16) ∷ []) ∙ ap (λ (m : ℕ). m + 1) (digits_length k (n / 16)) ∙ add-one k

pub digits_all : (k n : ℕ) → all_digits (digits k n) ≡ true
digits_all zero n = refl
digits_all (suc k) n = all_append (digits k (n / 16)) (digit (n % 16) ∷ []) (digits_all k (n / 16)) (and_intro (digit_is (n % 16) (mod-lt n (lit< tt))) refl)

after_snoc : (bs : List ℕ) (a b : ℕ) → number_after a (bs ++ (b ∷ [])) ≡ number_after a bs * 16 + digit_value b
after_snoc [] a b = refl
after_snoc (x ∷ bs) a b = after_snoc bs (a * 16 + digit_value x) b

pub number_snoc : (bs : List ℕ) (b : ℕ) → number (bs ++ (b ∷ [])) ≡ number bs * 16 + digit_value b
number_snoc bs b = after_snoc bs 0 b

-- a number of k digits is below 16 to the power of k
pub number_take : (k : ℕ) (bs : List ℕ) → k ≤ length bs → number (take k bs) < 16 ^ k
number_take zero bs h = lit< tt
number_take (suc k) bs h =
    let r : number (take k bs) < 16 ^ k = number_take k bs (omega arith) in
    let v : digit_value (get_or bs k 0) < 16 = value_small (get_or bs k 0) in
    let e : 16 ^ suc k ≡ 16 ^ k * 16 = pow-suc 16 k in
    rw (take-suc bs k 0 h, number_snoc (take k bs) (get_or bs k 0)) (omega arith)

pub number_digits : (k n : ℕ) → n < 16 ^ k → number (digits k n) ≡ n
number_digits zero n h = let e : 16 ^ 0 ≡ 1 = refl in omega arith
number_digits (suc k) n h =
    let e : 16 ^ suc k ≡ 16 ^ k * 16 = pow-suc 16 k in
    let r : n / 16 < 16 ^ k = omega arith in
    rw (number_snoc (digits k (n / 16)) (digit (n % 16)), number_digits k (n / 16) r, value_digit (n % 16) (mod-lt n (lit< tt))) (div-add-mod' n 16)

pub digits_number : (k : ℕ) (bs : List ℕ) → k ≤ length bs → all_digits bs ≡ true → digits k (number (take k bs)) ≡ take k bs
digits_number zero bs h p = refl
digits_number (suc k) bs h p =
    let x = get_or bs k 0 in
    let N = number (take k bs) in
    let v = value_small x in
    rw (take-suc bs k 0 h, number_snoc (take k bs) x, digits_div N v, digits_mod N v, digits_number k bs (omega arith) p, digit_value_lem x (all_get_d bs k p h))

-- ---- numbers one after another

-- how many digits the widths take together
abbrev pub total : List ℕ → ℕ
total [] = 0
total (k ∷ ks) = k + total ks

-- a number for each width, and each within its width
abbrev pub Fitting : List ℕ → List ℕ → Type 0
Fitting [] [] = Unit {0}
Fitting [] (v ∷ vs) = ⊥
Fitting (k ∷ ks) [] = ⊥
Fitting (k ∷ ks) (v ∷ vs) = (v < 16 ^ k) × Fitting ks vs

-- as many of the numbers as there are widths are written
pub written_length : (ks vs : List ℕ) → length ks ≤ length vs → length (written ks vs) ≡ total ks
written_length [] vs h = refl
written_length (k ∷ ks) [] h = absurd (omega arith)
written_length (k ∷ ks) (v ∷ vs) h = length-append (digits k v) (written ks vs) ∙ ap₂ (λ (a b : ℕ). a + b) (digits_length k v) (written_length ks vs (omega arith))

pub written_all : (ks vs : List ℕ) → all_digits (written ks vs) ≡ true
written_all [] vs = refl
written_all (k ∷ ks) [] = refl
written_all (k ∷ ks) (v ∷ vs) = all_append (digits k v) (written ks vs) (digits_all k v) (written_all ks vs)

pub numbers_written : (ks vs rest : List ℕ) → Fitting ks vs → numbers ks (written ks vs ++ rest) ≡ vs
numbers_written [] [] rest f = refl
numbers_written [] (v ∷ vs) rest f = absurd f
numbers_written (k ∷ ks) [] rest f = absurd f
numbers_written (k ∷ ks) (v ∷ vs) rest f =
    rw (append_assoc (digits k v) (written ks vs) rest, take_at (digits k v) (written ks vs ++ rest) k (digits_length k v), drop_at (digits k v) (written ks vs ++ rest) k (digits_length k v), number_digits k v f.0, numbers_written ks vs rest f.1)

pub written_numbers : (ks bs : List ℕ) → total ks ≡ length bs → all_digits bs ≡ true → written ks (numbers ks bs) ≡ bs
written_numbers [] [] e p = refl
written_numbers [] (b ∷ bs) e p = absurd (omega arith)
written_numbers (k ∷ ks) bs e p =
    rw (digits_number k bs (omega arith) p, written_numbers ks (drop k bs) (rw length-drop (omega arith)) (all_drop k bs p)) (take-append-drop k bs)

-- ---- the tests of the code
