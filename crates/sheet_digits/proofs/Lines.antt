-- Laws of lines: a line that is written passes, a line that passes is the line that is written, a line with one altered byte does not pass, and none passes from two starts. Assumes nothing.
use Rattle.std.specs.Prelude.{Ok}
use Prim.Native.Nat.{ℕ, zero, suc, ◌+◌, ◌-◌, ◌%◌, ◌≤◌, ◌<◌}
use mathlib.Core.Path.{◌≡◌, refl, sym, ◌∙◌, ap}
use mathlib.Core.Bool.{true, ◌&&◌}
use mathlib.Core.List.{List, [], ◌∷◌, ◌++◌, append_assoc}
use mathlib.Core.Logic.{by_cases}
use native.Mathlib.Nat.{mod-add-mod, add_assoc}
use native.Mathlib.Decide.{dec_lt}
use native.Mathlib.Omega.{arith}
use lib.Dec.{leb, eqb}
use lib.ListN.{length, take, drop, get_or, set, length-append, length-drop, get_or-append}
use lib.Seq.{take-suc, take-add, take_at, drop_at, get_or_at, take-length, length-take-le, take-set-le, take-set-lt, drop-set-lt, get_or-set_same, get_or-drop, get_or-take, take-append-le, drop-append-le}
use borrow.Author.Tests.{leb-true, eqb-true, le-leb, eq-eqb}
use Rattle.base_laws.proofs.Logic.{test, and_left, and_right, and_intro}
use Rattle.sheet_digits.specs.declared.Sums.{Sums}
use Rattle.sheet_digits.specs.Digits.{all_digits, digits, number}
use Rattle.sheet_digits.specs.Line.{added, summed, check_of, sheet_line, shaped, checked, shape_of}
use Rattle.sheet_digits.proofs.Digits.{all_append, all_left, all_right, all_get_d, is_below, digits_length, digits_all, number_digits, digits_number}

-- what `shaped` says
pub record Shape (n : ℕ) (input : List ℕ) : Type 0 where
  pub long : n + 5 ≤ length input
  pub all : all_digits (take (n + 4) input) ≡ true
  pub ends : get_or input (n + 4) 0 ≡ 10

pub shape : (n : ℕ) (input : List ℕ) → shaped n input ≡ true → Shape n input
unfolding shaped
shape n input e =
    let p = leb (n + 5) (length input) in
    let q = all_digits (take (n + 4) input) in
    let r = eqb (get_or input (n + 4) 0) 10 in
    record {
      long = leb-true (n + 5) (length input) (and_left p (q && r) e);
      all = and_left q r (and_right p (q && r) e);
      ends = eqb-true (get_or input (n + 4) 0) 10 (and_right q r (and_right p (q && r) e));
    }

pub shape_shaped : (n : ℕ) (input : List ℕ) → Shape n input → shaped n input ≡ true
unfolding shaped
shape_shaped n input s = and_intro (le-leb (n + 5) (length input) s.long) (and_intro s.all (eq-eqb (get_or input (n + 4) 0) 10 s.ends))

pub whole_shaped : (n : ℕ) (input : List ℕ) → shape_of n input ≡ Ok tt → shaped n input ≡ true
unfolding shape_of
whole_shaped n [] e = let z : ◌≡◌ {A = ℕ} 0 1 = cc in absurd (omega arith)
whole_shaped n (b ∷ bs) e = test (shaped n (b ∷ bs)) (λ t. t) (λ t. let z : ◌≡◌ {A = ℕ} 0 1 = cc (rw t at e) in absurd (omega arith))

pub shaped_whole : (n : ℕ) (input : List ℕ) → shaped n input ≡ true → shape_of n input ≡ Ok tt
unfolding shape_of
shaped_whole n [] e = absurd (omega (arith, (shape n [] e).long))
shaped_whole n (b ∷ bs) e = rw e

-- where a line stands at `at`, the input is long enough
pub whole_room : (n at : ℕ) (s : List ℕ) → shape_of n (drop at s) ≡ Ok tt → at + n + 5 ≤ length s
whole_room n at s e =
    let h : n + 5 ≤ length (drop at s) = (shape n (drop at s) (whole_shaped n (drop at s) e)).long in
    let l : length (drop at s) ≡ length s - at = length-drop at s in
    omega arith

ended_length : (body check : List ℕ) (n : ℕ) → length body ≡ n → length check ≡ 4 → length (body ++ check ++ (10 ∷ [])) ≡ n + 5
ended_length body check n e l = rw (length-append (body ++ check) (10 ∷ []), length-append body check, e, l) (omega arith)

-- ---- written, then read

module _ (start : Sums) (n : ℕ) (body rest : List ℕ) (d : all_digits body ≡ true) (l : length body ≡ n) where
  check : List ℕ
  check = digits 4 (check_of (summed start body))

  line_split : sheet_line start body ++ rest ≡ body ++ (check ++ (10 ∷ rest))
  unfolding sheet_line check
  line_split = simp append_assoc

  pub line_take : take n (sheet_line start body ++ rest) ≡ body
  line_take = rw line_split (take_at body (check ++ (10 ∷ rest)) n l)

  line_drop : drop n (sheet_line start body ++ rest) ≡ check ++ (10 ∷ rest)
  line_drop = rw line_split (drop_at body (check ++ (10 ∷ rest)) n l)

  line_check : take 4 (drop n (sheet_line start body ++ rest)) ≡ check
  unfolding check
  line_check = rw line_drop (take_at check (10 ∷ rest) 4 (digits_length 4 (check_of (summed start body))))

  pub line_length : length (sheet_line start body) ≡ n + 5
  unfolding sheet_line
  line_length = ended_length body (digits 4 (check_of (summed start body))) n l (digits_length 4 (check_of (summed start body)))

  pub line_rest : drop (n + 5) (sheet_line start body ++ rest) ≡ rest
  line_rest = drop_at (sheet_line start body) rest (n + 5) line_length

  pub line_shaped : shaped n (sheet_line start body ++ rest) ≡ true
  unfolding check
  line_shaped =
      shape_shaped n (sheet_line start body ++ rest)
      (record {
        long = rw (length-append (sheet_line start body) rest, line_length) (omega arith);
        all = rw (take-add n 4 (sheet_line start body ++ rest), line_take, line_check) (all_append body check d (digits_all 4 (check_of (summed start body))));
        ends = sym (get_or-drop n (sheet_line start body ++ rest) 4 0) ∙ rw line_drop (get_or_at check 10 rest 0 4 (digits_length 4 (check_of (summed start body))));
      })

  pub line_checked : check_of (summed start body) < 65536 → checked start n (sheet_line start body ++ rest) ≡ true
  unfolding checked check
  line_checked h = rw (line_check, line_take, number_digits 4 (check_of (summed start body)) h) (eq-eqb (check_of (summed start body)) (check_of (summed start body)) refl)

-- ---- read, then written

-- k digits are those of their number
own_digits : (k : ℕ) (bs : List ℕ) → k ≡ length bs → all_digits bs ≡ true → digits k (number bs) ≡ bs
own_digits k bs e p =
    let t : take k bs ≡ bs = rw e (take-length bs) in
    let r : digits k (number (take k bs)) ≡ take k bs = digits_number k bs (omega arith) p in
    rw t at r

module _ (start : Sums) (n : ℕ) (input : List ℕ) (s : shaped n input ≡ true) where
  body_digits : all_digits (take n input) ≡ true
  body_digits = all_left (take n input) (take 4 (drop n input)) (rw (take-add n 4 input) at (shape n input s).all)

  check_digits : all_digits (take 4 (drop n input)) ≡ true
  check_digits = all_right (take n input) (take 4 (drop n input)) (rw (take-add n 4 input) at (shape n input s).all)

  check_length : 4 ≡ length (take 4 (drop n input))
  check_length = sym (length-take-le 4 (drop n input) (rw length-drop (omega (arith, (shape n input s).long))))

  pub body_all : all_digits (take n input) ≡ true
  body_all = body_digits

  pub body_length : length (take n input) ≡ n
  body_length = length-take-le n input (omega (arith, (shape n input s).long))

  -- the check stands in the digits of its number
  check_own : digits 4 (number (take 4 (drop n input))) ≡ take 4 (drop n input)
  check_own = own_digits 4 (take 4 (drop n input)) check_length check_digits

  parts : take (n + 5) input ≡ take n input ++ take 4 (drop n input) ++ (10 ∷ [])
  parts =
      let q : n + 5 ≡ suc (n + 4) = omega arith in
      let l : n + 4 < length input = omega (arith, (shape n input s).long) in
      rw (q, take-suc input (n + 4) 0 l, take-add n 4 input, (shape n input s).ends)

  -- a line that passes is the line that is written
  pub line_bytes : checked start n input ≡ true → take (n + 5) input ≡ sheet_line start (take n input)
  unfolding checked sheet_line
  line_bytes e =
      let c : number (take 4 (drop n input)) ≡ check_of (summed start (take n input)) =
      eqb-true (number (take 4 (drop n input))) (check_of (summed start (take n input))) e
      in
      parts ∙ ap (λ (x : List ℕ). take n input ++ x ++ (10 ∷ [])) (sym check_own ∙ ap (λ (x : ℕ). digits 4 x) c)

-- ---- one altered byte

-- the sum of bytes
sum_of : List ℕ → ℕ
sum_of [] = 0
sum_of (b ∷ bs) = b + sum_of bs

-- the first sum is the starting sum and all bytes, as it wraps
first_sum : (s : Sums) (bs : List ℕ) → (summed s bs).first % 256 ≡ (s.first + sum_of bs) % 256
unfolding sum_of
first_sum s [] = let e : s.first + 0 ≡ s.first = omega arith in rw e
first_sum s (b ∷ bs) = first_sum (added s b) bs ∙ mod-add-mod (s.first + b) 256 (sum_of bs) ∙ ap (λ (x : ℕ). x % 256) (add_assoc s.first b (sum_of bs))

sum_set : (bs : List ℕ) (p b : ℕ) → p < length bs → sum_of (set bs p b) + get_or bs p 0 ≡ sum_of bs + b
unfolding sum_of
sum_set [] p b h = absurd (omega arith)
sum_set (x ∷ bs) zero b h = omega arith
sum_set (x ∷ bs) (suc p) b h = let r : sum_of (set bs p b) + get_or bs p 0 ≡ sum_of bs + b = sum_set bs p b (omega arith) in omega arith

-- sums that differ by one byte's change differ as they wrap
wraps : (s t a b f : ℕ) → t + a ≡ s + b → a < 256 → b < 256 → (f + s) % 256 ≡ (f + t) % 256 → a ≡ b
wraps s t a b f e h k w = by_cases (dec_lt a b) (λ l. absurd (omega arith)) (λ l. by_cases (dec_lt b a) (λ m. absurd (omega arith)) (λ m. omega arith))

-- the check tells the first sum as it wraps
check_first : (s t : Sums) → check_of s ≡ check_of t → s.first % 256 ≡ t.first % 256
unfolding check_of
check_first s t e = omega arith

-- a byte of the check's digits, read in the part or in the whole
part_at : (n p : ℕ) (xs : List ℕ) → (p < n → ⊥) → p < n + 4 → get_or (take 4 (drop n xs)) (p - n) 0 ≡ get_or xs p 0
part_at n p xs l k =
    let e : n + (p - n) ≡ p = omega arith in
    let q : p - n < 4 = omega arith in
    get_or-take 4 (drop n xs) (p - n) 0 q ∙ get_or-drop n xs (p - n) 0 ∙ ap (λ (i : ℕ). get_or xs i 0) e

-- where two inputs have one check, they have the same digits there
same_check : (n : ℕ) (xs ys : List ℕ) → shaped n xs ≡ true → shaped n ys ≡ true → number (take 4 (drop n xs)) ≡ number (take 4 (drop n ys)) → take 4 (drop n xs) ≡ take 4 (drop n ys)
same_check n xs ys s t e = sym (check_own (record { first = 0; second = 0 }) n xs s) ∙ ap (λ (x : ℕ). digits 4 x) e ∙ check_own (record { first = 0; second = 0 }) n ys t

-- two lines that pass, of starts with one first sum, and that differ in one byte at most are the same
module _
    (start start' : Sums) (n : ℕ) (input : List ℕ) (p b : ℕ) (f : start.first ≡ start'.first) (same : take n input ≡ take n (set input p b) → start ≡ start')
    (s : shaped n input ≡ true) (c : checked start n input ≡ true) (s' : shaped n (set input p b) ≡ true) (c' : checked start' n (set input p b) ≡ true)
  where
    told : number (take 4 (drop n input)) ≡ check_of (summed start (take n input))
    unfolding checked
    told = eqb-true (number (take 4 (drop n input))) (check_of (summed start (take n input))) c

    told' : number (take 4 (drop n (set input p b))) ≡ check_of (summed start' (take n (set input p b)))
    unfolding checked
    told' = eqb-true (number (take 4 (drop n (set input p b)))) (check_of (summed start' (take n (set input p b)))) c'

    put_there : p < n + 5 → get_or (set input p b) p 0 ≡ b
    put_there h = get_or-set_same input p b 0 (omega (arith, (shape n input s).long))

    at_end : p < n + 5 → (p < n + 4 → ⊥) → b ≡ get_or input p 0
    at_end h k =
        let e : p ≡ n + 4 = omega arith in
        let x : get_or (set input p b) p 0 ≡ 10 = ap (λ (i : ℕ). get_or (set input p b) i 0) e ∙ (shape n (set input p b) s').ends in
        let y : get_or input p 0 ≡ 10 = ap (λ (i : ℕ). get_or input i 0) e ∙ (shape n input s).ends in
        sym (put_there h) ∙ x ∙ sym y

    in_check : p < n + 5 → (p < n → ⊥) → p < n + 4 → b ≡ get_or input p 0
    in_check h l k =
        let t : take n (set input p b) ≡ take n input = take-set-le n input p b (omega arith) in
        let g : start ≡ start' = same (sym t) in
        let e : number (take 4 (drop n (set input p b))) ≡ number (take 4 (drop n input)) = told' ∙ ap (λ (bs : List ℕ). check_of (summed start' bs)) t ∙ ap (λ (a : Sums). check_of (summed a (take n input))) (sym g) ∙ sym told in
        sym (put_there h) ∙ sym (part_at n p (set input p b) l k) ∙ ap (λ (bs : List ℕ). get_or bs (p - n) 0) (same_check n (set input p b) input s' s e) ∙ part_at n p input l k

    in_body : p < n + 5 → p < n → b ≡ get_or input p 0
    in_body h l =
        let u : take n (set input p b) ≡ set (take n input) p b = take-set-lt n input p b l in
        let d : drop n (set input p b) ≡ drop n input = drop-set-lt n input p b l in
        let e : check_of (summed start (take n input)) ≡ check_of (summed start' (take n (set input p b))) = sym told ∙ ap (λ (bs : List ℕ). number (take 4 bs)) (sym d) ∙ told' in
        let w : (start.first + sum_of (take n input)) % 256 ≡ (start.first + sum_of (take n (set input p b))) % 256 =
        sym (first_sum start (take n input)) ∙ check_first (summed start (take n input)) (summed start' (take n (set input p b))) e ∙ first_sum start' (take n (set input p b)) ∙ ap (λ (x : ℕ). (x + sum_of (take n (set input p b))) % 256) (sym f)
        in
        let q : p < length (take n input) = rw (body_length start n input s) l in
        let q' : p < length (take n (set input p b)) = rw (body_length start n (set input p b) s') l in
        let g : get_or (take n input) p 0 ≡ get_or input p 0 = get_or-take n input p 0 l in
        let g' : get_or (take n (set input p b)) p 0 ≡ b = get_or-take n (set input p b) p 0 l ∙ put_there h in
        let z : sum_of (take n (set input p b)) + get_or input p 0 ≡ sum_of (take n input) + b = ap (λ (x : ℕ). sum_of (take n (set input p b)) + x) (sym g) ∙ ap (λ (bs : List ℕ). sum_of bs + get_or (take n input) p 0) u ∙ sum_set (take n input) p b q in
        let a : get_or (take n input) p 0 < 71 = is_below (get_or (take n input) p 0) (all_get_d (take n input) p (body_all start n input s) q) in
        let a' : get_or (take n (set input p b)) p 0 < 71 = is_below (get_or (take n (set input p b)) p 0) (all_get_d (take n (set input p b)) p (body_all start n (set input p b) s') q') in
        sym (wraps (sum_of (take n input)) (sum_of (take n (set input p b))) (get_or input p 0) b start.first z (omega arith) (omega arith) w)

    pub altered : p < n + 5 → b ≡ get_or input p 0
    altered h = by_cases (dec_lt p n) (in_body h) (λ l. by_cases (dec_lt p (n + 4)) (in_check h l) (at_end h))

-- ---- another start

-- a line that passes from two starts has starts whose first sums are the same as they wrap
pub other_start : (start start' : Sums) (n : ℕ) (input : List ℕ) → checked start n input ≡ true → checked start' n input ≡ true → start.first % 256 ≡ start'.first % 256
unfolding checked
other_start start start' n input c c' =
    let bs = take n input in
    let a = eqb-true (number (take 4 (drop n input))) (check_of (summed start bs)) c in
    let b = eqb-true (number (take 4 (drop n input))) (check_of (summed start' bs)) c' in
    let e : (summed start bs).first % 256 ≡ (summed start' bs).first % 256 = check_first (summed start bs) (summed start' bs) (sym a ∙ b) in
    let w : (start.first + sum_of bs) % 256 ≡ (start'.first + sum_of bs) % 256 = sym (first_sum start bs) ∙ e ∙ first_sum start' bs in
    omega arith

-- starts with one first sum: the first sums stay the same, and the second as far apart as they were
same_firsts : (s t : Sums) (bs : List ℕ) → s.first ≡ t.first → (summed s bs).first ≡ (summed t bs).first
same_firsts s t [] e = e
same_firsts s t (b ∷ bs) e = same_firsts (added s b) (added t b) bs (ap (λ (x : ℕ). (x + b) % 256) e)

seconds_apart : (s t : Sums) (bs : List ℕ) → s.first ≡ t.first → ((summed s bs).second + t.second) % 256 ≡ ((summed t bs).second + s.second) % 256
seconds_apart s t [] e = omega arith
seconds_apart s t (b ∷ bs) e =
    let f : (s.first + b) % 256 ≡ (t.first + b) % 256 = ap (λ (x : ℕ). (x + b) % 256) e in
    shifted (summed (added s b) bs).second (summed (added t b) bs).second s.second t.second ((t.first + b) % 256)
    (seconds_apart (added s b) (added t b) bs f ∙ ap (λ (x : ℕ). ((summed (added t b) bs).second + (s.second + x) % 256) % 256) f)
  where
    inner : (x y : ℕ) → (x + y % 256) % 256 ≡ (x + y) % 256
    inner x y = omega arith

    cancelled : (a b f : ℕ) → (a + f) % 256 ≡ (b + f) % 256 → a % 256 ≡ b % 256
    cancelled a b f e = omega arith

    shifted : (x y s t f : ℕ) → (x + (t + f) % 256) % 256 ≡ (y + (s + f) % 256) % 256 → (x + t) % 256 ≡ (y + s) % 256
    shifted x y s t f e =
        cancelled (x + t) (y + s) f
        (ap (λ (z : ℕ). z % 256) (add_assoc x t f) ∙ sym (inner x (t + f)) ∙ e ∙ inner y (s + f) ∙ ap (λ (z : ℕ). z % 256) (sym (add_assoc y s f)))

check_second : (s t : Sums) → s.first ≡ t.first → check_of s ≡ check_of t → s.second ≡ t.second
unfolding check_of
check_second s t f e = omega arith

-- A line passes from one start alone, of all those within eight bits.
pub one_start :
    (s t : Sums) (n : ℕ) (input : List ℕ) →
    s.first < 256 →
    s.second < 256 →
    t.first < 256 →
    t.second < 256 →
    checked s n input ≡ true →
    checked t n input ≡ true →
    s ≡ t
unfolding checked
one_start s t n input p q p' q' c c' =
    let bs = take n input in
    let a = eqb-true (number (take 4 (drop n input))) (check_of (summed s bs)) c in
    let b = eqb-true (number (take 4 (drop n input))) (check_of (summed t bs)) c' in
    let w : s.first % 256 ≡ t.first % 256 = other_start s t n input c c' in
    let f : s.first ≡ t.first = omega arith in
    let g : (summed s bs).second ≡ (summed t bs).second = check_second (summed s bs) (summed t bs) (same_firsts s t bs f) (sym a ∙ b) in
    let h : ((summed s bs).second + t.second) % 256 ≡ ((summed t bs).second + s.second) % 256 = seconds_apart s t bs f in
    let k : s.second ≡ t.second = omega arith in
    λ i. record { first = f i; second = k i }

-- ---- what stands behind a line is not looked at

module _ (n : ℕ) (line rest : List ℕ) (long : n + 5 ≤ length line) where
  pub shaped_behind : shaped n (line ++ rest) ≡ shaped n line
  unfolding shaped
  shaped_behind =
      rw (le-leb (n + 5) (length (line ++ rest)) (rw (length-append line rest) (omega arith)), le-leb (n + 5) (length line) long, take-append-le (n + 4) line rest (omega arith), get_or-append line rest 0 (n + 4) (omega arith))

  pub checked_behind : (start : Sums) → checked start n (line ++ rest) ≡ checked start n line
  unfolding checked
  checked_behind start =
      rw (take-append-le n line rest (omega arith), drop-append-le n line rest (omega arith), take-append-le 4 (drop n line) rest (rw length-drop (omega arith)))
