-- One turn of each loop, over variables. Assumes nothing.
use Rattle.std.specs.Prelude.{Ok, Err}
use Rattle.std.proofs.Common.{◌≡◌, ℕ, suc, ◌+◌, ◌-◌, ◌%◌, ◌^◌, ◌<◌, ◌≤◌, Bool, true, false, cond, ◌&&◌, eqb, leb, List, [], ◌∷◌, ◌++◌, length, get_or, take, drop, set, arith, length-drop, drop_of_length-le, get_or-drop, drop-cons, drop-drop}
use lib.Seq.{sets}
use Rattle.base_laws.proofs.Seq.{left, left_step, sets_append}
use Rattle.base_refusal.specs.declared.Refusal.TheVariants.{BadLine, EndOrMore}
use Rattle.sheet_digits.specs.declared.Sums.{Sums}
use Rattle.sheet_digits.specs.Digits.{is_digit, all_digits, digits, number}
use Rattle.sheet_digits.specs.Line.{summed, check_of, shaped, checked, shape_of}
use Rattle.sheet_digits.proofs.Digits.{digits_length}

module _ (s : List ℕ) (at n i : ℕ) (h : i < n) (k : at + n ≤ length s) where
  pub all_step : {g : Bool} → all_digits (left s at n i) ≡ g → is_digit (get_or s (at + i) 0) ≡ true → all_digits (left s at n (i + 1)) ≡ g
  all_step {g} e d =
      let e' : is_digit (get_or s (at + i) 0) && all_digits (left s at n (i + 1)) ≡ g = rw (left_step s at n i 0 h k) at e in
      rw d at e'

  pub all_stop : {g : Bool} → all_digits (left s at n i) ≡ g → is_digit (get_or s (at + i) 0) ≡ false → false ≡ g
  all_stop {g} e d =
      let e' : is_digit (get_or s (at + i) 0) && all_digits (left s at n (i + 1)) ≡ g = rw (left_step s at n i 0 h k) at e in
      rw d at e'

  pub sums_step :
      {g : Sums} (a b : ℕ) {a' b' : ℕ} →
      summed (record { first = a; second = b }) (left s at n i) ≡ g →
      a' ≡ (a + get_or s (at + i) 0) % 2 ^ 8 →
      b' ≡ (b + a') % 2 ^ 8 →
      summed (record { first = a'; second = b' }) (left s at n (i + 1)) ≡ g
  sums_step {g} a b e p q =
      rw (q, p) (rw (left_step s at n i 0 h k) at e)

-- past the end no line stands
pub shape_end : (n at : ℕ) (s : List ℕ) → length s ≤ at → Err EndOrMore ≡ shape_of n (drop at s)
unfolding shape_of
shape_end n at s h = rw (drop_of_length-le s h)

-- where the input goes on, the three tests decide
pub shape_tests :
    (n at : ℕ) (s : List ℕ) {p q r : Bool} →
    at < length s →
    leb (n + 5) (length s - at) ≡ p →
    all_digits (take (n + 4) (drop at s)) ≡ q →
    eqb (get_or s (at + n + 4) 0) 10 ≡ r →
    cond (p && (q && r)) (Ok tt) (Err BadLine) ≡ shape_of n (drop at s)
unfolding shape_of shaped
shape_tests n at s {p} {q} {r} h x y z =
    let e : at + n + 4 ≡ at + (n + 4) = omega arith in
    let d : drop at s ≡ get_or s at 0 ∷ drop (suc at) s = drop-cons s at 0 h in
    let go : cond (shaped n (drop at s)) (Ok tt) (Err BadLine) ≡ shape_of n (drop at s) = rw d in
    rw (← x, ← y, ← z, e, ← get_or-drop at s (n + 4) 0, ← length-drop at s) go

-- the check of a line, judged from its number and its sums
pub check_judged :
    (s : List ℕ) (at n : ℕ) (start : Sums) {sums : Sums} {told want : ℕ} →
    sums ≡ summed start (take n (drop at s)) →
    told ≡ number (take 4 (drop (at + n) s)) →
    want ≡ check_of sums →
    eqb told want ≡ checked start n (drop at s)
unfolding checked
check_judged s at n start x y z = rw (z, x, y, drop-drop n at s)
