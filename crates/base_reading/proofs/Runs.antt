-- Laws of a run of digits in a text: how it goes on and ends, and how a loop reads it. Assumes nothing.
use Rattle.std.specs.Prelude.{Option, Some, None}
use Prim.Native.Nat.{ℕ, suc, ◌+◌, ◌-◌, ◌*◌, ◌≤◌, ◌<◌}
use mathlib.Core.Path.{◌≡◌, refl, sym, ◌∙◌, ap, ap₂}
use mathlib.Core.Bool.{Bool, true, false, cond}
use mathlib.Core.List.{List, [], ◌∷◌, ◌++◌, append-nil}
use native.Mathlib.Nat.{le_refl, lt_of_lt_of_le, add-zero}
use native.Mathlib.Numerals.{add-one}
use native.Mathlib.Omega.{arith}
use lib.Dec.{eqb, leb}
use lib.ListN.{length, get_or, drop, drop_of_length-le}
use lib.Seq.{drop-cons, drop_at}
use borrow.Author.Tests.{le-leb, leb-true, lt-leb, ne_eqb}
use Rattle.base_laws.proofs.Logic.{and_left, and_right}
use Rattle.base_reading.specs.Digits.{is_digit, digits_only, run, value_from, value}
use Rattle.base_reading.specs.Reads.{limit, reading, read_at}

-- ---- how a run goes on and ends

-- the bytes that are digits
pub digit_from : (b : ℕ) → is_digit b ≡ true → 48 ≤ b
digit_from b e = leb-true 48 b (and_left (leb 48 b) (leb b 57) e)

run_digit : (b : ℕ) (s : List ℕ) → is_digit b ≡ true → run (b ∷ s) ≡ b ∷ run s
run_digit b s e = rw e

run_other : (b : ℕ) (s : List ℕ) → is_digit b ≡ false → run (b ∷ s) ≡ []
run_other b s e = rw e

pub run_more : (s : List ℕ) (i : ℕ) → i < length s → is_digit (get_or s i 0) ≡ true → run (drop i s) ≡ get_or s i 0 ∷ run (drop (suc i) s)
run_more s i h e = ap run (drop-cons s i 0 h) ∙ run_digit (get_or s i 0) (drop (suc i) s) e

pub run_stops : (s : List ℕ) (i : ℕ) → i < length s → is_digit (get_or s i 0) ≡ false → run (drop i s) ≡ []
run_stops s i h e = ap run (drop-cons s i 0 h) ∙ run_other (get_or s i 0) (drop (suc i) s) e

pub run_out : (s : List ℕ) (i : ℕ) → length s ≤ i → run (drop i s) ≡ []
run_out s i h = ap run (drop_of_length-le s h)

-- digits before a text are the front of its run
pub run_only : (s r : List ℕ) → digits_only s ≡ true → run (s ++ r) ≡ s ++ run r
run_only [] r e = refl
run_only (b ∷ s) r e =
    run_digit b (s ++ r) (and_left (is_digit b) (digits_only s) e)
    ∙ ap (λ (l : List ℕ). b ∷ l) (run_only s r (and_right (is_digit b) (digits_only s) e))

-- more digits make no number less
pub value_grows : (v : ℕ) (s : List ℕ) → v ≤ value_from v s
value_grows v [] = le_refl v
value_grows v (b ∷ s) = let a : v * 10 + (b - 48) ≤ value_from v (b ∷ s) = value_grows (v * 10 + (b - 48)) s in omega arith

-- ---- a run read byte by byte

-- Of the run at the place at, the digits before i are read and stand for v: the run ends where the run at i ends, and stands for v with that run's digits after it.
pub record SoFar (s : List ℕ) (at v i : ℕ) : Type 0 where
  pub end : i + length (run (drop i s)) ≡ at + length (run (drop at s))
  pub total : value_from v (run (drop i s)) ≡ value (run (drop at s))

pub read_none : (s : List ℕ) (at : ℕ) → SoFar s at 0 at
read_none s at = record { end = refl; total = refl }

pub read_more : {s : List ℕ} {at v i : ℕ} → SoFar s at v i → i < length s → is_digit (get_or s i 0) ≡ true → SoFar s at (v * 10 + (get_or s i 0 - 48)) (i + 1)
read_more {s} {at} {v} {i} r h e =
    record {
      end = rw (add-one i) (omega (arith, ap length (run_more s i h e), r.end));
      total = rw (add-one i) (ap (value_from v) (sym (run_more s i h e)) ∙ r.total);
    }

-- at the end of the run it is read
pub read_all : {s : List ℕ} {at v i : ℕ} → SoFar s at v i → run (drop i s) ≡ [] → reading at i v ≡ read_at s at
read_all {s} {at} {v} {i} r e = ap₂ (reading at) end_is (ap (value_from v) (sym e) ∙ r.total)
  where
    end_is : i ≡ at + length (run (drop at s))
    end_is = sym (ap (λ (l : List ℕ). i + length l) e ∙ add-zero i) ∙ r.end

-- where it stands for too much already, so does the whole
pub read_over : {s : List ℕ} {at v i : ℕ} → SoFar s at v i → limit < v → None ≡ read_at s at
read_over {s} {at} {v} {i} r h =
    sym (never (eqb (at + length (run (drop at s))) at) (lt-leb (value (run (drop at s))) limit (lt_of_lt_of_le h (rw r.total at (value_grows v (run (drop i s)))))))
  where
    never : (b : Bool) → leb (value (run (drop at s))) limit ≡ false → cond {A = Option (ℕ × ℕ)} b None (cond (leb (value (run (drop at s))) limit) (Some ((value (run (drop at s))), (at + length (run (drop at s))))) None) ≡ None
    never true e = refl
    never false e = rw e

-- ---- a run in the midst of a text

-- a run of digits in a text, with no digit after it, reads as the number that it stands for
pub read_run : (d p r : List ℕ) → digits_only d ≡ true → 0 < length d → value d ≤ limit → run r ≡ []
    → read_at (p ++ (d ++ r)) (length p) ≡ Some ((value d), (length p + length d))
read_run d p r o some h e =
    ap (λ (l : List ℕ). reading (length p) (length p + length l) (value l)) here
    ∙ ap (λ (b : Bool). cond {A = Option (ℕ × ℕ)} b None (cond (leb (value d) limit) (Some ((value d), (length p + length d))) None))
    (ne_eqb (length p + length d) (length p) (λ (z : length p + length d ≡ length p). absurd (omega arith)))
    ∙ ap (λ (b : Bool). cond {A = Option (ℕ × ℕ)} b (Some ((value d), (length p + length d))) None) (le-leb (value d) limit h)
  where
    here : run (drop (length p) (p ++ (d ++ r))) ≡ d
    here =
        ap run (drop_at p (d ++ r) (length p) refl) ∙ run_only d r o
        ∙ ap (λ (l : List ℕ). d ++ l) e ∙ append-nil d
