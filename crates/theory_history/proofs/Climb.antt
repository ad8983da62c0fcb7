-- "its greatest state, from base to reached, with no hit from base + 1 up to it": what the climb answers is that state. Assumes nothing.
use Prim.Native.Nat.{ℕ, zero, suc, ◌+◌, ◌-◌, ◌≤◌, ◌<◌}
use mathlib.Core.Path.{◌≡◌, refl, sym, ◌∙◌}
use mathlib.Core.Bool.{Bool, true, false}
use mathlib.Core.Logic.{by_cases, ⊎_elim}
use native.Mathlib.Nat.{eq-or-lt_of_le, le_antisymm}
use native.Mathlib.Decide.{dec_le}
use native.Mathlib.Omega.{arith}
use borrow.Author.Tests.{leb-false, lt-leb}
use Rattle.base_laws.proofs.Logic.{test, clash, fails}
use Rattle.base_laws.proofs.Below.{any_intro, any_elim, Found}
use Rattle.theory_history.specs.Change.{Numbers}
use Rattle.theory_history.specs.Vector.{Vector, entry_of}
use Rattle.theory_history.specs.Line.{at_or_above, orphan, climb, Climbed, line_from}

pub climbed : (f : ℕ → Bool) (base k : ℕ) → Climbed f base (base + k) (climb f base k)
climbed f base zero =
    record { from_base = omega arith; to_top = omega arith; free = λ y a b. absurd (omega arith); greatest = λ z a b c. omega arith }
climbed f base (suc k) = test (f (suc base)) stays (rises (climbed f (suc base) k))
  where
    stays : f (suc base) ≡ true → Climbed f base (base + suc k) (climb f base (suc k))
    stays e =
        rw e
        (record {
          from_base = omega arith;
          to_top = omega arith;
          free = λ y a b. absurd (omega arith);
          greatest = λ z a b c. by_cases (dec_le z base) (λ l. l) (λ l. clash e (c (suc base) (omega arith) (omega (arith, l))));
        })

    rises : Climbed f (suc base) (suc base + k) (climb f (suc base) k) → f (suc base) ≡ false → Climbed f base (base + suc k) (climb f base (suc k))
    rises r e =
        rw e
        (record {
          from_base = omega (arith, r.from_base);
          to_top = omega (arith, r.to_top);
          free = λ y a b. ⊎_elim (λ (q : suc base ≡ y). rw q at e) (λ (l : suc base < y). r.free y l b) (eq-or-lt_of_le a);
          greatest = λ z a b c. by_cases (dec_le z base) (λ l. omega (arith, l, r.from_base))
              (λ l. r.greatest z (omega (arith, l)) (omega arith) (λ y g h. c y (omega arith) h));
        })

-- there is only one such state
pub climbed_unique : {f : ℕ → Bool} {base top x y : ℕ} → Climbed f base top x → Climbed f base top y → x ≡ y
climbed_unique {f} {base} {top} {x} {y} r s =
    le_antisymm (s.greatest x r.from_base r.to_top r.free) (r.greatest y s.from_base s.to_top s.free)

-- the same state, from a base that is not above it to a top that is not below it
pub climbed_from : {f : ℕ → Bool} {base top x : ℕ} (base' top' : ℕ) → Climbed f base top x → base ≤ base' → base' ≤ x → x ≤ top' → top' ≤ top → Climbed f base' top' x
climbed_from {f} {base} {top} {x} base' top' r a b c d =
    record {
      from_base = b;
      to_top = c;
      free = λ y g h. r.free y (omega arith) h;
      greatest = λ z g h free. r.greatest z (omega arith) (omega arith)
          (λ y i j. by_cases (dec_le y base') (λ l. r.free y i (omega (arith, l, b))) (λ l. free y (omega (arith, l)) j));
    }

pub climbed_same : {f g : ℕ → Bool} {base top x : ℕ} → ((y : ℕ) → base < y → y ≤ top → f y ≡ g y) → Climbed f base top x → Climbed g base top x
climbed_same {f} {g} {base} {top} {x} e r =
    record {
      from_base = r.from_base;
      to_top = r.to_top;
      free = λ y a b. sym (e y a (omega (arith, b, r.to_top))) ∙ r.free y a b;
      greatest = λ z a b c. r.greatest z a b (λ y i j. e y i (omega arith) ∙ c y i j);
    }

pub line_climbed : (w : ℕ) (stored : Numbers) (frames : ℕ → Vector) (base reached : ℕ) → base ≤ reached
    → Climbed (λ s. orphan w stored (frames s)) base reached (line_from w stored frames base reached)
line_climbed w stored frames base reached h =
    let e : base + (reached - base) ≡ reached = omega arith in
    rw e at (climbed (λ s. orphan w stored (frames s)) base (reached - base))

-- ---- a hit, in dependencies
pub below_stored : (d s : ℕ) → at_or_above (entry_of d) s ≡ false → d ≤ s
below_stored zero s e = omega arith
below_stored (suc d) s e = leb-false s d e

pub not_hit : (d s : ℕ) → d ≤ s → at_or_above (entry_of d) s ≡ false
not_hit zero s h = refl
not_hit (suc d) s h = lt-leb s d h

-- no orphan: every dependency is stored
pub kept : (w : ℕ) (stored : Numbers) (v : Vector) → orphan w stored v ≡ false → (j : ℕ) → j < w → v j ≤ stored j
kept w stored v e j l =
    below_stored (v j) (stored j)
    (fails (at_or_above (entry_of (v j)) (stored j)) (λ (t : at_or_above (entry_of (v j)) (stored j) ≡ true). clash (any_intro w (λ i. at_or_above (entry_of (v i)) (stored i)) j l t) e))

pub no_orphan : (w : ℕ) (stored : Numbers) (v : Vector) → ((j : ℕ) → j < w → v j ≤ stored j) → orphan w stored v ≡ false
no_orphan w stored v f =
    fails (orphan w stored v)
    (λ (t : orphan w stored v ≡ true).
    let r : Found w (λ i. at_or_above (entry_of (v i)) (stored i)) = any_elim w (λ i. at_or_above (entry_of (v i)) (stored i)) t in
    clash r.2 (not_hit (v r.0) (stored r.0) (f r.0 r.1)))
