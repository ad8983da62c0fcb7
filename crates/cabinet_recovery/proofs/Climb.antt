-- A line climbed so far, and the line of the frames in hand as the line of the ring's frames. Assumes nothing.
use Prim.Native.Nat.{ℕ, zero, suc, ◌+◌, ◌-◌, ◌≤◌, ◌<◌, max, zero-le}
use mathlib.Core.Path.{◌≡◌, refl, sym, ◌∙◌, ap, ap₂}
use mathlib.Core.Bool.{Bool, true, false, ◌&&◌, cond}
use mathlib.Core.List.{List, []}
use mathlib.Core.Logic.{by_cases}
use native.Mathlib.Decide.{dec_lt}
use native.Mathlib.Numerals.{add-one}
use native.Mathlib.Omega.{arith}
use lib.Dec.{ltb}
use borrow.Author.Tests.{lt-ltb, le-leb, le-ltb, lt-leb}
use Rattle.base_laws.specs.Below.{any_below}
use Rattle.base_laws.proofs.Logic.{cond_true, cond_false, and_intro}
use Rattle.base_laws.proofs.Fill.{any_same}
use Rattle.theory_history.specs.Change.{Numbers}
use Rattle.theory_history.specs.Vector.{entry_of, Vector}
use Rattle.theory_history.specs.Line.{at_or_above, orphan, climb, line_from}
use Rattle.theory_protocol.specs.Calls.{lines}
use Rattle.cabinet_layout.specs.declared.Head.{Head}
use Rattle.cabinet_layout.specs.Shape.{limits16, at, list_of, ring_frame, truncate, in_hand, frame_in_hand, bare, with_numbers, model_of}
use Rattle.cabinet_layout.proofs.Held.{list_same}

-- an entry held as a dependency is at or above a number where the dependency is above it
pub above_held : (e s : ℕ) → ltb s e ≡ at_or_above (entry_of e) s
above_held zero s = le-ltb s 0 zero-le
above_held (suc k) s =
    by_cases (dec_lt s (suc k)) (λ (h : s < suc k). lt-ltb s (suc k) h ∙ sym (le-leb s k (omega arith))) (λ (h : ¬ (s < suc k)). le-ltb s (suc k) (omega (arith, h)) ∙ sym (lt-leb s k (omega (arith, h))))

-- ---- the line climbed as far as x
pub record ClimbedSoFar (f : ℕ → Bool) (base top x : ℕ) : Type 0 where
  pub from_base : base ≤ x
  pub so : climb f base (top - base) ≡ climb f x (top - x)

pub climbed_none : {f : ℕ → Bool} {base top : ℕ} → ClimbedSoFar f base top base
climbed_none = record { from_base = omega arith; so = refl }

climb_step : (f : ℕ → Bool) (x top : ℕ) → x < top → climb f x (top - x) ≡ cond (f (suc x)) x (climb f (suc x) (top - suc x))
climb_step f x top h = ap (λ (k : ℕ). climb f x k) (let e : top - x ≡ suc (top - suc x) = omega arith in e)

pub climbed_more : {f : ℕ → Bool} {base top x : ℕ} → ClimbedSoFar f base top x → x < top → f (x + 1) ≡ false → ClimbedSoFar f base top (x + 1)
climbed_more {f} {base} {top} {x} r h e =
    let e' : f (suc x) ≡ false = ap f (sym (add-one x)) ∙ e in
    record {
      from_base = let l : base ≤ x = r.from_base in omega arith;
      so = r.so ∙ climb_step f x top h ∙ cond_false x (climb f (suc x) (top - suc x)) e' ∙ ap (λ (y : ℕ). climb f y (top - y)) (sym (add-one x));
    }

-- an orphan is next
pub climbed_hit : {f : ℕ → Bool} {base top x : ℕ} → ClimbedSoFar f base top x → x < top → f (x + 1) ≡ true → x ≡ climb f base (top - base)
climbed_hit {f} {base} {top} {x} r h e =
    sym (r.so ∙ climb_step f x top h ∙ cond_true x (climb f (suc x) (top - suc x)) (ap f (sym (add-one x)) ∙ e))

-- the top is reached
pub climbed_done : {f : ℕ → Bool} {base top x : ℕ} → ClimbedSoFar f base top x → top ≤ x → x ≡ climb f base (top - base)
climbed_done {f} {base} {top} {x} r h = sym (r.so ∙ ap (λ (k : ℕ). climb f x k) (let e : top - x ≡ 0 = omega arith in e))

-- where the climb is over, it stands at the top, or at a base above it
pub climbed_top : {f : ℕ → Bool} {base top x : ℕ} → ClimbedSoFar f base top x → top ≤ x → (base ≤ top → x ≤ top) → max base top ≡ climb f base (top - base)
climbed_top {f} {base} {top} {x} r h u =
    by_cases (dec_lt top base)
    (λ (l : top < base). let e : max base top ≡ base = omega arith in e ∙ ap (λ (k : ℕ). climb f base k) (let z : 0 ≡ top - base = omega (arith, l) in z))
    (λ (l : ¬ (top < base)). let b : base ≤ top = omega (arith, l) in let v : x ≤ top = u b in let e : max base top ≡ x = omega arith in e ∙ climbed_done r h)

-- ---- tests that agree above base climb to the same line
pub climb_same : (f g : ℕ → Bool) (base k : ℕ) → ((x : ℕ) → base < x → x ≤ base + k → f x ≡ g x) → climb f base k ≡ climb g base k
climb_same f g base zero h = refl
climb_same f g base (suc k) h =
    ap₂ (λ (b : Bool) (x : ℕ). cond b base x) (h (suc base) (omega arith) (omega arith)) (climb_same f g (suc base) k (λ x l u. h x (omega arith) (omega arith)))

-- entries beyond the width are not looked at
cut_orphan : (stored : Numbers) (v : Vector) → orphan limits16.width stored v ≡ orphan limits16.width stored (truncate v)
cut_orphan stored v =
    any_same limits16.width (λ j. at_or_above (entry_of (v j)) (stored j)) (λ j. at_or_above (entry_of (truncate v j)) (stored j))
    (λ j h. ap (λ (e : ℕ). at_or_above (entry_of e) (stored j)) (sym (cond_true (v j) 0 (lt-ltb j limits16.width h))))

-- the line of the ring's frames is that of the frames in hand
pub line_in_hand : (stored : Numbers) (entries base reached : List ℕ) (c : ℕ)
    → line_from limits16.width stored (ring_frame entries c) (at base c) (at reached c) ≡ line_from limits16.width stored (frame_in_hand entries base reached c) (at base c) (at reached c)
line_in_hand stored entries base reached c = climb_same _ _ (at base c) (at reached c - at base c) each
  where
    each : (x : ℕ) → at base c < x → x ≤ at base c + (at reached c - at base c)
        → orphan limits16.width stored (ring_frame entries c x) ≡ orphan limits16.width stored (frame_in_hand entries base reached c x)
    each x l u =
        let e : in_hand base reached c x ≡ true = and_intro (lt-ltb (at base c) x l) (le-leb x (at reached c) (omega arith)) in
        cut_orphan stored (ring_frame entries c x) ∙ ap (λ (b : Bool). orphan limits16.width stored (cond b (truncate (ring_frame entries c x)) (λ j. 0))) (sym e)

-- the test that the code makes of each entry
pub orphan_held : (w : ℕ) (stored : Numbers) (v : Vector) → any_below w (λ j. ltb (stored j) (v j)) ≡ orphan w stored v
orphan_held w stored v = any_same w (λ j. ltb (stored j) (v j)) (λ j. at_or_above (entry_of (v j)) (stored j)) (λ k h. above_held (v k) (stored k))

-- the lines of a cabinet, from the ring
abbrev pub ring_line : (entries base stored reached : List ℕ) (cards : ℕ) → Numbers
ring_line entries base stored reached cards k =
    cond (ltb k limits16.width && ltb k cards) (line_from limits16.width (at stored) (ring_frame entries k) (at base k) (at reached k)) (at base k)

pub lines_ring : (entries base stored reached : List ℕ) (h : Head)
    → list_of (ring_line entries base stored reached h.cards) ≡ list_of (lines limits16 (model_of entries [] (with_numbers (bare h) base stored [] reached)))
lines_ring entries base stored reached h = list_same _ _ each
  where
    each : (k : ℕ) → k < 16 → ring_line entries base stored reached h.cards k ≡ lines limits16 (model_of entries [] (with_numbers (bare h) base stored [] reached)) k
    each k l = ap (λ (x : ℕ). cond (ltb k limits16.width && ltb k h.cards) x (at base k)) (line_in_hand (at stored) entries base reached k)
