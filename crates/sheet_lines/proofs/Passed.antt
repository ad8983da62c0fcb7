-- What an accepted line tells, for any format. Assumes nothing.
use Rattle.std.specs.Prelude.{Ok, Err}
use Rattle.base_refusal.specs.Reply.{Reply}
use Prim.Native.Nat.{ℕ, ◌+◌, ◌≤◌, ◌<◌}
use mathlib.Core.Path.{◌≡◌, refl, ap}
use mathlib.Core.Bool.{Bool, true, false, not, ◌&&◌, ◌||◌}
use mathlib.Core.List.{List}
use native.Mathlib.Omega.{arith}
use lib.Dec.{leb, ltb, eqb}
use borrow.Author.Tests.{leb-true, ltb-true, eqb-true, eqb-false, ne_eqb, eq-eqb, lt-ltb, le-leb}
use Rattle.base_refusal.specs.declared.Refusal.{Refusal}
use Rattle.base_refusal.specs.declared.Refusal.TheVariants.{BadHeader, BadFrame}
use Rattle.base_laws.proofs.Logic.{and_left, and_right, and_intro, not_true}
use Rattle.sheet_digits.specs.declared.Sums.{Sums}
use Rattle.sheet_digits.specs.Line.{checked, shape_of}
use Rattle.sheet_lines.specs.declared.Header.{Header}
use Rattle.sheet_lines.specs.declared.Frame.{Frame}
use Rattle.sheet_lines.specs.Format.{Format}
use Rattle.sheet_lines.specs.Lines.{judged, cards_of, start_of, header_digits, header_in, header_allowed, header_verdict, frame_digits, state_in, frame_in, frame_allowed, frame_verdict}

-- a line that is accepted passed all three tests
pub record Passed (line : Reply) (right allowed : Bool) : Type 0 where
  pub whole : line ≡ Ok tt
  pub right_is : right ≡ true
  pub allowed_is : allowed ≡ true

pub passed : (line : Reply) (right allowed : Bool) (r : Refusal) → judged line right allowed r ≡ Ok tt → Passed line right allowed
passed (Err x) right allowed r e = let z : ◌≡◌ {A = ℕ} 0 1 = cc in absurd (omega arith)
passed (Ok _) true true r e = record { whole = refl; right_is = refl; allowed_is = refl }
passed (Ok _) true false r e = let z : ◌≡◌ {A = ℕ} 0 1 = cc in absurd (omega arith)
passed (Ok _) false allowed r e = let z : ◌≡◌ {A = ℕ} 0 1 = cc in absurd (omega arith)

pub passes : {line : Reply} {right allowed : Bool} (r : Refusal) → line ≡ Ok tt → right ≡ true → allowed ≡ true → judged line right allowed r ≡ Ok tt
passes r x y z = rw (x, y, z)

-- what an allowed header says
pub record Header-in-limits (f : Format) (due first : ℕ) (h : Header) : Type 0 where
  pub session : h.session ≡ 0 → ⊥
  pub card : h.card ≡ due
  pub below : h.card < cards_of f h
  pub cards : cards_of f h ≤ f.cards
  pub agrees : (eqb first 0 || eqb (cards_of f h) first) ≡ true
  pub count : h.count ≤ f.frames
  pub states : h.base + h.count ≤ f.states

pub header_limits : (f : Format) (due first : ℕ) (h : Header) → header_allowed f due first h ≡ true → Header-in-limits f due first h
unfolding header_allowed
header_limits f due first h e =
    let a = not (eqb h.session 0) in
    let b = eqb h.card due in
    let c = ltb h.card (cards_of f h) in
    let d = leb (cards_of f h) f.cards in
    let g = eqb first 0 || eqb (cards_of f h) first in
    let i = leb h.count f.frames in
    let j = leb (h.base + h.count) f.states in
    let e₁ = and_right a (b && (c && (d && (g && (i && j))))) e in
    let e₂ = and_right b (c && (d && (g && (i && j)))) e₁ in
    let e₃ = and_right c (d && (g && (i && j))) e₂ in
    let e₄ = and_right d (g && (i && j)) e₃ in
    let e₅ = and_right g (i && j) e₄ in
    record {
      session = eqb-false h.session 0 (not_true (eqb h.session 0) (and_left a (b && (c && (d && (g && (i && j))))) e));
      card = eqb-true h.card due (and_left b (c && (d && (g && (i && j)))) e₁);
      below = ltb-true h.card (cards_of f h) (and_left c (d && (g && (i && j))) e₂);
      cards = leb-true (cards_of f h) f.cards (and_left d (g && (i && j)) e₃);
      agrees = and_left g (i && j) e₄;
      count = leb-true h.count f.frames (and_left i j e₅);
      states = leb-true (h.base + h.count) f.states (and_right i j e₅);
    }

-- a header that passes beside one first sheet passes beside any of as many cards, and as the first
pub header_beside : (f : Format) (due first other : ℕ) (h : Header) → header_allowed f due first h ≡ true → (eqb other 0 || eqb (cards_of f h) other) ≡ true → header_allowed f due other h ≡ true
unfolding header_allowed
header_beside f due first other h e g =
    let l = header_limits f due first h e in
    and_intro (ap not (ne_eqb h.session 0 l.session))
    (and_intro (eq-eqb h.card due l.card) (and_intro (lt-ltb h.card (cards_of f h) l.below) (and_intro (le-leb (cards_of f h) f.cards l.cards) (and_intro g (and_intro (le-leb h.count f.frames l.count) (le-leb (h.base + h.count) f.states l.states))))))

module _ (f : Format) (due first : ℕ) (input : List ℕ) (e : header_verdict f due first input ≡ Ok tt) where
  pub header_passed : Passed (shape_of (header_digits f) input) (checked (start_of f (header_in f input)) (header_digits f) input) (header_allowed f due first (header_in f input))
  unfolding header_verdict
  header_passed = passed (shape_of (header_digits f) input) (checked (start_of f (header_in f input)) (header_digits f) input) (header_allowed f due first (header_in f input)) BadHeader e

  pub header_within : Header-in-limits f due first (header_in f input)
  header_within = header_limits f due first (header_in f input) header_passed.allowed_is

module _ (f : Format) (start : Sums) (card n state : ℕ) (last : Frame) (input : List ℕ) (e : frame_verdict f start card n state last input ≡ Ok tt) where
  pub frame_passed : Passed (shape_of (frame_digits f n) input) (checked start (frame_digits f n) input) (frame_allowed f card n state last (state_in f input) (frame_in f n input))
  unfolding frame_verdict
  frame_passed = passed (shape_of (frame_digits f n) input) (checked start (frame_digits f n) input) (frame_allowed f card n state last (state_in f input) (frame_in f n input)) BadFrame e
