-- What 28 says of a cabinet that it lets pass, for any limits. Assumes nothing.
use Prim.Native.Nat.{ℕ, suc, ◌+◌, ◌-◌, ◌≤◌, ◌<◌}
use mathlib.Core.Path.{◌≡◌, refl, subst}
use mathlib.Core.Bool.{Bool, true, false, not, ◌&&◌, ◌||◌, cond}
use native.Mathlib.Omega.{arith}
use lib.Dec.{eqb, leb, ltb}
use borrow.Author.Tests.{eqb-true, eq-eqb, ne_eqb, leb-true, ltb-true}
use Rattle.base_laws.specs.Below.{all_below}
use Rattle.base_laws.proofs.Logic.{clash, and_left, and_right, not_true}
use Rattle.base_laws.proofs.Below.{all_at}
use Rattle.theory_history.specs.Vector.{Vector}
use Rattle.theory_protocol.specs.Model.{Limits, Model}
use Rattle.theory_protocol.specs.Valid.{session_valid, cards_valid, numbers_valid, entries_valid, frame_valid, rises_valid, frames_valid, line_valid, card_valid, slot_valid, write_valid, valid}
use Rattle.theory_protocol.proofs.Writes.{Writes, valid_writes}

-- one of two tests passes, and it is not the first
either : (a b : Bool) → a || b ≡ true → a ≡ false → b ≡ true
either true b e f = clash refl f
either false b e f = e

negated : (b : Bool) → b ≡ true → not b ≡ false
negated true e = refl
negated false e = clash e refl

-- ---- the four numbers
pub record NumbersPassed (L : Limits) (m : Model) (c : ℕ) : Type 0 where
  pub base_stored : m.numbers.base c ≤ m.numbers.stored c
  pub stored_held : m.numbers.stored c ≤ m.numbers.held c
  pub held_reached : m.numbers.held c ≤ m.numbers.reached c
  pub in_hand_lem : m.numbers.reached c ≤ m.numbers.base c + L.in_hand
  pub within : m.numbers.reached c ≤ L.greatest_state

ranges : (L : Limits) (m : Model) (c : ℕ) → numbers_valid L m.numbers c ≡ true → NumbersPassed L m c
ranges L m c e =
    let four : _ = and_left (leb b s && leb s h && leb h r && leb r (b + L.in_hand)) (leb r L.greatest_state) e in
    let three : _ = and_left (leb b s && leb s h && leb h r) (leb r (b + L.in_hand)) four in
    let two : _ = and_left (leb b s && leb s h) (leb h r) three in
    record {
      base_stored = leb-true b s (and_left (leb b s) (leb s h) two);
      stored_held = leb-true s h (and_right (leb b s) (leb s h) two);
      held_reached = leb-true h r (and_right (leb b s && leb s h) (leb h r) three);
      in_hand_lem = leb-true r (b + L.in_hand) (and_right (leb b s && leb s h && leb h r) (leb r (b + L.in_hand)) four);
      within = leb-true r L.greatest_state (and_right (leb b s && leb s h && leb h r && leb r (b + L.in_hand)) (leb r L.greatest_state) e);
    }
  where
    b : ℕ
    b = m.numbers.base c

    s : ℕ
    s = m.numbers.stored c

    h : ℕ
    h = m.numbers.held c

    r : ℕ
    r = m.numbers.reached c

-- ---- the frames in hand
-- one of them
pub record FramePassed (L : Limits) (m : Model) (c x : ℕ) : Type 0 where
  pub numbered : ¬ (m.memory.change c x ≡ 0)
  pub own : m.memory.frame c x c ≡ x
  pub entry : (j : ℕ) → j < L.width → m.memory.frame c x j ≤ cond (m.present j) L.greatest_state 0

frame_passed : (L : Limits) (m : Model) (c x : ℕ) → frame_valid L m c x ≡ true → FramePassed L m c x
frame_passed L m c x e =
    let v : Vector = m.memory.frame c x in
    let first : _ = and_left (not (eqb (m.memory.change c x) 0) && eqb (v c) x) (entries_valid L m.present v) e in
    record {
      numbered = λ (z : m.memory.change c x ≡ 0). clash (eq-eqb (m.memory.change c x) 0 z) (not_true (eqb (m.memory.change c x) 0) (and_left (not (eqb (m.memory.change c x) 0)) (eqb (v c) x) first));
      own = eqb-true (v c) x (and_right (not (eqb (m.memory.change c x) 0)) (eqb (v c) x) first);
      entry = λ j h. leb-true (v j) (cond (m.present j) L.greatest_state 0)
          (all_at L.width (λ j. leb (v j) (cond (m.present j) L.greatest_state 0))
          (and_right (not (eqb (m.memory.change c x) 0) && eqb (v c) x) (entries_valid L m.present v) e) j h);
    }

-- and the next
pub record RisesPassed (L : Limits) (m : Model) (c x : ℕ) : Type 0 where
  pub changes : m.memory.change c x < m.memory.change c (suc x)
  pub entries : (j : ℕ) → j < L.width → m.memory.frame c x j ≤ m.memory.frame c (suc x) j

rising : (L : Limits) (m : Model) (c x : ℕ) → rises_valid L m.memory c x ≡ true → RisesPassed L m c x
rising L m c x e =
    let a : Bool = ltb (m.memory.change c x) (m.memory.change c (suc x)) in
    let b : Bool = all_below L.width (λ j. leb (m.memory.frame c x j) (m.memory.frame c (suc x) j)) in
    record {
      changes = ltb-true (m.memory.change c x) (m.memory.change c (suc x)) (and_left a b e);
      entries = λ j h. leb-true (m.memory.frame c x j) (m.memory.frame c (suc x) j) (all_at L.width (λ j. leb (m.memory.frame c x j) (m.memory.frame c (suc x) j)) (and_right a b e) j h);
    }

module _ (L : Limits) (m : Model) (c : ℕ) (e : frames_valid L m c ≡ true) where
  frame_test : (k : ℕ) → k < m.numbers.reached c - m.numbers.base c → frame_valid L m c (suc (m.numbers.base c + k)) && (eqb k 0 || rises_valid L m.memory c (m.numbers.base c + k)) ≡ true
  frame_test =
      all_at (m.numbers.reached c - m.numbers.base c) (λ k. frame_valid L m c (suc (m.numbers.base c + k)) && (eqb k 0 || rises_valid L m.memory c (m.numbers.base c + k))) e

  frame_at : (x : ℕ) → m.numbers.base c < x → x ≤ m.numbers.reached c → FramePassed L m c x
  frame_at x a b =
      let q : suc (m.numbers.base c + (x - suc (m.numbers.base c))) ≡ x = omega arith in
      subst (λ (y : ℕ). FramePassed L m c y) q
      (frame_passed L m c (suc (m.numbers.base c + (x - suc (m.numbers.base c)))) (and_left _ _ (frame_test (x - suc (m.numbers.base c)) (omega arith))))

  rise_at : (x : ℕ) → m.numbers.base c < x → x < m.numbers.reached c → RisesPassed L m c x
  rise_at x a b =
      let q : m.numbers.base c + (x - m.numbers.base c) ≡ x = omega arith in
      subst (λ (y : ℕ). RisesPassed L m c y) q
      (rising L m c (m.numbers.base c + (x - m.numbers.base c))
      (either (eqb (x - m.numbers.base c) 0) (rises_valid L m.memory c (m.numbers.base c + (x - m.numbers.base c)))
      (and_right (frame_valid L m c (suc (m.numbers.base c + (x - m.numbers.base c)))) (eqb (x - m.numbers.base c) 0 || rises_valid L m.memory c (m.numbers.base c + (x - m.numbers.base c))) (frame_test (x - m.numbers.base c) (omega arith)))
      (ne_eqb (x - m.numbers.base c) 0 (λ (z : x - m.numbers.base c ≡ 0). absurd (omega arith)))))

-- ---- a card that is there
pub record CardPassed (L : Limits) (m : Model) (c : ℕ) : Type 0 where
  pub numbers : NumbersPassed L m c
  pub frame : (x : ℕ) → m.numbers.base c < x → x ≤ m.numbers.reached c → FramePassed L m c x
  pub rises : (x : ℕ) → m.numbers.base c < x → x < m.numbers.reached c → RisesPassed L m c x

module _ (L : Limits) (m : Model) (s : valid L m ≡ true) where
  pub others_pass : session_valid L m && cards_valid L m && all_below L.width (card_valid L m) && all_below L.slots (λ p. slot_valid L m (m.slot p)) ≡ true
  others_pass = and_left (session_valid L m && cards_valid L m && all_below L.width (card_valid L m) && all_below L.slots (λ p. slot_valid L m (m.slot p))) (all_below L.width (write_valid m)) s

  pub cards_pass : session_valid L m && cards_valid L m && all_below L.width (card_valid L m) ≡ true
  cards_pass = and_left (session_valid L m && cards_valid L m && all_below L.width (card_valid L m)) (all_below L.slots (λ p. slot_valid L m (m.slot p))) others_pass

  pub writes_pass : Writes L m
  writes_pass = valid_writes L m (and_right (session_valid L m && cards_valid L m && all_below L.width (card_valid L m) && all_below L.slots (λ p. slot_valid L m (m.slot p))) (all_below L.width (write_valid m)) s)

  pub session_not_0 : ¬ (m.session ≡ 0)
  session_not_0 z =
      clash (eq-eqb m.session 0 z)
      (not_true (eqb m.session 0)
      (and_left (not (eqb m.session 0)) _ (and_left (session_valid L m) (cards_valid L m) (and_left (session_valid L m && cards_valid L m) (all_below L.width (card_valid L m)) cards_pass))))

  pub passed : (c : ℕ) → c < L.width → m.present c ≡ true → CardPassed L m c
  passed c h there =
      let card : card_valid L m c ≡ true = all_at L.width (card_valid L m) (and_right (session_valid L m && cards_valid L m) (all_below L.width (card_valid L m)) cards_pass) c h in
      let present : numbers_valid L m.numbers c && line_valid m c && frames_valid L m c ≡ true =
      either (not (m.present c)) (numbers_valid L m.numbers c && line_valid m c && frames_valid L m c)
      (and_right (entries_valid L (λ j. m.present c && m.present j) (m.memory.last c) && entries_valid L (λ j. m.present c && m.present j) (m.memory.pending c))
      (not (m.present c) || (numbers_valid L m.numbers c && line_valid m c && frames_valid L m c)) card)
      (negated (m.present c) there) in
      let frames : frames_valid L m c ≡ true = and_right (numbers_valid L m.numbers c && line_valid m c) (frames_valid L m c) present in
      record {
        numbers = ranges L m c (and_left (numbers_valid L m.numbers c) (line_valid m c) (and_left (numbers_valid L m.numbers c && line_valid m c) (frames_valid L m c) present));
        frame = frame_at L m c frames;
        rises = rise_at L m c frames;
      }
