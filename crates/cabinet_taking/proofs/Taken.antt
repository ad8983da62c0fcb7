-- What a take that was accepted shows. Assumes nothing.
use Rattle.std.specs.Prelude.{Ok}
use Prim.Native.Nat.{ℕ, ◌<◌}
use mathlib.Core.Path.{◌≡◌}
use mathlib.Core.Bool.{Bool, true, false, not, ◌&&◌}
use mathlib.Core.List.{List, []}
use borrow.Author.Tests.{not-false, not-true}
use Rattle.base_laws.proofs.Logic.{and_right, and_intro, not_intro}
use Rattle.theory_protocol.specs.Model.{Model, OpenChange, is_card, is_up, is_known, is_open, decided, slot_of}
use Rattle.theory_protocol.specs.Valid.{valid}
use Rattle.theory_protocol.specs.Calls.{take_checks}
use Rattle.base_refusal.specs.declared.Refusal.TheVariants.{BadCabinet, NoSuchCard, WrongPhase, NotAwaited, NotDecided}
use Rattle.theory_protocol.specs.Plan.{Check}
use Rattle.cabinet_layout.specs.Answers.{first_failing, rest, after28}
use Rattle.cabinet_layout.specs.Shape.{limits16, at, model_of, open_at}
use Rattle.cabinet_layout.specs.declared.Core.{Core}
use Rattle.cabinet_plans.specs.Plans.{Stands, alone}
use Rattle.theory_history.specs.Change.{touches}
use Rattle.cabinet_plans.proofs.Known.{valid_slots, room_known, room_below}
use Rattle.cabinet_plans.proofs.Call.{card_below, first_passes, second_passes, two_pass, Found, found, Passed, passed}

-- what a take that was accepted shows
record Taken (m : Model) (k c : ℕ) : Type 0 where
  pub whole : valid limits16 m ≡ true
  pub card : c < 16
  pub slot : slot_of limits16 m k < 8
  pub left : (m.slot (slot_of limits16 m k)).taken c ≡ false
  pub found : is_open (m.slot (slot_of limits16 m k)) ≡ true

taken : (m : Model) (k c : ℕ) → first_failing (take_checks limits16 m k c) ≡ Ok tt → Taken m k c
taken m k c e =
    let cs : List Check = take_checks limits16 m k c in
    let two : first_failing (rest (rest cs)) ≡ Ok tt = two_pass (not (valid limits16 m)) BadCabinet (not (is_card limits16 m c)) NoSuchCard (rest (rest cs)) e in
    let known : not (is_known limits16 m k) ≡ false = second_passes (not (is_up m.phase)) WrongPhase (not (is_known limits16 m k)) NotAwaited (rest (rest (rest (rest cs)))) two in
    let o : OpenChange = m.slot (slot_of limits16 m k) in
    let four : first_failing (rest (rest (rest (rest cs)))) ≡ Ok tt = two_pass (not (is_up m.phase)) WrongPhase (not (is_known limits16 m k)) NotAwaited (rest (rest (rest (rest cs)))) two in
    let due : not (touches o.change c && not (o.taken c)) ≡ false = second_passes (not (decided limits16 o)) NotDecided (not (touches o.change c && not (o.taken c))) NotAwaited [] four in
    let f : Found m k = found m k known in
    record {
      whole = not-false (valid limits16 m) (first_passes (not (valid limits16 m)) BadCabinet (not (is_card limits16 m c)) NoSuchCard (rest (rest cs)) e);
      card = card_below m c (second_passes (not (valid limits16 m)) BadCabinet (not (is_card limits16 m c)) NoSuchCard (rest (rest cs)) e);
      left = not-true (o.taken c) (and_right (touches o.change c) (not (o.taken c)) (not-false (touches o.change c && not (o.taken c)) due));
      found = f.open_there;
      slot = f.slot;
    }

-- a written card that takes its share is below 60,000
take_room : (m : Model) (k c : ℕ) → Taken m k c → (m.slot (slot_of limits16 m k)).change.writes c ≡ true → m.numbers.reached c < 60000
take_room m k c t w =
    room_below m c
    (room_known m (m.slot (slot_of limits16 m k)) (valid_slots m t.whole (slot_of limits16 m k) t.slot) t.found c t.card (and_intro w (not_intro t.left)))

-- what a take that was accepted shows of a core that stands
pub record TakenOf (s : Core) (k c : ℕ) : Type 0 where
  pub card : c < 16
  pub slot : slot_of limits16 (alone s) k < 8
  pub room : (open_at s.slots (slot_of limits16 (alone s) k)).change.writes c ≡ true → at s.reached c < 60000

pub taken_of : (whole : Bool) (s : Core) (k c : ℕ) → (whole ≡ true → Stands s) → first_failing (after28 (not whole) (take_checks limits16 (alone s) k c)) ≡ Ok tt → TakenOf s k c
taken_of whole s k c f e =
    let p : Passed s (take_checks limits16 (alone s) k c) = passed whole s (take_checks limits16 (alone s) k c) f e in
    let m : Model = model_of p.stands.entries p.stands.changes s in
    let t : Taken m k c = taken m k c p.checks in
    record { card = t.card; slot = t.slot; room = take_room m k c t }
