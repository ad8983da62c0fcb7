-- What a vote and a withdrawal that were accepted show, and what is left where a slot is written anew. Assumes nothing.
use Rattle.std.specs.Prelude.{Ok, Err, is_ok}
use Prim.Native.Nat.{ℕ, ◌<◌}
use mathlib.Core.Path.{◌≡◌, refl, ◌∙◌}
use mathlib.Core.Bool.{Bool, true, false, not, true≢false}
use mathlib.Core.List.{List, [], ◌∷◌}
use native.Mathlib.Omega.{arith}
use borrow.Author.Tests.{not-false}
use Rattle.theory_protocol.specs.Model.{Model, OpenChange, is_card, is_up, is_known, decided, slot_of}
use Rattle.theory_protocol.specs.Valid.{valid}
use Rattle.theory_protocol.specs.Calls.{vote_checks, withdraw_checks}
use Rattle.base_refusal.specs.declared.Refusal.TheVariants.{BadCabinet, NoSuchCard, WrongPhase, NotAwaited, AlreadyDecided}
use Rattle.theory_protocol.specs.Plan.{Check, checked, done}
use Rattle.cabinet_layout.specs.Answers.{reply_of, first_failing, rest, after28}
use Rattle.cabinet_layout.specs.Shape.{limits16, model_of, slot_for, with_slots}
use Rattle.cabinet_layout.specs.declared.Core.{Core}
use Rattle.cabinet_layout.specs.Applied.{applied_all, CoreCarried}
use lib.ListN.{set}
use Rattle.base_refusal.specs.Reply.{Reply}
use Rattle.theory_protocol.specs.Edit.{Edit}
use Rattle.theory_protocol.specs.Edit as edit
use Rattle.cabinet_layout.specs.declared.Slot.{Slot}
use Rattle.cabinet_plans.proofs.Known.{valid_slots, valid_reached, written_there}
use Rattle.cabinet_plans.proofs.Call.{first_passes, second_passes, two_pass, Found, found, Passed, passed, core_refused}
use Rattle.cabinet_plans.specs.Plans.{Stands, alone}

-- what a vote that was accepted shows
pub record Reached (m : Model) (k : ℕ) : Type 0 where
  pub slot : slot_of limits16 m k < 8
  pub below : (c : ℕ) → c < 16 → (m.slot (slot_of limits16 m k)).change.writes c ≡ true → m.numbers.reached c < 4294967295

reached_by : (m : Model) (k : ℕ) → valid limits16 m ≡ true → not (is_known limits16 m k) ≡ false → Reached m k
reached_by m k e n =
    let o : OpenChange = m.slot (slot_of limits16 m k) in
    let f : Found m k = found m k n in
    record {
      slot = f.slot;
      below = λ c h w. let r : _ = valid_reached m e c h (written_there m o (valid_slots m e (slot_of limits16 m k) f.slot) f.open_there c h w) in omega arith;
    }

voted_reached : (m : Model) (k c : ℕ) → first_failing (vote_checks limits16 m k c) ≡ Ok tt → Reached m k
voted_reached m k c e =
    let cs : List Check = vote_checks limits16 m k c in
    let two : first_failing (rest (rest cs)) ≡ Ok tt = two_pass (not (valid limits16 m)) BadCabinet (not (is_card limits16 m c)) NoSuchCard (rest (rest cs)) e in
    reached_by m k (not-false (valid limits16 m) (first_passes (not (valid limits16 m)) BadCabinet (not (is_card limits16 m c)) NoSuchCard (rest (rest cs)) e))
    (second_passes (not (is_up m.phase)) WrongPhase (not (is_known limits16 m k)) NotAwaited (rest (rest (rest (rest cs)))) two)

-- the same, of a core that stands
pub vote_reached : (whole : Bool) (s : Core) (k c : ℕ) → (whole ≡ true → Stands s) → first_failing (after28 (not whole) (vote_checks limits16 (alone s) k c)) ≡ Ok tt → Reached (alone s) k
vote_reached whole s k c f e =
    let p : Passed s (vote_checks limits16 (alone s) k c) = passed whole s (vote_checks limits16 (alone s) k c) f e in
    let r : _ = voted_reached (model_of p.stands.entries p.stands.changes s) k c p.checks in
    record { slot = r.slot; below = r.below }

pub withdrawn_slot : (whole : Bool) (m : Model) (k : ℕ) → first_failing (after28 (not whole) (withdraw_checks limits16 m k)) ≡ Ok tt → slot_of limits16 m k < 8
withdrawn_slot whole m k e =
    let cs : List Check = withdraw_checks limits16 m k in
    let two : first_failing (rest (rest cs)) ≡ Ok tt = two_pass (not whole) BadCabinet (not (is_up m.phase)) WrongPhase (rest (rest cs)) e in
    (found m k (first_passes (not (is_known limits16 m k)) NotAwaited (decided limits16 (m.slot (slot_of limits16 m k))) AlreadyDecided [] two)).slot

-- what is left where the change of one slot is written anew
pub place_next : (s : Core) (p p' : ℕ) (q : Slot) (o : ℕ → OpenChange) → p ≡ p' → q ≡ slot_for (o p)
    → with_slots s (set s.slots p q) s.ended ≡ applied_all (edit.place p' (o p') ∷ []) s
place_next s p p' q o ep eq =
    (λ i. with_slots s (set s.slots p (eq i)) s.ended) ∙ (λ i. applied_all (edit.place (ep i) (o (ep i)) ∷ []) s)

-- a call that was refused leaves the core as it was
pub refused_as : (s : Core) (cs : List Check) (es : List Edit) (r : Reply) → r ≡ first_failing cs → is_ok r ≡ false → CoreCarried s (checked cs done es) (reply_of r) s
refused_as s cs es (Ok tt) e f = absurd (true≢false f)
refused_as s cs es (Err q) e f = core_refused s s cs es (Err q) q e refl refl
