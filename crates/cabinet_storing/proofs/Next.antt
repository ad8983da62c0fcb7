-- What an accepted store or beginning shows, and what a refused call leaves. Assumes nothing.
use Rattle.std.specs.Prelude.{Ok, Err, is_ok}
use Prim.Native.Nat.{ℕ, ◌≤◌, ◌<◌}
use mathlib.Core.Path.{◌≡◌, refl}
use mathlib.Core.Bool.{Bool, true, false, not, ◌&&◌, true≢false}
use mathlib.Core.List.{List}
use native.Mathlib.Omega.{arith}
use lib.Dec.{leb, ltb}
use borrow.Author.Tests.{leb-true, not-false}
use Rattle.base_laws.proofs.Logic.{and_right}
use Rattle.theory_protocol.specs.Model.{Model, is_card, is_rolling}
use Rattle.theory_protocol.specs.Valid.{valid}
use Rattle.theory_protocol.proofs.Passed.{CardPassed}
use Rattle.theory_protocol.specs.Calls.{store_checks}
use Rattle.base_refusal.specs.declared.Refusal.TheVariants.{BadCabinet, NoSuchCard, WrongPhase, StoreOutside}
use Rattle.theory_protocol.specs.Edit.{Edit}
use Rattle.cabinet_layout.specs.Answers.{reply_of, first_failing, rest, after28}
use Rattle.cabinet_layout.specs.Shape.{limits16, model_of}
use Rattle.cabinet_layout.specs.declared.Core.{Core}
use Rattle.cabinet_layout.specs.Applied.{CoreCarried}
use Rattle.theory_protocol.specs.Plan.{Check, checked, done}
use Rattle.base_refusal.specs.Reply.{Reply}
use Rattle.cabinet_plans.proofs.Known.{valid_card, valid_reached}
use Rattle.cabinet_plans.proofs.Call.{card_below, first_passes, second_passes, two_pass, Passed, passed, core_refused}
use Rattle.cabinet_plans.specs.Plans.{Stands, alone}

-- a call that was refused leaves the core as it was
pub refused_as : (s : Core) (cs : List Check) (es : List Edit) (r : Reply) → r ≡ first_failing cs → is_ok r ≡ false → CoreCarried s (checked cs done es) (reply_of r) s
refused_as s cs es (Ok tt) e f = absurd (true≢false f)
refused_as s cs es (Err q) e f = core_refused s s cs es (Err q) q e refl refl

pub store_below : (whole : Bool) (m : Model) (c x : ℕ) → first_failing (after28 (not whole) (store_checks limits16 m c x)) ≡ Ok tt → c < 16
store_below whole m c x e = card_below m c (second_passes (not whole) BadCabinet (not (is_card limits16 m c)) NoSuchCard (rest (rest (store_checks limits16 m c x))) e)

-- a write goes up to a state that the card holds
room_at : (m : Model) (c x : ℕ) → first_failing (store_checks limits16 m c x) ≡ Ok tt → x ≤ 60000
room_at m c x e =
    let cs : List Check = rest (rest (store_checks limits16 m c x)) in
    let s : valid limits16 m ≡ true = not-false (valid limits16 m) (first_passes (not (valid limits16 m)) BadCabinet (not (is_card limits16 m c)) NoSuchCard cs e) in
    let i : not (is_card limits16 m c) ≡ false = second_passes (not (valid limits16 m)) BadCabinet (not (is_card limits16 m c)) NoSuchCard cs e in
    let two : first_failing cs ≡ Ok tt = two_pass (not (valid limits16 m)) BadCabinet (not (is_card limits16 m c)) NoSuchCard cs e in
    let inside : leb (m.numbers.stored c) x && leb x (m.numbers.held c) ≡ true =
    not-false (leb (m.numbers.stored c) x && leb x (m.numbers.held c)) (second_passes (is_rolling m.phase) WrongPhase (not (leb (m.numbers.stored c) x && leb x (m.numbers.held c))) StoreOutside (rest (rest cs)) two) in
    let there : m.present c ≡ true = and_right (ltb c limits16.width) (m.present c) (not-false (is_card limits16 m c) i) in
    let high : x ≤ m.numbers.held c = leb-true x (m.numbers.held c) (and_right (leb (m.numbers.stored c) x) (leb x (m.numbers.held c)) inside) in
    let card : CardPassed limits16 m c = valid_card m s c (card_below m c i) there in
    omega (arith, card.numbers.held_reached, valid_reached m s c (card_below m c i) there)

pub begin_room : (whole : Bool) (s : Core) (c x : ℕ) → (whole ≡ true → Stands s) → first_failing (after28 (not whole) (store_checks limits16 (alone s) c x)) ≡ Ok tt → x ≤ 60000
begin_room whole s c x f e =
    let p : Passed s (store_checks limits16 (alone s) c x) = passed whole s (store_checks limits16 (alone s) c x) f e in
    room_at (model_of p.stands.entries p.stands.changes s) c x p.checks
