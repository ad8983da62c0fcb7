-- What a cabinet that passes 28 and a call that was accepted show. Assumes nothing.
use Prim.Native.Nat.{ℕ, ◌+◌, ◌≤◌, ◌<◌}
use mathlib.Core.Path.{◌≡◌, refl, sym, ◌∙◌}
use mathlib.Core.Bool.{Bool, true, false, not, ◌&&◌, ◌||◌}
use native.Mathlib.Omega.{arith}
use lib.Dec.{eqb, ltb}
use borrow.Author.Tests.{ltb-true, eq-eqb, ltb-false}
use Rattle.base_laws.specs.Below.{all_below, any_below}
use Rattle.base_laws.proofs.Logic.{test, clash, and_left, and_right, and_intro, or_right, not_true, not_intro}
use Rattle.base_laws.proofs.Below.{all_at, any_intro}
use Rattle.theory_protocol.specs.Model.{Model, OpenChange, is_open, is_rolling, to_write, strays}
use Rattle.theory_protocol.specs.Valid.{valid, session_valid, cards_valid, card_valid, slot_valid, entries_valid, room_to_write}
use Rattle.theory_protocol.proofs.Passed.{CardPassed, passed, cards_pass, others_pass}
use Rattle.theory_history.specs.Change.{touches}
use Rattle.cabinet_layout.specs.Shape.{limits16}
use Rattle.cabinet_layout.proofs.Limits.{width16, slots8, greatest60000, greatest_number32}

or_use : (a b : Bool) → not a || b ≡ true → a ≡ true → b ≡ true
or_use true b h e = h
or_use false b h e = clash e refl

-- a card that is there
pub valid_card : (m : Model) → valid limits16 m ≡ true → (c : ℕ) → c < 16 → m.present c ≡ true → CardPassed limits16 m c
valid_card m e c h p = passed limits16 m e c (omega (arith, width16)) p

pub valid_slots : (m : Model) → valid limits16 m ≡ true → (p : ℕ) → p < 8 → slot_valid limits16 m (m.slot p) ≡ true
valid_slots m e p h =
    all_at limits16.slots (λ p. slot_valid limits16 m (m.slot p))
    (and_right (session_valid limits16 m && cards_valid limits16 m && all_below limits16.width (card_valid limits16 m)) (all_below limits16.slots (λ p. slot_valid limits16 m (m.slot p))) (others_pass limits16 m e))
    p (omega (arith, slots8))

-- a card that an open change has yet to write has room
pub room_known : (m : Model) (o : OpenChange) → slot_valid limits16 m o ≡ true → is_open o ≡ true → (c : ℕ) → c < 16 → to_write o c ≡ true → room_to_write limits16 m.numbers c ≡ true
room_known m o e op c h w =
    let s : _ = or_use (is_open o) (not (strays limits16 m (touches o.change)) && all_below limits16.width (λ c. not (to_write o c) || room_to_write limits16 m.numbers c) && entries_valid limits16 m.present o.vector) e op in
    let a : all_below limits16.width (λ c. not (to_write o c) || room_to_write limits16 m.numbers c) ≡ true =
    and_right (not (strays limits16 m (touches o.change))) (all_below limits16.width (λ c. not (to_write o c) || room_to_write limits16 m.numbers c))
    (and_left (not (strays limits16 m (touches o.change)) && all_below limits16.width (λ c. not (to_write o c) || room_to_write limits16 m.numbers c)) (entries_valid limits16 m.present o.vector) s) in
    or_use (to_write o c) (room_to_write limits16 m.numbers c) (all_at limits16.width (λ c. not (to_write o c) || room_to_write limits16 m.numbers c) a c (omega (arith, width16))) w

pub room_below : (m : Model) (c : ℕ) → room_to_write limits16 m.numbers c ≡ true → m.numbers.reached c < 60000
room_below m c e =
    let l : m.numbers.reached c < limits16.greatest_state = ltb-true (m.numbers.reached c) limits16.greatest_state (and_right (ltb (m.numbers.reached c) (m.numbers.base c + limits16.in_hand)) (ltb (m.numbers.reached c) limits16.greatest_state) e) in
    omega (arith, greatest60000)

pub valid_reached : (m : Model) → valid limits16 m ≡ true → (c : ℕ) → c < 16 → m.present c ≡ true → m.numbers.reached c ≤ 60000
valid_reached m e c h p = let l : m.numbers.reached c ≤ limits16.greatest_state = (valid_card m e c h p).numbers.within in omega (arith, greatest60000)

-- a card that an open change writes is there
pub written_there : (m : Model) (o : OpenChange) → slot_valid limits16 m o ≡ true → is_open o ≡ true → (c : ℕ) → c < 16 → o.change.writes c ≡ true → m.present c ≡ true
written_there m o e op c h w =
    let s : _ = or_use (is_open o) (not (strays limits16 m (touches o.change)) && all_below limits16.width (λ c. not (to_write o c) || room_to_write limits16 m.numbers c) && entries_valid limits16 m.present o.vector) e op in
    let n : not (strays limits16 m (touches o.change)) ≡ true =
    and_left (not (strays limits16 m (touches o.change))) (all_below limits16.width (λ c. not (to_write o c) || room_to_write limits16 m.numbers c))
    (and_left (not (strays limits16 m (touches o.change)) && all_below limits16.width (λ c. not (to_write o c) || room_to_write limits16 m.numbers c)) (entries_valid limits16 m.present o.vector) s) in
    let t : touches o.change c ≡ true = or_right (o.change.reads c) w in
    test (m.present c) (λ p. p) (λ q. clash (any_intro limits16.width (λ c. touches o.change c && not (m.present c)) c (omega (arith, width16)) (and_intro t (not_intro q))) (not_true (strays limits16 m (touches o.change)) n))

-- the session and the number of cards
valid_head : (m : Model) → valid limits16 m ≡ true → session_valid limits16 m && cards_valid limits16 m ≡ true
valid_head m e =
    and_left (session_valid limits16 m && cards_valid limits16 m) (all_below limits16.width (card_valid limits16 m)) (cards_pass limits16 m e)

-- the session of a cabinet that is valid while rolling is not the greatest
pub session_room : (m : Model) → valid limits16 m ≡ true → is_rolling m.phase ≡ true → m.session ≡ 4294967295 → ⊥
session_room m e r q =
    let a : session_valid limits16 m ≡ true = and_left (session_valid limits16 m) (cards_valid limits16 m) (valid_head m e) in
    let b : is_rolling m.phase && eqb m.session limits16.greatest_number ≡ false = not_true _ (and_right (not (eqb m.session 0)) (not (is_rolling m.phase && eqb m.session limits16.greatest_number)) a) in
    clash (and_intro r (eq-eqb m.session limits16.greatest_number (q ∙ sym greatest_number32))) b

-- no card is there beyond the width: a cabinet of n cards has at most 16
pub valid_count : (m : Model) (n : ℕ) → m.present limits16.width ≡ ltb limits16.width n → valid limits16 m ≡ true → n ≤ 16
valid_count m n p e =
    let l : n ≤ limits16.width = ltb-false limits16.width n (sym p ∙ not_true (m.present limits16.width) (and_right (any_below limits16.width m.present) (not (m.present limits16.width)) (and_right (session_valid limits16 m) (cards_valid limits16 m) (valid_head m e)))) in
    omega (arith, width16)
