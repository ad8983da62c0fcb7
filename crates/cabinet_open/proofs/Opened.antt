-- What an opening that was accepted shows. Assumes nothing.
use Rattle.std.specs.Prelude.{Ok}
use Prim.Native.Nat.{◌+◌, ◌<◌}
use mathlib.Core.Path.{◌≡◌}
use mathlib.Core.Bool.{Bool, false, not, ◌&&◌, ◌||◌}
use mathlib.Core.List.{List, []}
use native.Mathlib.Omega.{arith}
use lib.Dec.{ltb, leb}
use borrow.Author.Tests.{ltb-true, leb-false, not-false}
use Rattle.base_laws.specs.Below.{any_below}
use Rattle.base_laws.proofs.Logic.{clash, test, or_right}
use Rattle.base_refusal.specs.declared.Refusal.TheVariants.{BadCabinet, NoSuchCard, BothSetsEmpty, WrongPhase, Barred, NoSlot, InHandFull, LimitReached}
use Rattle.theory_history.specs.Change.{CardSet}
use Rattle.theory_protocol.specs.Model.{Model, is_up, free_at, strays, is_empty}
use Rattle.theory_protocol.specs.Plan.{Check}
use Rattle.theory_protocol.specs.Calls.{open_checks, barred, lowest_barred, some_written}
use Rattle.cabinet_layout.specs.Answers.{first_failing, rest, after28}
use Rattle.cabinet_layout.specs.Shape.{limits16}
use Rattle.cabinet_layout.proofs.Limits.{slots8, greatest_number32}
use Rattle.cabinet_plans.proofs.Call.{second_passes, two_pass}

-- what an opening that was accepted shows
pub record Opens (m : Model) : Type 0 where
  pub slot : free_at limits16 m < 8
  pub count : m.latest < 4294967295

pub opens : (whole : Bool) (m : Model) (reads writes : CardSet) → first_failing (after28 (not whole) (open_checks limits16 m reads writes)) ≡ Ok tt → Opens m
opens whole m reads writes e =
    let cs : List Check = open_checks limits16 m reads writes in
    let full : Bool = some_written limits16 writes (λ c. leb (m.numbers.base c + limits16.in_hand) (m.numbers.reached c)) in
    let top : Bool = some_written limits16 writes (λ c. leb limits16.greatest_state (m.numbers.reached c)) in
    let last : Bool = leb limits16.greatest_number m.latest in
    let two : first_failing (rest (rest cs)) ≡ Ok tt = two_pass (not whole) BadCabinet (strays limits16 m reads || strays limits16 m writes) NoSuchCard (rest (rest cs)) e in
    let four : first_failing (rest (rest (rest (rest cs)))) ≡ Ok tt = two_pass (is_empty limits16 reads && is_empty limits16 writes) BothSetsEmpty (not (is_up m.phase)) WrongPhase (rest (rest (rest (rest cs)))) two in
    let free : not (ltb (free_at limits16 m) limits16.slots) ≡ false = second_passes (any_below limits16.width (barred limits16 m reads writes)) (Barred (lowest_barred limits16 m reads writes)) (not (ltb (free_at limits16 m) limits16.slots)) NoSlot (rest (rest (rest (rest (rest (rest cs)))))) four in
    let six : first_failing (rest (rest (rest (rest (rest (rest cs)))))) ≡ Ok tt = two_pass (any_below limits16.width (barred limits16 m reads writes)) (Barred (lowest_barred limits16 m reads writes)) (not (ltb (free_at limits16 m) limits16.slots)) NoSlot (rest (rest (rest (rest (rest (rest cs)))))) four in
    let tops : top || last ≡ false = second_passes full InHandFull (top || last) LimitReached [] six in
    let l : free_at limits16 m < limits16.slots = ltb-true (free_at limits16 m) limits16.slots (not-false (ltb (free_at limits16 m) limits16.slots) free) in
    let k : m.latest < limits16.greatest_number = leb-false limits16.greatest_number m.latest (test last (λ t. clash (or_right top t) tops) (λ f. f)) in
    record { slot = omega (arith, slots8); count = omega (arith, greatest_number32) }
