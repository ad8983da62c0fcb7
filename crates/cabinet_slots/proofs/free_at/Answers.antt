use mathlib.Core.Path.{◌≡◌, ◌∙◌}
use mathlib.Core.Bool.{Bool, true, false, not}
use lib.Dec.{eqb}
use borrow.Author.Rules.{rules}
use borrow.Author.Tests.{tests}
use Rattle.std.proofs.lemmas.Iterator.{IsFirst-from_position, YieldsList-from_slice}
use Rattle.cabinet_layout.specs.declared.Slot.{Slot}
use Rattle.cabinet_layout.proofs.Limits.{slots8}
use Rattle.cabinet_slots.proofs.First.{first_slot}
use Rattle.cabinet_slots.proofs.free_at.Goals as goal

pub returns : goal.returns
returns c =
    let q : Slot → Bool = λ o. not (not (eqb o.number 0)) in
    c.unwrap_or.ensures
    ∙ first_slot q c.args.slots c.position.result (search rules) slots8
    (IsFirst-from_position _ _ _ (λ o. q o ≡ true) (λ o. q o ≡ false) c.position.ensures.ran (YieldsList-from_slice c.args.slots (search rules)) (λ x r h. search (rules, tests)) (λ x r h. search (rules, tests)))
