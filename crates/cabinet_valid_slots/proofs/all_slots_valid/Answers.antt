use borrow.Author.Rules.{rules}
use borrow.Author.Tests.{tests}
use Rattle.cabinet_layout.proofs.Limits.{slots8}
use Rattle.cabinet_layout.proofs.Chains.{all_items}
use Rattle.cabinet_layout.specs.Shape.{limits16, numbers_model, open_of, empty_slot}
use Rattle.cabinet_layout.specs.declared.Slot.{Slot}
use mathlib.Core.List.{[]}
use Rattle.theory_protocol.specs.Valid.{slot_valid}
use Rattle.cabinet_valid_slots.proofs.all_slots_valid.Goals as goal

pub returns : goal.returns
returns c =
    let a = c.args in
    all_items (λ (o : Slot). slot_valid limits16 (numbers_model a.head a.base [] [] a.reached) (open_of o)) empty_slot a.slots (search rules) (search rules) slots8 c.all.ensures.ran
    (λ x q h. search (rules, tests)) (λ x q h. search (rules, tests))
