use borrow.Author.Rules.{rules}
use borrow.Author.Tests.{tests}
use lib.Dec.{eqb}
use Rattle.cabinet_layout.proofs.Limits.{slots8}
use Rattle.cabinet_layout.proofs.Chains.{any_items}
use Rattle.theory_protocol.specs.Edit.{remembered}
use Rattle.cabinet_layout.specs.declared.Slot.{Slot}
use Rattle.cabinet_layout.specs.Shape.{limits16, open_of, empty_slot}
use Rattle.cabinet_safety.proofs.would_end.Goals as goal

pub returns : goal.returns
returns c =
    let a = c.args in
    any_items (λ (o : Slot). eqb (remembered limits16 (open_of o)) a.k) empty_slot a.slots (search rules) (search rules) slots8 c.any.ensures.ran
    (λ x q h. search (rules, tests)) (λ x q h. search (rules, tests))
