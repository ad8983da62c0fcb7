use borrow.Author.Rules.{rules}
use borrow.Author.Tests.{tests}
use mathlib.Core.Bool.{not, ◌||◌}
use Rattle.cabinet_layout.proofs.Limits.{width16}
use Rattle.cabinet_layout.proofs.Chains.{all_numbers}
use Rattle.cabinet_layout.specs.Shape.{limits16, at, numbers_of, open_of}
use Rattle.theory_protocol.specs.Model.{to_write}
use Rattle.theory_protocol.specs.Valid.{room_to_write}
use Rattle.cabinet_valid_slots.proofs.writes_fit.Goals as goal

pub returns : goal.returns
returns c =
    let a = c.args in
    all_numbers (λ k. not (to_write (open_of a.o) k) || room_to_write limits16 (numbers_of (at a.base k) 0 0 (at a.reached k)) 0) (search rules) width16 c.all.ensures.ran
    (λ x q h. search (rules, tests)) (λ x q h. search (rules, tests))
