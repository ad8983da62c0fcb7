use Rattle.theory_protocol.specs.Valid.{write_valid}
use Rattle.cabinet_layout.specs.Shape.{writes_model}
use Rattle.cabinet_layout.proofs.Limits.{width16}
use Rattle.cabinet_layout.proofs.Chains.{all_numbers}
use mathlib.Core.List.{[]}
use borrow.Author.Rules.{rules}
use borrow.Author.Tests.{tests}
use Rattle.cabinet_writes.proofs.writes_valid.Goals as goal

pub returns : goal.returns
returns c =
    let a = c.args in
    all_numbers (write_valid (writes_model a.head a.stored [] a.reached a.writing)) (search rules) width16 c.all.ensures.ran
    (λ x q h. search (rules, tests)) (λ x q h. search (rules, tests))
