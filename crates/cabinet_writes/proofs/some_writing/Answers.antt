use mathlib.Core.Bool.{not, ◌&&◌}
use lib.Dec.{eqb, ltb}
use borrow.Author.Rules.{rules}
use borrow.Author.Tests.{tests}
use Rattle.cabinet_layout.specs.Shape.{at}
use Rattle.cabinet_layout.proofs.Limits.{width16}
use Rattle.cabinet_layout.proofs.Chains.{any_numbers}
use Rattle.cabinet_writes.proofs.some_writing.Goals as goal

pub returns : goal.returns
returns c =
    any_numbers (λ k. ltb k c.args.head.cards && not (eqb (at c.args.writing k) 0)) (search rules) width16 c.any.ensures.ran
    (λ x q h. search (rules, tests)) (λ x q h. search (rules, tests))
