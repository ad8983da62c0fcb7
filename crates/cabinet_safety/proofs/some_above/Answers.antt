use borrow.Author.Rules.{rules}
use borrow.Author.Tests.{tests}
use mathlib.Core.Bool.{◌&&◌}
use lib.Dec.{ltb}
use mathlib.Core.Path.{refl}
use Rattle.cabinet_layout.proofs.Chains.{any_numbers}
use Rattle.cabinet_layout.specs.Shape.{at}
use Rattle.cabinet_listing.specs.Lost.{framed_by}
use Rattle.cabinet_safety.proofs.some_above.Goals as goal

pub returns : goal.returns
returns c =
    let a = c.args in
    any_numbers (λ i. ltb i a.cards && framed_by a.changes.now i (at a.numbers i) (at a.reached i) a.k) {n = 16} (search rules) refl c.any.ensures.ran
    (λ x q h. search (rules, tests)) (λ x q h. search (rules, tests))
