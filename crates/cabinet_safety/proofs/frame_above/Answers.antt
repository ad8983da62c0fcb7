use borrow.Author.Rules.{rules}
use borrow.Author.Tests.{tests}
use lib.Dec.{eqb}
use Prim.Native.Nat.{suc, ◌+◌}
use mathlib.Core.Path.{sym}
use Rattle.cabinet_layout.proofs.Chains.{any_numbers}
use Rattle.cabinet_layout.specs.Shape.{ring_change}
use Rattle.cabinet_safety.proofs.frame_above.Goals as goal

pub returns : goal.returns
returns c =
    let a = c.args in
    any_numbers (λ i. eqb (ring_change a.changes.now a.c (suc (a.x + i))) a.k) (search rules) (sym c.saturating_sub-n.ensures) c.any.ensures.ran
    (λ x q h. search (rules, tests)) (λ x q h. search (rules, tests))
