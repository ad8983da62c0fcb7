use borrow.Author.Rules.{rules}
use borrow.Author.Tests.{tests}
use mathlib.Core.Bool.{not, ◌&&◌, ◌||◌, cond}
use lib.Dec.{eqb, leb, ltb}
use Prim.Native.Nat.{ℕ, ◌+◌, ◌*◌}
use mathlib.Core.Path.{sym, ◌∙◌, ap}
use Rattle.cabinet_layout.proofs.Limits.{width16, slots8, in_hand48, greatest60000}
use Rattle.cabinet_layout.proofs.Chains.{all_numbers, any_numbers, all_items, any_items}
use Rattle.base_bits.specs.Member.{member}
use Rattle.theory_protocol.specs.Calls.{some_written}
use Rattle.cabinet_layout.specs.Shape.{limits16, at}
use Rattle.cabinet_bars.proofs.at_top.Goals as goal

pub returns : goal.returns
returns c =
    let a = c.args in
    any_numbers (λ k. member a.writes k && leb 60000 (at a.reached k)) (search rules) width16 c.any.ensures.ran
    (λ x q h. search (rules, tests)) (λ x q h. search (rules, tests))
    ∙ ap (λ (n : ℕ). some_written limits16 (member a.writes) (λ k. leb n (at a.reached k))) (sym greatest60000)
