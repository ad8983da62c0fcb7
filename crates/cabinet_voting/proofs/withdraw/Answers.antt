use Rattle.std.specs.Prelude.{Ok}
use Prim.Native.Nat.{◌<◌}
use native.Mathlib.Omega.{arith}
use mathlib.Core.Path.{◌≡◌, sym, ◌∙◌}
use borrow.Author.Rules.{rules}
use Rattle.cabinet_plans.specs.Plans.{alone}
use Rattle.cabinet_voting.proofs.Voted.{withdrawn_slot}
use Rattle.cabinet_voting.proofs.withdraw.Goals as goal

pub offset_bounds-core-at : goal.offset_bounds-core-at
offset_bounds-core-at c =
    let ok : c.withdraw_verdict-reply.result ≡ Ok tt = grind (arith, c.is_ok.ensures.value, c.if-is_ok.true) in
    let h : _ = withdrawn_slot c.args.valid (alone c.args.core) c.args.change (sym c.withdraw_verdict-reply.ensures ∙ ok) in
    let l : c.slot_of-at.result < 8 = omega (arith, h, c.slot_of-at.ensures) in search rules

pub bounds-core-at : goal.bounds-core-at
bounds-core-at c =
    let ok : c.withdraw_verdict-reply.result ≡ Ok tt = search rules in
    let h : _ = withdrawn_slot c.args.valid (alone c.args.core) c.args.change (sym c.withdraw_verdict-reply.ensures ∙ ok) in
    omega (arith, h, c.slot_of-at.ensures)
