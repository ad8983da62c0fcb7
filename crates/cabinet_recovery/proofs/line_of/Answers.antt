use Prim.Native.Nat.{ℕ}
use mathlib.Core.Path.{sym, ◌∙◌, ap}
use mathlib.Core.Bool.{◌&&◌}
use lib.Dec.{ltb}
use borrow.Author.Tests.{ltb-true}
use Rattle.base_laws.proofs.Logic.{cond_true, cond_false, and_left}
use Rattle.cabinet_layout.proofs.Limits.{width16}
use Rattle.cabinet_recovery.proofs.line_of.Goals as goal

pub climbed-requires : goal.climbed-requires
climbed-requires c = let a : _ = c.args in ltb-true a.card 16 (and_left (ltb a.card 16) (ltb a.card a.head.cards) c.if-card-head.true)

pub returns-then-card-head : goal.returns-then-card-head
returns-then-card-head c = let a : _ = c.args in c.climbed.ensures ∙ sym (cond_true _ _ (ap (λ (w : ℕ). ltb a.card w && ltb a.card a.head.cards) width16 ∙ c.if-card-head.true))

pub returns-else-card-head : goal.returns-else-card-head
returns-else-card-head c = let a : _ = c.args in sym (cond_false _ _ (ap (λ (w : ℕ). ltb a.card w && ltb a.card a.head.cards) width16 ∙ c.if-card-head.false))
