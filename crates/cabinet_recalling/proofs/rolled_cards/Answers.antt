-- `cabinet_recalling::rolled_cards` is the set of the cards ahead. Assumes nothing.
use Rattle.cabinet_recalling.proofs.Rolled.{ahead_none, ahead_more, ahead_done}
use Prim.Native.Nat.{◌<◌}
use mathlib.Core.Path.{refl}
use borrow.Author.Rules.{rules}
use Rattle.cabinet_recalling.proofs.rolled_cards.Goals as goal

pub loop-c-init : goal.loop-c-init
loop-c-init c = ahead_none

pub loop-c-preserved : goal.loop-c-preserved
loop-c-preserved c =
    let f : c.with_if-rolled.result < 65536 = search rules in
    ahead_more c.loop-c.invariant c.loop-c-test.true f refl c.with_if-rolled.ensures

pub returns : goal.returns
returns c = ahead_done c.loop-c.invariant c.loop-c-test.false
