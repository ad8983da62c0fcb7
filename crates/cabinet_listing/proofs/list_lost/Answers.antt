-- `cabinet_listing::list_lost` lists the changes lost. The invariant: those up to k are met and stand at the beginning of the list. Assumes nothing.
use native.Mathlib.Omega.{arith}
use Rattle.cabinet_listing.proofs.Merged.{writing_none, writing_more, writing_done}
use borrow.Author.Rules.{rules}
use Rattle.cabinet_listing.proofs.list_lost.Goals as goal

pub loop-k-init : goal.loop-k-init
loop-k-init c =
    let a : _ = c.args in
    let e : _ = c.ends_of-ends in
    writing_none a.changes.now a.line e.result a.ended c.heads-heads.ensures c.next_lost-x.ensures (search rules)

pub overflow_add-n : goal.overflow_add-n
overflow_add-n c = let s : _ = c.loop-k.invariant.stands in omega (arith, s.few, s.fits, c.loop-k-test.true)

pub loop-k-smaller : goal.loop-k-smaller
loop-k-smaller c = let s : _ = c.loop-k.invariant.stands in omega (arith, s.fits, c.loop-k-test.true)

pub loop-k-preserved : goal.loop-k-preserved
loop-k-preserved c =
    let a : _ = c.args in
    let e : _ = c.ends_of-ends in
    writing_more a.changes.now a.line e.result a.ended c.loop-k.invariant c.loop-k-test.true c.put.ensures c.past-p.ensures c.heads-h.ensures c.next_lost-x-in-loop-k.ensures (search rules)

pub shape_of-list : goal.shape_of-list
shape_of-list c = c.loop-k.invariant.long

pub returns : goal.returns
returns c =
    let a : _ = c.args in
    let e : _ = c.ends_of-ends in
    writing_done a.changes.now a.line e.result a.ended a.reached a.cards c.loop-k.invariant c.loop-k-test.false e.ensures
