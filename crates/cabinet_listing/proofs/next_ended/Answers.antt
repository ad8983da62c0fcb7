-- `cabinet_listing::next_ended` finds the least number above another. The invariant: it is the least of the places passed. Assumes nothing.
use Rattle.base_merge.proofs.Next.{least_none, least_more, least_done}
use Rattle.cabinet_listing.proofs.next_ended.Goals as goal

pub loop-p-init : goal.loop-p-init
loop-p-init c = least_none

pub loop-p-preserved : goal.loop-p-preserved
loop-p-preserved c = least_more c.loop-p.invariant c.loop-p-test.true c.number_above.ensures c.lesser-best.ensures

pub returns : goal.returns
returns c = least_done c.loop-p.invariant c.loop-p-test.false
