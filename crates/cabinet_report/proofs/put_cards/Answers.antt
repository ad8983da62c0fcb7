-- `cabinet_report::put_cards` writes the lines of the cards. Assumes nothing.
use Prim.Native.Nat.{zero-le}
use Rattle.base_text.proofs.Puts.{put_nothing, put_length}
use Rattle.cabinet_report.proofs.Pushes.{rows_more, rows_done}
use borrow.Author.Rules.{rules}
use Rattle.cabinet_report.proofs.put_cards.Goals as goal

pub loop-c-init : goal.loop-c-init
loop-c-init c = record { within = zero-le; so = put_nothing _ _; room = zero-le }

pub loop-c-preserved : goal.loop-c-preserved
loop-c-preserved c = rows_more c.loop-c.invariant c.loop-c-test.true c.put_card-w.ensures.so c.put_card-w.ensures.room

pub shape_of-b : goal.shape_of-b
shape_of-b c = put_length c.loop-c.invariant.so

pub returns : goal.returns
returns c =
    let i = c.loop-c.invariant in
    let d = rows_done i c.loop-c-test.false (search rules) in
    record { so = d.0; room = d.1 }
