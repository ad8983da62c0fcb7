-- `cabinet_restart::restarted` is the cabinet that restarts from a read-out. Assumes nothing.
use Rattle.sheet_pages.proofs.Lay.{Sized}
use Rattle.cabinet_restart.proofs.Shows.{restarted_is}
use borrow.Author.Rules.{rules}
use Rattle.cabinet_restart.proofs.restarted.Goals as goal

pub returns : goal.returns
returns c =
    let sized : Sized c.args.r = record { changes = search rules; entries = search rules; sessions = search rules; bases = search rules; counts = search rules } in
    let r = c.args.r in
    restarted_is r (sized) c.requires c.stored_numbers-stored.result c.lines-core.result c.last_vectors-last.result c.head_of-head.result c.blank-core.result c.lowest-low.result c.rolled_cards.result
    c.stored_numbers-stored.ensures c.lowest-low.ensures c.rolled_cards.ensures c.last_vectors-last.ensures c.head_of-head.ensures c.lines-core.ensures c.blank-core.ensures
