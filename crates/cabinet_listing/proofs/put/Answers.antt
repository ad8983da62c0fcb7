-- `cabinet_listing::put` stores a number where there is such a place. Assumes nothing.
use mathlib.Core.Path.{sym}
use lib.Seq.{set_out}
use Rattle.cabinet_listing.proofs.put.Goals as goal

pub returns-else-n-list : goal.returns-else-n-list
returns-else-n-list c = let a : _ = c.args in sym (set_out a.list.now a.n a.x c.if-n-list.false)
