use borrow.Author.Tests.{lt-ltb, le-ltb}
use Rattle.cabinet_listing.proofs.number_above.Goals as goal

pub returns-then-k-x : goal.returns-then-k-x
returns-then-k-x c = let a : _ = c.args in rw (lt-ltb a.k a.x c.if-k-x.true)

pub returns-else-k-x : goal.returns-else-k-x
returns-else-k-x c = let a : _ = c.args in rw (le-ltb a.k a.x c.if-k-x.false)
