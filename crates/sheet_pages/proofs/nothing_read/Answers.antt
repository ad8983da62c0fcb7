-- `sheet_pages::nothing_read` hands back the read-out of zeros. Assumes nothing.
use borrow.Author.Rules.{rules}
use Rattle.sheet_pages.proofs.nothing_read.Goals as goal

pub returns : goal.returns
returns c = rw c.no_readout.ensures
