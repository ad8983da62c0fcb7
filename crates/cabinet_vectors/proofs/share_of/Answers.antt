use Rattle.cabinet_layout.proofs.Held.{zero_listed}
use mathlib.Core.Path.{◌∙◌}
use Rattle.cabinet_vectors.proofs.share_of.Goals as goal

pub with_own-requires : goal.with_own-requires
with_own-requires c = (c.requires.0, c.requires.1 c.if-written.true)

pub returns-then-written : goal.returns-then-written
returns-then-written c = rw c.if-written.true c.with_own.ensures

pub returns-then-read : goal.returns-then-read
returns-then-read c = rw (c.if-written.false, c.if-read.true) (c.copied.ensures.0 ∙ c.copied.ensures.1)

pub returns-else-read : goal.returns-else-read
returns-else-read c = rw (c.if-written.false, c.if-read.false) zero_listed
