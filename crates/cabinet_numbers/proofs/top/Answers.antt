use Rattle.cabinet_layout.specs.Shape.{limits16}
use Rattle.cabinet_numbers.proofs.top.Goals as goal

pub returns-then-there : goal.returns-then-there
unfolding limits16
returns-then-there c = rw c.if-there.true

pub returns-else-there : goal.returns-else-there
returns-else-there c = rw c.if-there.false
