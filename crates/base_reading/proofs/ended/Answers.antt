-- `base_reading::ended` says what a run of digits comes to. Assumes nothing.
use borrow.Author.Rules.{rules}
use borrow.Author.Tests.{eq-eqb, ne_eqb, le-leb}
use Rattle.base_reading.specs.Reads.{limit}
use Rattle.base_reading.proofs.ended.Goals as goal

pub returns-then-end-at : goal.returns-then-end-at
returns-then-end-at c = simp (eq-eqb _ _ c.if-end-at.true)

pub returns-else-end-at : goal.returns-else-end-at
returns-else-end-at c = simp (ne_eqb _ _ c.if-end-at.false, le-leb c.args.value limit (search rules))
