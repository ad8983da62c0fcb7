-- `list_step::step` reads a line and does what it says. Assumes nothing.
use Rattle.list_step.proofs.Laws.{executed_for}
use borrow.Author.Rules.{rules}
use Rattle.list_step.proofs.step.Goals as goal

pub returns : goal.returns
returns c = executed_for c.parse-said.ensures c.execute.ensures
