-- `list_step::execute` does what a line says, or nothing where its answer has no room. Assumes nothing.
use Rattle.list_results.proofs.Going.{goes_on, counts_on, stays_there}
use Rattle.list_step.proofs.Laws.{executed}
use borrow.Author.Rules.{rules}
use Rattle.list_step.proofs.execute.Goals as goal

pub returns-in-Next : goal.returns-in-Next
returns-in-Next c = executed _ _ c.done-s.result.replay _ c.done-s.ensures (goes_on _ _ c.in-Next.is)

pub returns-in-Counting : goal.returns-in-Counting
returns-in-Counting c = executed _ _ c.done-s.result.replay _ c.done-s.ensures (counts_on _ _ c.in-Counting.is)

pub returns-in-TooShort : goal.returns-in-TooShort
returns-in-TooShort c = executed _ _ c.done-s.result.replay _ c.done-s.ensures (stays_there _ _ c.in-TooShort.is)
