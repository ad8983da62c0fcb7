-- `list_calls::safe` calls safe and writes its answer. Assumes nothing.
use Rattle.list_results.proofs.Laws.{by_plan, onward, written_as}
use Rattle.list_calls.proofs.safe.Goals as goal

pub returns : goal.returns
returns c = onward c.with.ensures.replay (written_as c.with.ensures.written (by_plan c.safe-a.ensures c.put_safe-written.ensures))
