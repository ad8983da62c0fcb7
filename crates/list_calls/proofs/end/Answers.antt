-- `list_calls::end` calls end and writes its answer. Assumes nothing.
use Rattle.list_results.proofs.Laws.{by_plan, onward}
use Rattle.list_calls.proofs.end.Goals as goal

pub returns : goal.returns
returns c = onward c.replied.ensures.replay (by_plan c.end.ensures c.replied.ensures.put)
