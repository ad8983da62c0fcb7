-- `list_calls::vote` calls vote and writes its answer. Assumes nothing.
use Rattle.list_results.proofs.Laws.{by_plan, onward}
use Rattle.list_calls.proofs.vote.Goals as goal

pub returns : goal.returns
returns c = onward c.replied.ensures.replay (by_plan c.vote.ensures c.replied.ensures.put)
