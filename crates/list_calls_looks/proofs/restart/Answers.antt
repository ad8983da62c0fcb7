-- `list_calls_looks::restart` restarts from the sheets as the cabinet writes them and writes its answer. Assumes nothing.
use Rattle.list_results.proofs.Laws.{restarted_by, onward}
use Rattle.list_calls_looks.proofs.restart.Goals as goal

pub returns : goal.returns
returns c = onward c.replied.ensures.replay (restarted_by c.restart.ensures c.replied.ensures.put)
