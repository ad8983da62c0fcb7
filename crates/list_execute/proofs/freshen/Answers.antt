-- `list_execute::freshen` puts a fresh cabinet in the place of the present one. Assumes nothing.
use Rattle.list_results.specs.declared.Replay.{Replay}
use Rattle.list_results.specs.Step.{Freshened}
use Rattle.list_results.proofs.Laws.{written_as}
use Rattle.list_results.proofs.Steps.{told_for, freshened_done}
use Rattle.list_execute.proofs.freshen.Goals as goal

pub returns-in-Ok : goal.returns-in-Ok
returns-in-Ok c =
    written_as c.with.ensures.written
    (told_for (λ (x : Replay). Freshened c.args.cards c.args.r x) c.with.ensures.replay
    (freshened_done c.args.r c.fresh-a.ensures c.in-Ok.is c.put_reply-written.ensures))
