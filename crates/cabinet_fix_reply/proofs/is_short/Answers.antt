use Rattle.cabinet_fix_reply.proofs.Rows.{rows_count}
use mathlib.Core.Path.{◌∙◌}
use Rattle.cabinet_fix_reply.proofs.is_short.Goals as goal

pub returns : goal.returns
returns c = let e : _ = c.count-rows.ensures ∙ rows_count c.all_below-all.result c.args.head.cards c.all_below-all.ensures in rw e
