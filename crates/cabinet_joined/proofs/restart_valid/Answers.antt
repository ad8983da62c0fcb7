-- `cabinet_joined::restart_valid` restarts from the sheets of a cabinet that passes 28. Assumes nothing.
use mathlib.Core.Path.{refl, sym, ◌∙◌}
use Rattle.cabinet_joined.proofs.Owns.{own_valid, goes_back, goes_on}
use Rattle.cabinet_joined.proofs.restart_valid.Goals as goal

pub returns-then-is_err : goal.returns-then-is_err
returns-then-is_err c =
    own_valid c.requires c.restart-a.ensures c.join-n.ensures.1 refl
    (goes_back c.restart-a.result.reply c.restart-a.result.cabinet c.args.c (sym c.is_err.ensures.value ∙ c.if-is_err.true))

pub returns-else-is_err : goal.returns-else-is_err
returns-else-is_err c =
    own_valid c.requires c.restart-a.ensures c.join-n.ensures.1 refl
    (goes_on c.restart-a.result.reply c.restart-a.result.cabinet c.args.c (sym c.is_err.ensures.value ∙ c.if-is_err.false))
