-- `cabinet_joined::restart` restarts from the sheets as the cabinet writes them. Assumes nothing.
use mathlib.Core.Path.{sym, ◌∙◌}
use Rattle.cabinet_joined.proofs.Owns.{own_invalid}
use Rattle.cabinet_joined.proofs.restart.Goals as goal

pub restart_valid-requires : goal.restart_valid-requires
restart_valid-requires c = sym c.cabinet_valid.ensures ∙ c.if-cabinet_valid.true

pub returns-then-cabinet_valid : goal.returns-then-cabinet_valid
returns-then-cabinet_valid c = c.restart_valid.ensures

pub returns : goal.returns
returns c = own_invalid c.args.c (sym c.cabinet_valid.ensures ∙ c.if-cabinet_valid.false)
