-- `cabinet_recalling::with_if` puts a card in, or does not. Assumes nothing.
use mathlib.Core.Path.{sym, ◌∙◌}
use Rattle.base_laws.proofs.Logic.{cond_true, cond_false}
use Rattle.cabinet_recalling.proofs.with_if.Goals as goal

pub returns-then-ahead : goal.returns-then-ahead
returns-then-ahead c = c.with.ensures ∙ sym (cond_true _ _ c.if-ahead.true)

pub returns-else-ahead : goal.returns-else-ahead
returns-else-ahead c = sym (cond_false _ _ c.if-ahead.false)
