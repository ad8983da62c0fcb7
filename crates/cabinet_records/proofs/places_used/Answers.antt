use mathlib.Core.Path.{sym}
use Rattle.base_laws.proofs.Logic.{cond_true, cond_false}
use Rattle.cabinet_records.proofs.places_used.Goals as goal

pub returns-then-n-places : goal.returns-then-n-places
returns-then-n-places c = sym (cond_true _ _ c.if-n-places.true)

pub returns-else-n-places : goal.returns-else-n-places
returns-else-n-places c = sym (cond_false _ _ c.if-n-places.false)
