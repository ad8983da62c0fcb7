-- `list_results::begin` has no cabinet. Assumes nothing.
use mathlib.Core.Path.{ap}
use mathlib.Core.Bool.{false}
use Rattle.cabinet.specs.declared.Cabinet.{Cabinet}
use borrow.Author.Rules.{rules}
use Rattle.list_results.proofs.begin.Goals as goal

pub returns : goal.returns
returns c = ap (λ (x : Cabinet). record { cabinet = x; begun = false }) c.fresh.ensures.cabinet
