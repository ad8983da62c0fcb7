use mathlib.Core.Path.{refl}
use mathlib.Core.List.{[], ◌∷◌}
use Rattle.theory_protocol.specs.Edit.{rebase}
use Rattle.theory_protocol.specs.Plan.{done}
use Rattle.theory_protocol.specs.Calls.{trim_checks, lines}
use Rattle.cabinet_layout.specs.Shape.{limits16}
use Rattle.cabinet.specs.View.{view}
use Rattle.cabinet.proofs.Call.{kept}
use Rattle.cabinet.proofs.Cabinet.trim.Goals as goal

pub returns : goal.returns
returns c = let s : _ = c.args.self in kept s (trim_checks limits16 (view s)) done (rebase (lines limits16 (view s)) ∷ []) _ _ refl refl c.trim-reply.ensures
