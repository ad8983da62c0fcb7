use mathlib.Core.Path.{sym, ap}
use mathlib.Core.Bool.{cond}
use mathlib.Core.List.{List}
use Rattle.theory_protocol.specs.Edit.{Edit}
use Rattle.theory_protocol.specs.Plan.{safe, unsafe}
use Rattle.theory_protocol.specs.Calls.{safe_checks, is_safe}
use Rattle.cabinet_layout.specs.Shape.{limits16}
use Rattle.cabinet.specs.View.{view}
use Rattle.cabinet.specs.Apply.{apply_all}
use Rattle.cabinet.proofs.Call.{no_edits}
use Rattle.cabinet.proofs.Cabinet.safe.Goals as goal

pub returns : goal.returns
returns c =
    let a : _ = c.args in
    let s : _ = a.self in
    record { answer = c.safe-reply.ensures; cabinet = sym (ap (λ (es : List Edit). apply_all es s) (no_edits (safe_checks limits16 (view s) a.change) (cond (is_safe limits16 (view s) a.change) safe unsafe))) }
