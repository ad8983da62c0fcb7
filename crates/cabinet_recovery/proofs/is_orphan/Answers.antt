-- `cabinet_recovery::is_orphan` looks at the vector of a state. Assumes nothing.
use Prim.Native.Nat.{ℕ, ◌+◌, ◌*◌}
use mathlib.Core.Path.{◌∙◌, ap}
use Rattle.theory_history.specs.Line.{orphan}
use Rattle.cabinet_layout.specs.Shape.{limits16, at}
use Rattle.cabinet_recovery.proofs.is_orphan.Goals as goal

pub returns : goal.returns
returns c =
    let a : _ = c.args in
    c.orphan_from.ensures ∙ ap (λ (p : ℕ). orphan limits16.width (at a.stored) (λ j. at a.entries.now (p * 16 + j))) c.ring_place-place.ensures
