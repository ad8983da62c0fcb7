use mathlib.Core.Path.{sym, ◌∙◌, ap₂}
use mathlib.Core.List.{List}
use lib.ListN.{replicate}
use Rattle.cabinet_layout.specs.declared.Slot.{Slot}
use Rattle.cabinet_layout.specs.declared.Vector.{Vector}
use Rattle.cabinet_layout.specs.Shape.{blank_core, with_slots, with_vectors}
use Rattle.cabinet_layout.proofs.Limits.{vectors_none}
use Rattle.cabinet_layout.proofs.blank.Goals as goal

pub returns : goal.returns
returns c =
    ap₂ (λ (vs : List Vector) (p : Slot). with_slots (with_vectors (blank_core c.args.head) vs vs) (replicate 8 p) (replicate 8 0))
    (c.no_vectors-vectors.ensures ∙ sym vectors_none) c.free_slot.ensures
