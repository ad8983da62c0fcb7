use mathlib.Core.Path.{sym, ◌∙◌, ap₂}
use mathlib.Core.List.{List}
use lib.ListN.{replicate}
use Rattle.cabinet_layout.specs.declared.Slot.{Slot}
use Rattle.cabinet_layout.specs.declared.Vector.{Vector}
use Rattle.cabinet_layout.specs.Shape.{blank_core, with_slots, with_vectors}
use Rattle.cabinet_layout.proofs.Limits.{vectors_none}
use Rattle.cabinet.specs.Apply.{with_core}
use Rattle.cabinet.specs.Fresh.{zero_cabinet}
use Rattle.cabinet.proofs.zeros.Goals as goal

pub returns : goal.returns
returns c =
    let h : _ = c.args.head in
    ap₂ (λ (vs : List Vector) (p : Slot). with_core (zero_cabinet h) (with_slots (with_vectors (blank_core h) vs vs) (replicate 8 p) (replicate 8 0)))
    (c.no_vectors-vectors.ensures ∙ sym vectors_none) c.free_slot-free.ensures
