use Rattle.cabinet_layout.specs.declared.Slot.{Slot}
use Rattle.cabinet_layout.proofs.Held.{set_known, slot_by}
use mathlib.Core.Path.{refl, ap}
use borrow.Author.Rules.{rules}
use Rattle.cabinet_opening.proofs.opened.Goals as goal

pub returns : goal.returns
returns c =
    let a : _ = c.args in
    let e : _ = c.free_slot.ensures in
    slot_by (ap (λ (p : Slot). p.vector) e) refl (set_known a.reads (search rules)) (set_known a.writes (search rules)) (ap (λ (p : Slot). p.yes) e) (ap (λ (p : Slot). p.taken) e)
