use Rattle.cabinet_layout.specs.Shape.{limits16}
use Rattle.cabinet_losing.proofs.no_slots.Goals as goal

pub returns : goal.returns
unfolding limits16
returns c = rw c.free_slot.ensures
