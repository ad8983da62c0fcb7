use Rattle.theory_protocol.specs.Model.{free_slot}
use Rattle.cabinet_layout.specs.Shape.{open_of, empty_slot}
use Rattle.cabinet_layout.proofs.Held.{open_back, free_fits, no_slot}
use Prim.Native.Nat.{◌≤◌}
use mathlib.Core.Path.{sym, ◌∙◌, ap}
use native.Mathlib.Omega.{arith}
use lib.ListN.{length, get_or-eq_default}
use Rattle.cabinet_slots.proofs.slot_at.Goals as goal

pub returns-in-None : goal.returns-in-None
returns-in-None c =
    let h : length c.args.slots ≤ c.args.p = grind arith in
    ap open_of c.free_slot.ensures ∙ open_back free_slot free_fits ∙ sym no_slot ∙ ap open_of (sym (get_or-eq_default c.args.slots empty_slot h))
