use mathlib.Core.Bool.{Bool}
use Rattle.base_bits.specs.Member.{member}
use Rattle.theory_protocol.specs.Model.{is_up}
use Rattle.theory_protocol.specs.Plan.{done}
use Rattle.theory_protocol.specs.Calls.{lose_checks}
use Rattle.cabinet_layout.specs.Shape.{limits16}
use Rattle.cabinet_plans.specs.Plans.{alone}
use Rattle.cabinet.proofs.Call.{swapped, loss_edits, loss_still}
use Rattle.cabinet.proofs.Cabinet.lose.Goals as goal

pub returns : goal.returns
returns c =
    let a : _ = c.args in
    let s : _ = a.self in
    let u : Bool = is_up (alone s.core).phase in
    swapped s (lose_checks limits16 (alone s.core) (member a.cards)) done (loss_edits (member a.cards) u) _ _ _ c.cabinet_valid-valid.ensures (loss_still s (member a.cards) u).0 (loss_still s (member a.cards) u).1 c.lose-out.ensures
