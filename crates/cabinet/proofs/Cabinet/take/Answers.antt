use Rattle.cabinet.proofs.Call.{framed_take}
use Rattle.cabinet.proofs.Cabinet.take.Goals as goal

pub returns : goal.returns
returns c =
    let a : _ = c.args in
    let t : _ = c.take-out in
    framed_take a.self a.change a.card t.result.state t.result.change t.result.vector.entries _ _ t.result.core _ _ c.cabinet_valid-valid.ensures t.ensures c.put_vector.ensures c.put_change.ensures
