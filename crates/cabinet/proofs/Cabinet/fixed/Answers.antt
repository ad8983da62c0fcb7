-- `Cabinet::fixed` hands back what its plan says, by what fix over the core hands back. Assumes nothing.
use Rattle.cabinet.proofs.Call.{fixed_carried}
use Rattle.cabinet.proofs.Cabinet.fixed.Goals as goal

pub returns : goal.returns
returns c =
    let a : _ = c.args in
    fixed_carried a.self a.places a.list.now _ _ _ c.fix-reply.ensures
