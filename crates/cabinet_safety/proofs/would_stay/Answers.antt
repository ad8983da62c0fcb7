use Rattle.cabinet_safety.proofs.ByChecks.{by_line}
use Rattle.cabinet_safety.proofs.would_stay.Goals as goal

pub returns : goal.returns
returns c =
    let a : _ = c.args in
    by_line a.entries.now a.changes.now a.core a.k _ _ _ c.lines-line.ensures c.some_above-framed.ensures c.would_end-ends.ensures
