-- `list_calls_lent::fix` calls fix and writes its answer. Assumes nothing.
use Prim.Native.Nat.{◌-◌, ◌≤◌, min}
use mathlib.Core.Path.{◌≡◌, ◌∙◌}
use native.Mathlib.Omega.{arith}
use lib.ListN.{length}
use lib.Seq.{take_at}
use Rattle.cabinet.proofs.Lent.{part_carried}
use Rattle.list_results.proofs.Laws.{fixed_by, onward, written_as}
use Rattle.list_calls_lent.proofs.fix.Goals as goal

pub returns : goal.returns
returns c =
    let z : c.min-places.result - 0 ≡ c.min-places.result = omega arith in
    let k : c.min-places.result ≡ min c.args.numbers 776 = omega arith in
    let long : min c.args.records 16 ≤ length c.blank_records.result = omega (arith, c.blank_records.ensures) in
    onward c.with.ensures.replay
    (written_as c.with.ensures.written
    (fixed_by c.min-places.result _ _ (part_carried c.fix_array.ensures long) (c.list-1.given.2 ∙ z ∙ k) (take_at _ _ _ (c.list-2-1.given ∙ c.list-1.given.2 ∙ z)) c.put_fix-written.ensures))
