-- `list_calls_lent::sheet` writes a sheet and its answer. Assumes nothing.
use Prim.Native.Nat.{◌-◌, min}
use mathlib.Core.Path.{◌≡◌, ◌∙◌}
use native.Mathlib.Omega.{arith}
use lib.Seq.{take_at}
use Rattle.list_results.proofs.Laws.{sheet_by, onward, written_as}
use Rattle.list_calls_lent.proofs.sheet.Goals as goal

pub returns : goal.returns
returns c =
    let z : c.min-places.result - 0 ≡ c.min-places.result = omega arith in
    let k : c.min-places.result ≡ min c.args.bytes 65536 = omega arith in
    onward c.with.ensures.replay
    (written_as c.with.ensures.written
    (sheet_by c.min-places.result _ _ c.sheet-a.ensures (c.buffer-1.given.2 ∙ z ∙ k) (take_at _ _ _ (c.buffer-2-1.given ∙ c.buffer-1.given.2 ∙ z)) c.put_sheet-written.ensures))
