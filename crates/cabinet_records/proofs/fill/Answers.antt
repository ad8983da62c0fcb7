-- `cabinet_records::fill` writes the records one after the other. Assumes nothing.
use Prim.Native.Nat.{ℕ, ◌+◌}
use mathlib.Core.Path.{◌≡◌}
use native.Mathlib.Omega.{arith}
use Rattle.base_laws.proofs.Fill.{stored_more}
use Rattle.cabinet_records.proofs.fill.Goals as goal

pub loop-i-preserved : goal.loop-i-preserved
loop-i-preserved c =
    let e : 0 + c.loop-i.i ≡ c.loop-i.i = omega arith in
    rw e at (stored_more c.loop-i.invariant c.loop-i-test.true c.record_of.ensures)
