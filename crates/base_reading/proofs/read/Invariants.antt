-- `base_reading::read` reads the run of digits at a place, byte by byte. Assumes nothing.
use Prim.Native.Nat.{◌≤◌, max}
use lib.ListN.{length}
use Rattle.base_reading.specs.Reads.{limit}
use Rattle.base_reading.proofs.Runs.{SoFar}
use Rattle.base_reading.proofs.read.Given as goal

abbrev pub invariant-loop-i : goal.invariant-loop-i
invariant-loop-i l = (SoFar l.s l.at l.value l.i) × (l.value ≤ limit) × (l.at ≤ l.i) × (l.i ≤ max l.at (length l.s))
