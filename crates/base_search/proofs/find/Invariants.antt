-- `base_search::find` finds where a byte first stands. Assumes nothing.
use Prim.Native.Nat.{◌≤◌, max}
use lib.ListN.{length}
use Rattle.base_search.proofs.Texts.{Missed}
use Rattle.base_search.proofs.find.Given as goal

abbrev pub invariant-loop-i : goal.invariant-loop-i
invariant-loop-i l = Missed l.s l.from l.b l.i × (l.from ≤ l.i) × (l.i ≤ max l.from (length l.s))
