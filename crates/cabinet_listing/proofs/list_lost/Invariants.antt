-- `cabinet_listing::list_lost` lists the changes lost. The invariant: those up to k are met and stand at the beginning of the list. Assumes nothing.
use Prim.Native.Nat.{◌-◌}
use Rattle.cabinet_listing.proofs.Next.{lost_to}
use Rattle.cabinet_listing.proofs.Merged.{Writing}
use Rattle.cabinet_listing.proofs.list_lost.Given as goal

abbrev pub invariant-loop-k : goal.invariant-loop-k
invariant-loop-k l = Writing l.changes l.initial.passed l.ends (lost_to l.changes l.initial.passed l.ends l.ended) l.initial.list l.list l.passed l.heads l.n l.k l.x

abbrev pub decreases-loop-k : goal.decreases-loop-k
decreases-loop-k l = 4294967296 - l.k
