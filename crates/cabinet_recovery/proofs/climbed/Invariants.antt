use Rattle.cabinet_recovery.proofs.Climb.{ClimbedSoFar}
use Rattle.theory_history.specs.Line.{orphan}
use Rattle.cabinet_layout.specs.Shape.{limits16, at, ring_frame}
use Rattle.cabinet_recovery.proofs.climbed.Given as goal

abbrev pub invariant-loop-x : goal.invariant-loop-x
invariant-loop-x l = ClimbedSoFar (λ s. orphan limits16.width (at l.stored) (ring_frame l.entries l.card s)) l.base l.reached l.x
