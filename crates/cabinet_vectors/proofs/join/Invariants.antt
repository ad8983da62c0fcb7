use Rattle.theory_history.specs.Vector.{joined}
use Rattle.cabinet_layout.specs.Shape.{at}
use Rattle.base_laws.proofs.Fill.{FilledSoFar}
use Rattle.cabinet_vectors.proofs.join.Given as goal

abbrev pub invariant-loop-j : goal.invariant-loop-j
invariant-loop-j l = FilledSoFar 0 16 (joined (at l.u) (at l.v)) l.out l.j
