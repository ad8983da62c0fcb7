use Rattle.cabinet_recovery.proofs.Climb.{ring_line}
use Rattle.base_laws.proofs.Fill.{FilledSoFar}
use Rattle.cabinet_recovery.proofs.lines.Given as goal

abbrev pub invariant-loop-c : goal.invariant-loop-c
invariant-loop-c l = FilledSoFar 0 16 (ring_line l.entries l.base l.stored l.reached l.head.cards) l.out l.c
