-- `cabinet_report::put_cards` writes the lines of the cards. Assumes nothing.
use Rattle.cabinet_layout.specs.Shape.{at}
use Rattle.cabinet_report.proofs.Pushes.{RowsSoFar}
use Rattle.cabinet_report.proofs.put_cards.Given as goal

abbrev pub invariant-loop-c : goal.invariant-loop-c
invariant-loop-c l = RowsSoFar l.cards (at l.stored) (at l.line) l.initial.b l.b l.w l.c
