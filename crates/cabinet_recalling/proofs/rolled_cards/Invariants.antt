-- `cabinet_recalling::rolled_cards` is the set of the cards ahead. Assumes nothing.
use Rattle.cabinet_recalling.proofs.Rolled.{AheadSoFar}
use lib.Dec.{ltb}
use Rattle.cabinet_layout.specs.Shape.{at}
use Rattle.cabinet_recalling.proofs.rolled_cards.Given as goal

abbrev pub invariant-loop-c : goal.invariant-loop-c
invariant-loop-c l = AheadSoFar (λ k. ltb l.low (at l.sessions k)) l.rolled l.c
