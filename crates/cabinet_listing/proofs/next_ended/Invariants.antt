-- `cabinet_listing::next_ended` finds the least number above another. The invariant: it is the least of the places passed. Assumes nothing.
use Rattle.cabinet_layout.specs.Shape.{at}
use Rattle.base_merge.proofs.Next.{LeastSoFar}
use Rattle.cabinet_listing.specs.Lost.{number_above}
use Rattle.cabinet_listing.proofs.next_ended.Given as goal

abbrev pub invariant-loop-p : goal.invariant-loop-p
invariant-loop-p l = LeastSoFar 8 (λ i. number_above (at l.ended i) l.k) l.best l.p
