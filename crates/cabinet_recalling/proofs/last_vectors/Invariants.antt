-- `cabinet_recalling::last_vectors` is the vector of each card's last frame. Assumes nothing.
use mathlib.Core.Bool.{cond}
use mathlib.Core.List.{[]}
use lib.Dec.{ltb}
use Rattle.base_laws.proofs.Fill.{FilledSoFar}
use Rattle.theory_history.specs.Vector.{no_entries}
use Rattle.cabinet_layout.specs.Shape.{at, vector_for, ring_frame}
use Rattle.cabinet_recalling.proofs.last_vectors.Given as goal

abbrev pub invariant-loop-c : goal.invariant-loop-c
invariant-loop-c l = FilledSoFar (record { entries = [] }) 16 (λ k. vector_for (cond (ltb (at l.base k) (at l.stored k)) (ring_frame l.entries k (at l.stored k)) no_entries)) l.out l.c
