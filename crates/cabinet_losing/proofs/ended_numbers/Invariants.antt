use Rattle.theory_protocol.specs.Edit.{remembered}
use Rattle.cabinet_layout.specs.Shape.{limits16, open_at}
use Rattle.base_laws.proofs.Fill.{FilledSoFar}
use Rattle.cabinet_losing.proofs.ended_numbers.Given as goal

abbrev pub invariant-loop-p : goal.invariant-loop-p
invariant-loop-p l = FilledSoFar 0 8 (λ k. remembered limits16 (open_at l.slots k)) l.out l.p
