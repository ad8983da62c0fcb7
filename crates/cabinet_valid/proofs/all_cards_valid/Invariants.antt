use Rattle.base_laws.proofs.Fill.{AllSoFar}
use Rattle.theory_protocol.specs.Valid.{card_valid}
use Rattle.cabinet_layout.specs.Shape.{limits16, bare, with_vectors, with_numbers, with_line, model_of}
use Rattle.cabinet_valid.proofs.all_cards_valid.Given as goal

abbrev pub invariant-loop-c : goal.invariant-loop-c
invariant-loop-c l = AllSoFar 16 (card_valid limits16 (model_of l.entries l.changes (with_line (with_vectors (with_numbers (bare l.head) l.base l.stored l.held l.reached) l.last l.pending) l.line 0))) l.ok l.c
