-- `sheet_vectors::stored_numbers` adds each count to its base. Assumes nothing.
use Prim.Native.Nat.{◌+◌, ◌-◌}
use mathlib.Core.Path.{refl}
use native.Mathlib.Omega.{arith}
use Rattle.base_laws.proofs.Fill.{FilledSoFar, filled_none, filled_more, filled_done}
use Rattle.base_merge.specs.Merge.{at}
use borrow.Author.Rules.{rules}
use Rattle.sheet_vectors.proofs.stored_numbers.Given as goal

abbrev pub invariant-loop-c : goal.invariant-loop-c
invariant-loop-c l = FilledSoFar 0 16 (λ k. at l.bases k + at l.counts k) l.out l.c
