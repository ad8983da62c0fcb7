-- `sheet_vectors::some_differs` looks for a head that differs. The invariant: none of the cards passed has one. Assumes nothing.
use Prim.Native.Nat.{◌-◌}
use native.Mathlib.Omega.{arith}
use Rattle.base_laws.proofs.Fill.{NoneSoFar, search_none}
use Rattle.sheet_vectors.specs.Heads.{head_differs}
use Rattle.sheet_vectors.proofs.Turns.{none_stop, none_more, none_end}
use borrow.Author.Rules.{rules}
use Rattle.sheet_vectors.proofs.some_differs.Given as goal

abbrev pub invariant-loop-other : goal.invariant-loop-other
invariant-loop-other l = NoneSoFar 16 (head_differs l.entries l.heads l.passed l.n l.k l.p) l.other
