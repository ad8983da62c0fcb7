-- `sheet_vectors::first_with` finds the first card at whose head a change stands. The invariant: it stands at none of those passed. Assumes nothing.
use Prim.Native.Nat.{◌-◌}
use mathlib.Core.Path.{◌≡◌, refl, sym, ◌∙◌}
use native.Mathlib.Omega.{arith}
use lib.Dec.{eqb}
use borrow.Author.Tests.{eq-eqb, ne_eqb}
use Rattle.base_laws.proofs.Fill.{NoneSoFar, search_none, search_more, search_found, search_done}
use Rattle.base_merge.specs.Merge.{at}
use borrow.Author.Rules.{rules}
use Rattle.sheet_vectors.proofs.first_with.Given as goal

abbrev pub invariant-loop-c : goal.invariant-loop-c
invariant-loop-c l = NoneSoFar 16 (λ i. eqb (at l.heads i) l.k) l.c
