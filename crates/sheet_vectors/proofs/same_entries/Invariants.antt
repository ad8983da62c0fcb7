-- `sheet_vectors::same_entries` compares two vectors. The invariant: those passed are the same. Assumes nothing.
use Prim.Native.Nat.{ℕ, ◌+◌, ◌*◌, ◌-◌, ◌≤◌, zero-le}
use mathlib.Core.Bool.{true}
use mathlib.Core.Path.{◌≡◌, refl, sym, ◌∙◌, ap}
use native.Mathlib.Omega.{arith}
use lib.Dec.{eqb}
use lib.ListN.{get_or}
use borrow.Author.Tests.{eq-eqb, ne_eqb}
use Rattle.sheet_lines.proofs.Judged.{below_step, below_stop}
use Rattle.sheet_vectors.specs.Heads.{same_entries}
use borrow.Author.Rules.{rules}
use Rattle.sheet_vectors.proofs.same_entries.Given as goal

abbrev pub invariant-loop-k : goal.invariant-loop-k
invariant-loop-k l = (l.k ≤ l.n) × (same_entries l.entries l.k l.p l.q ≡ true)
