-- `sheet_vectors::two_vectors` merges the sheets' frames and compares the vectors of each change. The invariant: frames of one change up to k have one vector. Assumes nothing.
use Prim.Native.Nat.{ℕ, ◌-◌}
use mathlib.Core.Path.{◌≡◌, sym, ◌∙◌, ap, subst}
use mathlib.Core.List.{List}
use native.Mathlib.Omega.{arith}
use Rattle.base_merge.specs.Merge.{ends_of, Rises}
use Rattle.sheet_vectors.specs.Heads.{stored_numbers}
use Rattle.sheet_vectors.proofs.Agreed.{Looked, looked_none, looked_more, looked_found, looked_done}
use borrow.Author.Rules.{rules}
use Rattle.sheet_vectors.proofs.two_vectors.Given as goal

abbrev pub invariant-loop-k : goal.invariant-loop-k
invariant-loop-k l = Looked l.changes l.entries l.initial.passed l.ends l.n l.passed l.heads l.k l.x

abbrev pub decreases-loop-k : goal.decreases-loop-k
decreases-loop-k l = 4294967296 - l.k
