-- `base_rows::put_row` writes a row. The invariant: writing the entries left gives the whole. Assumes nothing.
use Prim.Native.Nat.{ℕ, ◌+◌, ◌*◌, ◌-◌, ◌≤◌}
use mathlib.Core.Path.{◌≡◌, sym, ◌∙◌, ap}
use borrow.Author.Rules.{rules}
use native.Mathlib.Omega.{arith}
use lib.ListN.{length, drop}
use lib.Seq.{sets}
use borrow.Author.Tests.{lt-ltb, le-ltb}
use Rattle.base_laws.proofs.Logic.{cond_true, cond_false}
use Rattle.base_rows.proofs.Rows.{store_step, store_done}
use Rattle.base_rows.proofs.put_row.Given as goal

abbrev pub invariant-loop-j : goal.invariant-loop-j
invariant-loop-j l = (l.j ≤ 16) × (sets l.entries (l.place * 16 + l.j) (drop l.j l.row) ≡ sets l.initial.entries (l.place * 16) l.row)
