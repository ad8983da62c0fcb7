-- `base_rows::row_at` copies a row. The invariant: the entries passed are stored. Assumes nothing.
use Prim.Native.Nat.{◌+◌, ◌*◌, ◌-◌}
use mathlib.Core.Path.{refl, sym, ◌∙◌}
use borrow.Author.Rules.{rules}
use lib.ListN.{get_or}
use borrow.Author.Tests.{lt-ltb, le-ltb}
use Rattle.base_laws.specs.Below.{tabulate}
use Rattle.base_laws.proofs.Logic.{cond_true, cond_false}
use Rattle.base_laws.proofs.Fill.{FilledSoFar, filled_none, filled_more, filled_done}
use Rattle.base_rows.specs.Row.{entries_at}
use Rattle.base_rows.proofs.row_at.Given as goal

abbrev pub invariant-loop-j : goal.invariant-loop-j
invariant-loop-j l = FilledSoFar 0 16 (λ i. get_or l.entries (l.place * 16 + i) 0) l.row l.j
