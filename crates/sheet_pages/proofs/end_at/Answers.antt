-- `sheet_pages::end_at` judges what stands behind the last sheet. Assumes nothing.
use Prim.Native.Nat.{◌-◌}
use native.Mathlib.Omega.{arith}
use borrow.Author.Tests.{eq-eqb, ne_eqb}
use lib.ListN.{length, length-drop}
use Rattle.sheet_pages.proofs.end_at.Goals as goal

pub returns-then-at-s : goal.returns-then-at-s
returns-then-at-s c = rw (length-drop c.args.at c.args.s.now, ne_eqb (length c.args.s.now - c.args.at) 0 (omega arith))

pub returns-else-at-s : goal.returns-else-at-s
returns-else-at-s c = rw (length-drop c.args.at c.args.s.now, eq-eqb (length c.args.s.now - c.args.at) 0 (omega arith))
