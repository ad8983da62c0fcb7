use Prim.Native.Nat.{◌-◌}
use mathlib.Core.Bool.{cond}
use lib.Dec.{leb, ltb}
use Rattle.base_laws.proofs.Fill.{AllSoFar, all_none, all_more, all_done}
use Rattle.cabinet_layout.specs.Shape.{limits16, at}
use Rattle.cabinet_layout.proofs.Limits.{width16}
use borrow.Author.Rules.{rules}
use Rattle.cabinet_numbers.proofs.entries_valid.Goals as goal

pub loop-j-init : goal.loop-j-init
loop-j-init c = all_none

pub loop-j-preserved : goal.loop-j-preserved
loop-j-preserved c = all_more c.loop-j.invariant c.loop-j-test.true (rw c.top.ensures)

pub returns : goal.returns
returns c = all_done c.loop-j.invariant c.loop-j-test.false width16
