use Prim.Native.Nat.{◌+◌, ◌-◌}
use mathlib.Core.Path.{refl}
use lib.Dec.{leb}
use Rattle.base_laws.proofs.Fill.{AllSoFar, all_none, all_more, all_done}
use Rattle.cabinet_layout.specs.Shape.{at}
use Rattle.cabinet_layout.proofs.Limits.{width16}
use borrow.Author.Rules.{rules}
use Rattle.cabinet_valid_frames.proofs.rising_entries.Goals as goal

pub loop-j-init : goal.loop-j-init
loop-j-init c = all_none

pub loop-j-preserved : goal.loop-j-preserved
loop-j-preserved c = all_more c.loop-j.invariant c.loop-j-test.true refl

pub returns : goal.returns
returns c = all_done c.loop-j.invariant c.loop-j-test.false width16
