-- `base_merge::past` brings each card past a number. The invariant: those passed are brought. Assumes nothing.
use Prim.Native.Nat.{◌-◌}
use mathlib.Core.Path.{refl}
use Rattle.base_laws.proofs.Fill.{FilledSoFar, filled_none, filled_more, filled_done}
use Rattle.base_merge.specs.Merge.{at, card_past}
use borrow.Author.Rules.{rules}
use Rattle.base_merge.proofs.past.Goals as goal

pub loop-c-init : goal.loop-c-init
loop-c-init c = filled_none refl

pub loop-c-preserved : goal.loop-c-preserved
loop-c-preserved c = filled_more c.loop-c.invariant c.loop-c-test.true c.card_past-x.ensures

pub returns : goal.returns
returns c = filled_done c.loop-c.invariant c.loop-c-test.false refl
