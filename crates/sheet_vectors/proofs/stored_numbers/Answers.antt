-- `sheet_vectors::stored_numbers` adds each count to its base. Assumes nothing.
use Prim.Native.Nat.{◌+◌, ◌-◌}
use mathlib.Core.Path.{refl}
use native.Mathlib.Omega.{arith}
use Rattle.base_laws.proofs.Fill.{FilledSoFar, filled_none, filled_more, filled_done}
use Rattle.base_merge.specs.Merge.{at}
use borrow.Author.Rules.{rules}
use Rattle.sheet_vectors.proofs.stored_numbers.Goals as goal

pub loop-c-init : goal.loop-c-init
loop-c-init c = filled_none refl

pub overflow_add-out : goal.overflow_add-out
overflow_add-out c =
    let l = c.requires c.loop-c.c c.loop-c-test.true in
    omega (arith, l)

pub loop-c-preserved : goal.loop-c-preserved
loop-c-preserved c = filled_more c.loop-c.invariant c.loop-c-test.true refl

pub returns : goal.returns
returns c = filled_done c.loop-c.invariant c.loop-c-test.false refl
