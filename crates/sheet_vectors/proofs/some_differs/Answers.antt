-- `sheet_vectors::some_differs` looks for a head that differs. The invariant: none of the cards passed has one. Assumes nothing.
use Prim.Native.Nat.{◌-◌}
use native.Mathlib.Omega.{arith}
use Rattle.base_laws.proofs.Fill.{NoneSoFar, search_none}
use Rattle.sheet_vectors.specs.Heads.{head_differs}
use Rattle.sheet_vectors.proofs.Turns.{none_stop, none_more, none_end}
use borrow.Author.Rules.{rules}
use Rattle.sheet_vectors.proofs.some_differs.Goals as goal

pub loop-other-init : goal.loop-other-init
loop-other-init c = search_none

pub returns-then-head_differs : goal.returns-then-head_differs
returns-then-head_differs c = none_stop c.loop-other.invariant (omega (arith, c.loop-other-test.true)) c.head_differs.ensures c.if-head_differs.true

pub loop-other-preserved : goal.loop-other-preserved
loop-other-preserved c = none_more c.loop-other.invariant (omega (arith, c.loop-other-test.true)) c.head_differs.ensures c.if-head_differs.false

pub returns : goal.returns
returns c = none_end c.loop-other.invariant (omega (arith, c.loop-other-test.false))
