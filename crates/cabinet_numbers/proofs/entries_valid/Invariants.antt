use Prim.Native.Nat.{◌-◌}
use mathlib.Core.Bool.{cond}
use lib.Dec.{leb, ltb}
use Rattle.base_laws.proofs.Fill.{AllSoFar, all_none, all_more, all_done}
use Rattle.cabinet_layout.specs.Shape.{limits16, at}
use Rattle.cabinet_layout.proofs.Limits.{width16}
use borrow.Author.Rules.{rules}
use Rattle.cabinet_numbers.proofs.entries_valid.Given as goal

abbrev pub invariant-loop-j : goal.invariant-loop-j
invariant-loop-j l = AllSoFar 16 (λ k. leb (at l.v k) (cond (ltb k l.cards) limits16.greatest_state 0)) l.ok l.j
