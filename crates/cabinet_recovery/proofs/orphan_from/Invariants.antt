use Prim.Native.Nat.{◌+◌, ◌-◌}
use mathlib.Core.Path.{◌∙◌}
use lib.Dec.{ltb}
use Rattle.base_laws.proofs.Fill.{AnySoFar, any_none, any_more, any_done}
use Rattle.cabinet_layout.specs.Shape.{limits16, at}
use Rattle.cabinet_layout.proofs.Limits.{width16}
use Rattle.cabinet_recovery.proofs.Climb.{orphan_held}
use borrow.Author.Rules.{rules}
use Rattle.cabinet_recovery.proofs.orphan_from.Given as goal

abbrev pub invariant-loop-j : goal.invariant-loop-j
invariant-loop-j l = AnySoFar 16 (λ k. ltb (at l.stored k) (at l.entries (l.from + k))) l.hit l.j
