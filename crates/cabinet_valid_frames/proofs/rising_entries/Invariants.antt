use Prim.Native.Nat.{◌+◌, ◌-◌}
use mathlib.Core.Path.{refl}
use lib.Dec.{leb}
use Rattle.base_laws.proofs.Fill.{AllSoFar, all_none, all_more, all_done}
use Rattle.cabinet_layout.specs.Shape.{at}
use Rattle.cabinet_layout.proofs.Limits.{width16}
use borrow.Author.Rules.{rules}
use Rattle.cabinet_valid_frames.proofs.rising_entries.Given as goal

abbrev pub invariant-loop-j : goal.invariant-loop-j
invariant-loop-j l = AllSoFar 16 (λ k. leb (at l.entries (l.from + k)) (at l.entries (l.next + k))) l.ok l.j
