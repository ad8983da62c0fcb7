use Rattle.cabinet_layout.specs.Shape.{tracked_of}
use Rattle.theory_history.specs.Vector.{share}
use Rattle.base_laws.specs.Below.{greatest}
use Rattle.cabinet_layout.specs.Shape.{list_of, open_of}
use Prim.Native.Nat.{◌≤◌}
use mathlib.Core.Path.{◌≡◌}
use Rattle.cabinet_vectors.proofs.decision.Given as goal

abbrev pub invariant-loop-c : goal.invariant-loop-c
invariant-loop-c l = (l.c ≤ 16) × (l.out ≡ list_of (λ j. greatest l.c (λ i. share (tracked_of l.reached l.last l.pending) (open_of l.o).change i j)))
