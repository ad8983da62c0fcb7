use Prim.Native.Nat.{suc, ◌+◌, ◌%◌}
use mathlib.Core.Path.{◌≡◌}
use mathlib.Core.Bool.{◌&&◌, ◌||◌}
use lib.Dec.{eqb}
use Rattle.base_laws.proofs.Fill.{AllSoFar}
use Rattle.theory_protocol.specs.Model.{up}
use Rattle.theory_protocol.specs.Valid.{frame_valid, rises_valid}
use Rattle.cabinet_layout.specs.Shape.{limits16, ring, numbers_of, part_of}
use Rattle.cabinet_valid_frames.proofs.frames_valid.Given as goal

abbrev pub invariant-loop-k : goal.invariant-loop-k
invariant-loop-k l = AllSoFar l.n (λ k. frame_valid limits16 (part_of l.cards up (numbers_of l.base 0 0 l.reached) (ring l.entries l.changes) 0) l.c (suc (l.base + k)) && (eqb k 0 || rises_valid limits16 (ring l.entries l.changes) l.c (l.base + k))) l.ok l.k × (l.slot ≡ (l.base + l.k) % 48)
