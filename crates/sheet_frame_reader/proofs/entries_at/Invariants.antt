-- `sheet_frame_reader::entries_at` reads the entries of a frame. The invariant: storing those left to read gives the whole. Assumes nothing.
use Prim.Native.Nat.{◌+◌, ◌*◌, ◌-◌, ◌≤◌}
use mathlib.Core.Path.{◌≡◌}
use lib.ListN.{length, drop}
use lib.Seq.{sets}
use Rattle.sheet_lines.specs.Format.{held_by}
use Rattle.sheet_lines.specs.Lines.{entries_by, padded}
use Rattle.sheet_frame_reader.proofs.entries_at.Given as goal

abbrev pub invariant-loop-j : goal.invariant-loop-j
invariant-loop-j l = (l.j ≤ l.n) × (length l.entries ≡ 16) × (sets l.entries l.j (entries_by l.width (held_by l.short l.none) (l.n - l.j) (drop (l.at + l.j * l.width) l.s)) ≡ padded (entries_by l.width (held_by l.short l.none) l.n (drop l.at l.s)))
