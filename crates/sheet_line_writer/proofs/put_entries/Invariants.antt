-- `sheet_line_writer::put_entries` writes the entries of a frame. The invariant: writing those left gives the whole. Assumes nothing.
use Prim.Native.Nat.{◌+◌, ◌*◌, ◌-◌, ◌≤◌}
use mathlib.Core.Path.{◌≡◌}
use mathlib.Core.List.{map}
use lib.ListN.{length, drop, replicate}
use lib.Seq.{sets}
use Rattle.sheet_digits.specs.Digits.{written}
use Rattle.sheet_lines.specs.Format.{shown_by}
use Rattle.sheet_line_writer.proofs.put_entries.Given as goal

abbrev pub invariant-loop-j : goal.invariant-loop-j
invariant-loop-j l = (l.j ≤ l.n) × (length l.b ≡ length l.initial.b) × (sets l.b (l.at + l.j * l.width) (written (replicate (l.n - l.j) l.width) (map (shown_by l.short l.none) (drop l.j l.entries))) ≡ sets l.initial.b l.at (written (replicate l.n l.width) (map (shown_by l.short l.none) l.entries)))
