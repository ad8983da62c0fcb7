-- `base_lines::put_numbers` writes numbers, each after a space. Assumes nothing.
use Prim.Native.Nat.{◌≤◌}
use lib.ListN.{length, take}
use Rattle.base_text.specs.Put.{Put}
use Rattle.base_lines.specs.Lines.{spaced}
use Rattle.base_lines.proofs.put_numbers.Given as goal

abbrev pub invariant-loop-n : goal.invariant-loop-n
invariant-loop-n l = (Put l.initial.b l.initial.at (spaced (take l.n-index l.numbers)) l.at l.b) × (l.n-index ≤ length l.numbers)
