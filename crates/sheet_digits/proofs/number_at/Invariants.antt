-- `sheet_digits::number_at` gives the number that digits stand for. The invariant: going on from the number so far gives the whole number. Assumes nothing.
use Prim.Native.Nat.{◌-◌, ◌≤◌}
use mathlib.Core.Path.{◌≡◌}
use lib.ListN.{take, drop}
use Rattle.sheet_digits.specs.Digits.{number}
use Rattle.sheet_digits.proofs.number_at.Given as goal

abbrev pub invariant-loop-i : goal.invariant-loop-i
invariant-loop-i l = (l.i ≤ l.width) × (l.n ≡ number (take l.i (drop l.at l.s)))
