-- `sheet_digits::put_number` writes a number in digits. The invariant: writing what is left of the number before the place gives the whole. Assumes nothing.
use Prim.Native.Nat.{◌≤◌}
use mathlib.Core.Path.{◌≡◌}
use lib.ListN.{length}
use lib.Seq.{sets}
use Rattle.sheet_digits.specs.Digits.{digits}
use Rattle.sheet_digits.proofs.put_number.Given as goal

abbrev pub invariant-loop-k : goal.invariant-loop-k
invariant-loop-k l = (l.k ≤ l.width) × (length l.b ≡ length l.initial.b) × (sets l.b l.at (digits l.k l.rest) ≡ sets l.initial.b l.at (digits l.width l.n))
