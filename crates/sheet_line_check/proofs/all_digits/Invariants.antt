-- `sheet_line_check::all_digits` tells whether a part of the input is digits. The invariant: the digits left to see decide. Assumes nothing.
use Rattle.std.proofs.Common.{◌≡◌, ◌-◌, ◌≤◌, take, drop, sym, ap, ◌∙◌, zero-le, arith, rules}
use Rattle.base_laws.proofs.Seq.{left, left_none, left_all}
use Rattle.sheet_digits.specs.Digits.{all_digits}
use Rattle.sheet_line_check.proofs.Steps.{all_step, all_stop}
use borrow.Author.Tests.{not-true, not-false}
use Rattle.sheet_line_check.proofs.all_digits.Given as goal

abbrev pub invariant-loop-i : goal.invariant-loop-i
invariant-loop-i l = (l.i ≤ l.n) × (all_digits (left l.s l.at l.n l.i) ≡ all_digits (take l.n (drop l.at l.s)))
