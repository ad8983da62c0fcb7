-- `sheet_line_check::sums_over` gives the two running sums. The invariant: going on from the sums so far gives the sums of the whole. Assumes nothing.
use Rattle.std.proofs.Common.{◌≡◌, ◌-◌, ◌≤◌, take, drop, sym, ap, ◌∙◌, zero-le, arith, rules}
use Rattle.base_laws.proofs.Seq.{left, left_none, left_all}
use Rattle.sheet_digits.specs.Line.{summed}
use Rattle.sheet_line_check.proofs.Steps.{sums_step}
use Rattle.sheet_line_check.proofs.sums_over.Given as goal

abbrev pub invariant-loop-i : goal.invariant-loop-i
invariant-loop-i l = (l.i ≤ l.n) × (summed (record { first = l.first; second = l.second }) (left l.s l.at l.n l.i) ≡ summed (record { first = l.initial.first; second = l.initial.second }) (take l.n (drop l.at l.s)))
