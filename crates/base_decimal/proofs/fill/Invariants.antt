-- `base_decimal::fill` stores the lowest digits of a number. Assumes nothing.
use Rattle.base_decimal.proofs.Digits.{Stored}
use Rattle.base_decimal.proofs.fill.Given as goal

abbrev pub invariant-loop-i : goal.invariant-loop-i
invariant-loop-i l = Stored l.initial.b l.at l.count l.n l.b l.left l.i
