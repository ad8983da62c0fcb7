-- `sheet_digits::number_at` gives the number that digits stand for. The invariant: going on from the number so far gives the whole number. Assumes nothing.
use native.Mathlib.Omega.{arith}
use Rattle.sheet_digits.proofs.Steps.{number_step, number_room}
use Rattle.sheet_digits.proofs.number_at.Goals as goal

pub overflow_mul-n : goal.overflow_mul-n
overflow_mul-n c =
    let a = c.args in
    omega (arith, number_room a.s.now a.at a.width c.loop-i.i (omega arith) c.requires.0 c.requires.1)

pub overflow_add-n : goal.overflow_add-n
overflow_add-n c =
    let a = c.args in
    omega (arith, number_room a.s.now a.at a.width c.loop-i.i (omega arith) c.requires.0 c.requires.1, c.value_of.ensures.small)

pub loop-i-preserved : goal.loop-i-preserved
loop-i-preserved c =
    let a = c.args in
    (omega arith, number_step a.s.now a.at a.width c.loop-i.i (omega arith) c.requires.0 c.loop-i.invariant.1 c.value_of.ensures.value)
