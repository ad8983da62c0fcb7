-- `base_decimal::width` counts the digits of a number: those counted, and those of what is left, are one more than all. Assumes nothing.
use borrow.Author.Rules.{rules}
use mathlib.Core.Path.{refl}
use native.Mathlib.Omega.{arith}
use Rattle.base_decimal.proofs.Digits.{length_one, length_more, decimal_few}
use Rattle.base_decimal.proofs.width.Goals as goal

pub loop-left-init : goal.loop-left-init
loop-left-init c = refl

pub overflow_add-count : goal.overflow_add-count
overflow_add-count c = omega (arith, decimal_few c.args.n)

pub loop-left-preserved : goal.loop-left-preserved
loop-left-preserved c = omega (arith, length_more c.loop-left.left (search rules))

pub returns : goal.returns
returns c = omega (arith, length_one c.loop-left.left (search rules))
