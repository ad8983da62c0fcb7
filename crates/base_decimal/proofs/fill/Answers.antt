-- `base_decimal::fill` stores the lowest digits of a number. Assumes nothing.
use borrow.Author.Rules.{rules}
use Rattle.base_decimal.proofs.Digits.{stored_none, stored_more, stored_all}
use Rattle.base_decimal.proofs.fill.Goals as goal

pub loop-i-init : goal.loop-i-init
loop-i-init c = stored_none _ _ _ _

pub loop-i-preserved : goal.loop-i-preserved
loop-i-preserved c = stored_more c.loop-i.invariant (search rules)

pub returns : goal.returns
returns c = stored_all c.loop-i.invariant (search rules)
