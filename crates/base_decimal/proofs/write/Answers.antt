-- `base_decimal::write` writes the digits of a number where they have room. Assumes nothing.
use borrow.Author.Rules.{rules}
use native.Mathlib.Omega.{arith}
use Rattle.base_decimal.proofs.Digits.{wrote_nothing, wrote_all}
use Rattle.base_decimal.proofs.write.Goals as goal

pub returns-then-b-at : goal.returns-then-b-at
returns-then-b-at c = wrote_nothing _ _ _ (omega (arith, c.width-count.ensures))

pub returns-then-b-at-2 : goal.returns-then-b-at-2
returns-then-b-at-2 c = wrote_nothing _ _ _ (omega (arith, c.width-count.ensures))

pub returns : goal.returns
returns c = wrote_all _ _ _ _ _ c.width-count.ensures (search rules) c.fill.ensures
