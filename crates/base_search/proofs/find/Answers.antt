-- `base_search::find` finds where a byte first stands. Assumes nothing.
use Rattle.base_search.proofs.Texts.{missed_none, missed_more, missed_found, missed_all}
use mathlib.Core.Path.{◌≡◌, ◌∙◌}
use native.Mathlib.Omega.{arith}
use borrow.Author.Rules.{rules}
use Rattle.base_search.proofs.find.Goals as goal

pub loop-i-init : goal.loop-i-init
loop-i-init c = (missed_none _ _ _, omega arith, omega arith)

pub returns-then-s-i : goal.returns-then-s-i
returns-then-s-i c = missed_found c.loop-i.invariant.0 (search rules) c.if-s-i.true

pub loop-i-preserved : goal.loop-i-preserved
loop-i-preserved c = (missed_more c.loop-i.invariant.0 (search rules) c.if-s-i.false, omega arith, omega arith)

pub returns : goal.returns
returns c =
    let e : c.max.result ≡ c.loop-i.i = omega arith in
    e ∙ missed_all c.loop-i.invariant.0 (search rules)
