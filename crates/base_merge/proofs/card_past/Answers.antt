-- `base_merge::card_past` brings a card past a number. Assumes nothing.
use Rattle.base_merge.proofs.Head.{past_head, past_other, past_end}
use borrow.Author.Rules.{rules}
use Rattle.base_merge.proofs.card_past.Goals as goal

pub returns-then-head-k : goal.returns-then-head-k
returns-then-head-k c = let a : _ = c.args in past_head a.passed a.end a.head a.k c.if-passed-end.true c.if-head-k.true

pub returns-else-head-k : goal.returns-else-head-k
returns-else-head-k c = let a : _ = c.args in past_other a.passed a.end a.head a.k c.if-passed-end.true c.if-head-k.false

pub returns-else-passed-end : goal.returns-else-passed-end
returns-else-passed-end c = let a : _ = c.args in past_end a.passed a.end a.head a.k c.if-passed-end.false
