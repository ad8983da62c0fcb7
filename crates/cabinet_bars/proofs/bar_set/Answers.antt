use Rattle.cabinet_bars.proofs.Bars.{bars_set, bars_none}
use borrow.Author.Rules.{rules}
use Rattle.cabinet_bars.proofs.bar_set.Goals as goal

pub returns-then-o-ne0 : goal.returns-then-o-ne0
returns-then-o-ne0 c = bars_set c.args.o c.args.reads c.args.writes c.union-touched.result c.difference-left.result c.intersection-read.result c.union-asked.result c.intersection-barred.result c.union-touched.ensures c.difference-left.ensures c.intersection-read.ensures c.union-asked.ensures c.intersection-barred.ensures c.if-o-ne0.true

pub returns-else-o-ne0 : goal.returns-else-o-ne0
returns-else-o-ne0 c = bars_none c.args.o c.args.reads c.args.writes c.if-o-ne0.false
