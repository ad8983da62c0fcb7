-- `Cabinet::fix` puts the card records and the lost changes into the lists lent. Assumes nothing.
use Rattle.cabinet.proofs.Lent.{lends}
use Rattle.cabinet.proofs.Cabinet.fix.Goals as goal

pub returns : goal.returns
returns c = lends c.args.self c.args.records.now c.args.list.now _ c.fixed-answer.result c.fixed-answer.ensures c.numbers_of-numbers.result _ c.numbers_of-numbers.ensures c.fill.ensures
