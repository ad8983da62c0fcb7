-- `base_bits::single` is the set of one card. Assumes nothing.
use borrow.Author.Rules.{rules}
use Rattle.base_bits.proofs.Members.{one_inside, one_outside}
use Rattle.base_bits.proofs.single.Goals as goal

pub returns-then-card-lt-WIDTH : goal.returns-then-card-lt-WIDTH
returns-then-card-lt-WIDTH c = one_inside 16 c.args.card (search rules)

pub returns-else-card-lt-WIDTH : goal.returns-else-card-lt-WIDTH
returns-else-card-lt-WIDTH c = one_outside 16 c.args.card (search rules)
