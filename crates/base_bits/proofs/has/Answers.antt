-- `base_bits::has` is the membership of a card. Assumes nothing.
use mathlib.Core.Path.{sym}
use borrow.Author.Rules.{rules}
use Rattle.base_bits.proofs.Members.{member_above}
use Rattle.base_bits.proofs.has.Goals as goal

pub returns-else-card-lt-WIDTH : goal.returns-else-card-lt-WIDTH
returns-else-card-lt-WIDTH c = sym (member_above 16 c.args.set c.args.card (search rules) (search rules))
