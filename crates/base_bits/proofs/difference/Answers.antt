-- `base_bits::difference` is the difference of its members. Assumes nothing.
use borrow.Author.Rules.{rules}
use Rattle.base_bits.proofs.Sets.{same_cards}
use Rattle.base_bits.proofs.Members.{member_except}
use Rattle.base_bits.proofs.difference.Goals as goal

pub returns : goal.returns
returns c = same_cards (member_except 16 c.args.a c.args.b (search rules) (search rules))
