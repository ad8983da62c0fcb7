-- `base_bits::union` is the union of its members. Assumes nothing.
use Rattle.base_bits.proofs.Sets.{same_cards}
use Rattle.base_bits.proofs.Members.{member_or}
use Rattle.base_bits.proofs.union.Goals as goal

pub returns : goal.returns
returns c = same_cards (member_or c.args.a c.args.b)
