-- `base_bits::intersection` is the intersection of its members. Assumes nothing.
use Rattle.base_bits.proofs.Sets.{same_cards}
use Rattle.base_bits.proofs.Members.{member_and}
use Rattle.base_bits.proofs.intersection.Goals as goal

pub returns : goal.returns
returns c = same_cards (member_and c.args.a c.args.b)
