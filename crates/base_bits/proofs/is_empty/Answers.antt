-- `base_bits::is_empty` is whether there is no member. Assumes nothing.
use borrow.Author.Rules.{rules}
use Rattle.base_bits.proofs.Members.{zero_empty}
use Rattle.base_bits.proofs.is_empty.Goals as goal

pub returns : goal.returns
returns c = zero_empty 16 c.args.set (search rules)
