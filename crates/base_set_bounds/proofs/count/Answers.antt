-- `base_set_bounds::count` counts the members. Assumes nothing.
use borrow.Author.Rules.{rules}
use Rattle.base_bits.proofs.Members.{ones_count}
use Rattle.base_set_bounds.proofs.count.Goals as goal

pub returns : goal.returns
returns c = ones_count 16 c.args.set (search rules)
