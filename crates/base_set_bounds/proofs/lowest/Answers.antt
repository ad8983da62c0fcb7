-- `base_set_bounds::lowest` is the lowest member. Assumes nothing.
use Rattle.base_bits.proofs.Members.{trailing_first}
use Rattle.base_set_bounds.proofs.lowest.Goals as goal

pub returns : goal.returns
returns c = trailing_first 16 c.args.set
