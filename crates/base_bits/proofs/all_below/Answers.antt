-- `base_bits::all_below` is every card below a bound. Assumes nothing.
use lib.Pow.{pow_pos}
use borrow.Author.Rules.{rules}
use Rattle.base_bits.proofs.Members.{shifted_one, below_inside, below_outside}
use Rattle.base_bits.proofs.all_below.Goals as goal

pub overflow_sub-result : goal.overflow_sub-result
overflow_sub-result c = rw (shifted_one 16 c.args.n (search rules)) (pow_pos c.args.n)

pub returns-then-n-lt-WIDTH : goal.returns-then-n-lt-WIDTH
returns-then-n-lt-WIDTH c = below_inside 16 c.args.n (search rules)

pub returns-else-n-lt-WIDTH : goal.returns-else-n-lt-WIDTH
returns-else-n-lt-WIDTH c = below_outside 16 c.args.n (search rules)
