-- `base_set_bounds::within` is whether every member is below a bound. Assumes nothing.
use mathlib.Core.Path.{sym}
use borrow.Author.Rules.{rules}
use Rattle.base_bits.specs.Member.{member}
use Rattle.base_bits.proofs.Sets.{subset_below}
use Rattle.base_bits.proofs.Members.{shift_within}
use Rattle.base_set_bounds.proofs.within.Goals as goal

pub returns-then-n-lt-CARDS_U32 : goal.returns-then-n-lt-CARDS_U32
returns-then-n-lt-CARDS_U32 c = shift_within 16 c.args.n c.args.set (search rules)

pub returns-else-n-lt-CARDS_U32 : goal.returns-else-n-lt-CARDS_U32
returns-else-n-lt-CARDS_U32 c = sym (subset_below 16 c.args.n (member c.args.set) (search rules))
