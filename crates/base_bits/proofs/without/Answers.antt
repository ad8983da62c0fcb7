-- `base_bits::without` is the set with the card taken out. Assumes nothing.
use borrow.Author.Rules.{rules}
use mathlib.Core.Path.{◌∙◌, ap}
use Rattle.base_bits.specs.Sets.{except, one}
use Rattle.base_bits.specs.Member.{member}
use Rattle.base_bits.proofs.Sets.{except_truncate}
use Rattle.base_bits.proofs.Members.{member_above}
use Rattle.base_bits.proofs.without.Goals as goal

pub returns : goal.returns
returns c =
    c.difference.ensures
    ∙ ap (except (member c.args.set)) c.single.ensures
    ∙ except_truncate 16 (member c.args.set) (one c.args.card) (λ i l. member_above 16 c.args.set i (search rules) l)
