-- `base_bits::with` is the set with the card put in. Assumes nothing.
use borrow.Author.Rules.{rules}
use mathlib.Core.Path.{◌∙◌, ap}
use Rattle.base_bits.specs.Sets.{either, one}
use Rattle.base_bits.specs.Member.{member}
use Rattle.base_bits.proofs.Sets.{either_truncate}
use Rattle.base_bits.proofs.Members.{member_above}
use Rattle.base_bits.proofs.with.Goals as goal

pub returns : goal.returns
returns c =
    c.union.ensures
    ∙ ap (either (member c.args.set)) c.single.ensures
    ∙ either_truncate 16 (member c.args.set) (one c.args.card) (λ i l. member_above 16 c.args.set i (search rules) l)
