use mathlib.Core.Path.{◌≡◌, sym, ◌∙◌, ap}
use mathlib.Core.Bool.{not}
use borrow.Author.Rules.{rules}
use Rattle.base_bits.specs.Member.{member}
use Rattle.theory_protocol.specs.Model.{strays}
use Rattle.cabinet_layout.specs.Shape.{limits16, head_model}
use Rattle.cabinet_layout.proofs.Cards.{outside_strays}
use Rattle.cabinet_replies.proofs.lose_verdict.Goals as goal

pub returns : goal.returns
returns c =
    let a = c.args in
    let g : not c.within-inside.result ≡ strays limits16 (head_model a.head) (member a.cards) = ap not c.within-inside.ensures ∙ outside_strays a.head (member a.cards) in
    rw (sym g) (search rules)
