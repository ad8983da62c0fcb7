use mathlib.Core.Path.{sym, ◌∙◌, ap}
use mathlib.Core.Bool.{not, ◌&&◌}
use borrow.Author.Rules.{rules}
use Rattle.theory_history.specs.Change.{touches}
use Rattle.theory_protocol.specs.Model.{OpenChange}
use Rattle.cabinet_slot_replies.proofs.Found.{unknown, found, made}
use Rattle.cabinet_slot_replies.proofs.vote_verdict.Goals as goal

pub returns-in_err-refuse_if-4 : goal.returns-in_err-refuse_if-4
returns-in_err-refuse_if-4 c = let a = c.args in rw (sym (unknown a.head a.all a.k c.slot_of-p.ensures)) (search rules)

pub returns-in_err-refuse_if-5 : goal.returns-in_err-refuse_if-5
returns-in_err-refuse_if-5 c =
    let a = c.args in
    rw (sym (unknown a.head a.all a.k c.slot_of-p.ensures), sym (made a.head a.all a.k c.slot_of-p.ensures c.slot_at-o.result c.slot_at-o.ensures c.is_decided-voted_on.ensures)) (search rules)

pub returns : goal.returns
returns c =
    let a = c.args in
    let due = c.is_awaited-due.ensures ∙ ap (λ (x : OpenChange). touches x.change a.card && not (x.yes a.card)) (found a.head a.all a.k c.slot_of-p.ensures c.slot_at-o.result c.slot_at-o.ensures) in
    rw (sym (unknown a.head a.all a.k c.slot_of-p.ensures), sym (made a.head a.all a.k c.slot_of-p.ensures c.slot_at-o.result c.slot_at-o.ensures c.is_decided-voted_on.ensures), sym due) (search rules)
