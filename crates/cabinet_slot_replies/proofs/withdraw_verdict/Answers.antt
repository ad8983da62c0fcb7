use mathlib.Core.Path.{sym}
use borrow.Author.Rules.{rules}
use Rattle.cabinet_slot_replies.proofs.Found.{unknown, made}
use Rattle.cabinet_slot_replies.proofs.withdraw_verdict.Goals as goal

pub returns-in_err-refuse_if-3 : goal.returns-in_err-refuse_if-3
returns-in_err-refuse_if-3 c = let a = c.args in rw (sym (unknown a.head a.all a.k c.slot_of-p.ensures)) (search rules)

pub returns : goal.returns
returns c =
    let a = c.args in
    rw (sym (unknown a.head a.all a.k c.slot_of-p.ensures), sym (made a.head a.all a.k c.slot_of-p.ensures c.slot_at-o.result c.slot_at-o.ensures c.is_decided.ensures)) (search rules)
