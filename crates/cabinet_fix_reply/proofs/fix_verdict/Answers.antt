use borrow.Author.Rules.{rules}
use Rattle.cabinet_layout.proofs.Limits.{greatest_number32}
use Rattle.cabinet_fix_reply.proofs.fix_verdict.Goals as goal

pub returns-in_err-refuse_if-3 : goal.returns-in_err-refuse_if-3
returns-in_err-refuse_if-3 c = rw greatest_number32 (search rules)

pub returns : goal.returns
returns c = rw greatest_number32 (search rules)
