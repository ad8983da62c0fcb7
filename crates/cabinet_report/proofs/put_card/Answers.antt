-- `cabinet_report::put_card` writes a card's line. Assumes nothing.
use Rattle.cabinet_report.proofs.Pushes.{row_length}
use borrow.Author.Rules.{rules}
use Rattle.cabinet_report.proofs.put_card.Goals as goal

pub returns : goal.returns
returns c = let a = c.args in record { so = c.put_row.ensures; room = row_length a.card a.stored a.line (search rules) (search rules) (search rules) }
