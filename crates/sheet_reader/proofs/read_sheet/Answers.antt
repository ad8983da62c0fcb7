-- `sheet_reader::read_sheet` reads the sheet of a card. Assumes nothing.
use borrow.Author.Rules.{rules}
use Rattle.sheet_reader.proofs.Single.{long_sheet, short_sheet}
use Rattle.sheet_reader.proofs.read_sheet.Goals as goal

pub returns-then-s-gt-LONGEST : goal.returns-then-s-gt-LONGEST
returns-then-s-gt-LONGEST c = long_sheet c.args.card c.args.s.now (search rules) c.nothing_read.ensures

pub returns : goal.returns
returns c = short_sheet c.args.card c.args.s.now (search rules) c.read_sheets.ensures
