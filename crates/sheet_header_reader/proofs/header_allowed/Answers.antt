-- `sheet_header_reader::header_allowed` judges a header. Assumes nothing.
use borrow.Author.Rules.{rules}
use Rattle.sheet_lines.specs.Lines.{header_allowed}
use Rattle.sheet_header_reader.proofs.header_allowed.Goals as goal

pub returns-then-h-f : goal.returns-then-h-f
unfolding header_allowed
returns-then-h-f c = search rules

pub returns-else-h-f : goal.returns-else-h-f
unfolding header_allowed
returns-else-h-f c = search rules
