-- `sheet_readout::read_readout` reads a joined read-out. Assumes nothing.
use mathlib.Core.Path.{◌∙◌}
use borrow.Author.Rules.{rules}
use Rattle.sheet_readout.proofs.Jointly.{long_read, lines_accepted, lines_refused}
use Rattle.sheet_readout.proofs.Laid.{reading_laid}
use Rattle.sheet_readout.proofs.read_readout.Goals as goal

pub returns-then-s-gt-LONGEST : goal.returns-then-s-gt-LONGEST
returns-then-s-gt-LONGEST c = c.nothing_read.ensures ∙ long_read c.args.s.now c.if-s-gt-LONGEST.true

pub judged_jointly-requires : goal.judged_jointly-requires
judged_jointly-requires c = reading_laid c.args.s.now c.read_sheets-read.ensures c.in-Ok.is

pub returns-in-Ok : goal.returns-in-Ok
returns-in-Ok c = c.judged_jointly.ensures ∙ lines_accepted c.args.s.now c.if-s-gt-LONGEST.false c.read_sheets-read.ensures c.in-Ok.is

pub returns-in-Err : goal.returns-in-Err
returns-in-Err c = c.nothing_read-in-Err.ensures ∙ lines_refused c.args.s.now c.if-s-gt-LONGEST.false c.read_sheets-read.ensures c.in-Err.is
