-- `sheet_line_writer::entry_of` gives the entry that a sheet has for what is held. Assumes nothing.
use Rattle.sheet_lines.proofs.Entries.{shown_none, shown_long, shown_zero, shown_need}
use Rattle.sheet_line_writer.proofs.entry_of.Goals as goal

pub returns-then-d-eq0 : goal.returns-then-d-eq0
returns-then-d-eq0 c = let a = c.args in shown_none a.short a.none a.d c.if-d-eq0.true

pub returns-then-not-short : goal.returns-then-not-short
returns-then-not-short c = let a = c.args in shown_long a.short a.none a.d c.if-d-eq0.false c.if-not-short.true

pub returns-then-d-none : goal.returns-then-d-none
returns-then-d-none c = let a = c.args in shown_zero a.short a.none a.d c.if-not-short.false c.if-d-none.true

pub returns-else-d-none : goal.returns-else-d-none
returns-else-d-none c = let a = c.args in shown_need a.short a.none a.d c.if-d-eq0.false c.if-not-short.false c.if-d-none.false
