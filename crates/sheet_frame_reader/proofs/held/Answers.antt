-- `sheet_frame_reader::held` gives what is held for an entry. Assumes nothing.
use Rattle.sheet_lines.proofs.Entries.{held_none, held_long, held_zero, held_need}
use Rattle.sheet_frame_reader.proofs.held.Goals as goal

pub returns-then-e-none : goal.returns-then-e-none
returns-then-e-none c = let a = c.args in held_none a.short a.none a.e c.if-e-none.true

pub returns-then-not-short : goal.returns-then-not-short
returns-then-not-short c = let a = c.args in held_long a.short a.none a.e c.if-e-none.false c.if-not-short.true

pub returns-then-e-eq0 : goal.returns-then-e-eq0
returns-then-e-eq0 c = let a = c.args in held_zero a.short a.none a.e c.if-e-none.false c.if-not-short.false c.if-e-eq0.true

pub returns-else-e-eq0 : goal.returns-else-e-eq0
returns-else-e-eq0 c = let a = c.args in held_need a.short a.none a.e c.if-e-none.false c.if-not-short.false c.if-e-eq0.false
