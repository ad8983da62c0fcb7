use Rattle.cabinet_valid_slots.proofs.Slots.{slot_free, slot_whole}
use Rattle.cabinet_valid_slots.proofs.slot_valid.Goals as goal

pub returns-then-o-eq0 : goal.returns-then-o-eq0
returns-then-o-eq0 c = let a : _ = c.args in slot_free a.o a.base a.reached a.head c.if-o-eq0.true

pub returns : goal.returns
returns c = let a : _ = c.args in slot_whole a.o a.base a.reached a.head c.union-touched.result _ _ _ c.if-o-eq0.false c.union-touched.ensures c.within-inside.ensures c.writes_fit-fit.ensures c.entries_valid-entries.ensures
