use Rattle.cabinet_changes.proofs.after_vote.Goals as goal

pub returns-then-agrees : goal.returns-then-agrees
returns-then-agrees c = rw c.if-agrees.true c.with_yes.ensures

pub returns-else-agrees : goal.returns-else-agrees
returns-else-agrees c = rw c.if-agrees.false c.free_slot.ensures
