use borrow.Author.Tests.{lt-ltb, le-ltb}
use Rattle.cabinet_valid_frames.proofs.after.Goals as goal

pub returns-then-slot-lt-LAST_PLACE : goal.returns-then-slot-lt-LAST_PLACE
returns-then-slot-lt-LAST_PLACE c = rw (lt-ltb c.args.slot 47 c.if-slot-lt-LAST_PLACE.true)

pub returns-else-slot-lt-LAST_PLACE : goal.returns-else-slot-lt-LAST_PLACE
returns-else-slot-lt-LAST_PLACE c = rw (le-ltb c.args.slot 47 c.if-slot-lt-LAST_PLACE.false)
