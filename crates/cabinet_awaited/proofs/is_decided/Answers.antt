-- `cabinet_awaited::is_decided`: no vote is awaited. Assumes nothing.
use Rattle.cabinet_awaited.proofs.Votes.{none_awaited}
use Rattle.base_bits.specs.Member.{member}
use Rattle.base_bits.specs.Sets.{either}
use Rattle.cabinet_layout.specs.Shape.{limits16}
use Rattle.cabinet_awaited.proofs.is_decided.Goals as goal

pub returns : goal.returns
returns c = let o = c.args.o in none_awaited limits16.width (either (member o.reads) (member o.writes)) (member o.yes) c.awaited.ensures
