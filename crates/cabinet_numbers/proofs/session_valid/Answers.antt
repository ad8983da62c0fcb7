use Rattle.cabinet_layout.specs.Shape.{limits16}
use Rattle.cabinet_numbers.proofs.session_valid.Goals as goal

pub returns : goal.returns
unfolding limits16
returns c = rw c.is_rolling-rolling.ensures
