use mathlib.Core.Path.{refl}
use Rattle.cabinet_layout.specs.Shape.{limits16}
use Rattle.cabinet_numbers.proofs.numbers_valid.Goals as goal

pub returns : goal.returns
unfolding limits16
returns c = refl
