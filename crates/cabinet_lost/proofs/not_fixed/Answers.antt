use mathlib.Core.Path.{refl}
use Rattle.cabinet_layout.proofs.Held.{zero_listed}
use Rattle.cabinet_lost.proofs.not_fixed.Goals as goal

pub returns : goal.returns
returns c = (zero_listed, refl)
