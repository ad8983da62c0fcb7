use Rattle.cabinet_layout.proofs.Limits.{vectors_none}
use Rattle.cabinet_layout.proofs.no_vectors.Goals as goal

pub returns : goal.returns
returns c = vectors_none
