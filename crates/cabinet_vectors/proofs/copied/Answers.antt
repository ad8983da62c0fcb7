use Rattle.cabinet_layout.proofs.Held.{list_known}
use mathlib.Core.Path.{refl}
use borrow.Author.Rules.{rules}
use Rattle.cabinet_vectors.proofs.copied.Goals as goal

pub returns : goal.returns
returns c = (refl, list_known c.args.v (search rules))
