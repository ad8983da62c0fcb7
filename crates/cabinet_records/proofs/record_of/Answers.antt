use mathlib.Core.Path.{refl}
use borrow.Author.Rules.{rules}
use Rattle.cabinet_records.proofs.record_of.Goals as goal

pub returns : goal.returns
returns c = refl
