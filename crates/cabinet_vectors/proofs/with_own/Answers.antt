use Rattle.cabinet_layout.proofs.Held.{own_set}
use borrow.Author.Rules.{rules}
use Rattle.cabinet_vectors.proofs.with_own.Goals as goal

pub returns : goal.returns
returns c = own_set c.args.v c.args.c c.args.reached (search rules) c.requires.0
