use Rattle.cabinet_layout.proofs.Held.{set_put}
use borrow.Author.Rules.{rules}
use Rattle.cabinet_rollback.proofs.rolled_with.Goals as goal

pub returns : goal.returns
returns c = set_put c.args.rolled c.with.result c.args.card (search rules) c.with.ensures
