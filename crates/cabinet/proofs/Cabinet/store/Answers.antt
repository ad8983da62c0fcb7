use mathlib.Core.Path.{refl}
use mathlib.Core.List.{[], ◌∷◌}
use borrow.Author.Rules.{rules}
use Rattle.theory_protocol.specs.Edit.{keep}
use Rattle.theory_protocol.specs.Plan.{done}
use Rattle.theory_protocol.specs.Valid.{valid}
use Rattle.theory_protocol.specs.Calls.{store_checks}
use Rattle.cabinet_layout.specs.Answers.{reply_of}
use Rattle.cabinet_layout.specs.Applied.{CoreCarried}
use Rattle.cabinet_layout.specs.Shape.{limits16}
use Rattle.cabinet_plans.specs.Plans.{alone, store_on}
use Rattle.cabinet.specs.View.{view}
use Rattle.cabinet.proofs.Call.{put_back}
use Rattle.cabinet.proofs.Cabinet.store.Goals as goal

pub returns : goal.returns
returns c =
    let a : _ = c.args in
    let s : _ = a.self in
    let t : _ = c.on_core.ensures in
    let k : CoreCarried s.core (store_on (valid limits16 (view s)) s.core a.card a.state) (reply_of t.0.reply) t.0.core = search rules in
    put_back s (store_checks limits16 (alone s.core) a.card a.state) done (keep a.card a.state ∷ []) reply_of t.0 _ _ refl refl k t.2 t.3
