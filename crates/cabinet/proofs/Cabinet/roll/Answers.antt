use borrow.Author.Rules.{rules}
use mathlib.Core.Bool.{Bool}
use Rattle.theory_protocol.specs.Model.{with_card}
use Rattle.cabinet_rolling.proofs.Rolled.{roll_edits}
use Rattle.theory_protocol.specs.Plan.{done}
use Rattle.theory_protocol.specs.Valid.{valid}
use Rattle.theory_protocol.specs.Calls.{roll_checks, all_rolled}
use Rattle.cabinet_layout.specs.Answers.{reply_of}
use Rattle.cabinet_layout.specs.Applied.{CoreCarried}
use Rattle.cabinet_layout.specs.Shape.{limits16}
use Rattle.cabinet_plans.specs.Plans.{alone, roll_on}
use Rattle.cabinet.specs.View.{view}
use Rattle.cabinet.proofs.Call.{put_back, roll_still}
use Rattle.cabinet.proofs.Cabinet.roll.Goals as goal

pub returns : goal.returns
returns c =
    let a : _ = c.args in
    let s : _ = a.self in
    let t : _ = c.on_core.ensures in
    let u : Bool = all_rolled limits16 (alone s.core) (with_card (alone s.core).rolled a.card) in
    let k : CoreCarried s.core (roll_on (valid limits16 (view s)) s.core a.card) (reply_of t.0.reply) t.0.core = search rules in
    put_back s (roll_checks limits16 (alone s.core) a.card) done (roll_edits a.card u) reply_of t.0 _ _ (roll_still s a.card u).0 (roll_still s a.card u).1 k t.2 t.3
