use mathlib.Core.Path.{refl}
use mathlib.Core.List.{[], ◌∷◌}
use borrow.Author.Rules.{rules}
use Prim.Native.Nat.{suc}
use Rattle.base_bits.specs.Member.{member}
use Rattle.theory_protocol.specs.Model.{free_at}
use Rattle.theory_protocol.specs.Edit.{place, latest}
use Rattle.theory_protocol.specs.Plan.{opened}
use Rattle.theory_protocol.specs.Valid.{valid}
use Rattle.theory_protocol.specs.Calls.{open_checks, opened_change}
use Rattle.cabinet_layout.specs.Answers.{open_reply_of}
use Rattle.cabinet_layout.specs.Applied.{CoreCarried}
use Rattle.cabinet_layout.specs.Shape.{limits16}
use Rattle.cabinet_plans.specs.Plans.{alone, open_on}
use Rattle.cabinet.specs.View.{view}
use Rattle.cabinet.proofs.Call.{put_back}
use Rattle.cabinet.proofs.Cabinet.open.Goals as goal

pub returns : goal.returns
returns c =
    let a : _ = c.args in
    let s : _ = a.self in
    let t : _ = c.on_core.ensures in
    let n : _ = suc s.core.head.latest in
    let k : CoreCarried s.core (open_on (valid limits16 (view s)) s.core (member a.reads) (member a.writes)) (open_reply_of t.0.reply) t.0.core = search rules in
    put_back s (open_checks limits16 (alone s.core) (member a.reads) (member a.writes)) (opened n) (place (free_at limits16 (alone s.core)) (opened_change n (member a.reads) (member a.writes)) ∷ latest n ∷ []) open_reply_of t.0 _ _ refl refl k t.2 t.3
