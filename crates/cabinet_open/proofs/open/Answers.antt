use Rattle.std.specs.Prelude.{Ok, Err}
use Prim.Native.Nat.{suc, ◌<◌}
use native.Mathlib.Omega.{arith}
use mathlib.Core.Path.{◌≡◌, refl, sym, ◌∙◌, ap}
use mathlib.Core.Bool.{not}
use mathlib.Core.List.{[], ◌∷◌}
use borrow.Author.Rules.{rules}
use Rattle.base_bits.specs.Member.{member}
use Rattle.theory_history.specs.Change.{CardSet}
use Rattle.theory_protocol.specs.Model.{free_at}
use Rattle.theory_protocol.specs.Edit.{place, latest}
use Rattle.theory_protocol.specs.Plan.{opened}
use Rattle.theory_protocol.specs.Calls.{open_checks, opened_change}
use Rattle.cabinet_layout.specs.Answers.{open_reply_of, after28}
use Rattle.cabinet_layout.specs.Shape.{limits16}
use Rattle.cabinet_plans.specs.Plans.{alone}
use Rattle.cabinet_plans.proofs.Call.{core_not}
use Rattle.cabinet_open.proofs.Opened.{opens}
use Rattle.cabinet_open.proofs.open.Goals as goal

pub open_answer-reply-requires : goal.open_answer-reply-requires
open_answer-reply-requires c = λ d. (opens c.args.valid (alone c.args.core) (member c.args.reads) (member c.args.writes) (sym c.open_verdict-verdict.ensures ∙ d)).count

pub offset_bounds-core-at : goal.offset_bounds-core-at
offset_bounds-core-at c =
    let ok : c.open_verdict-verdict.result ≡ Ok tt = search rules in
    let h : _ = (opens c.args.valid (alone c.args.core) (member c.args.reads) (member c.args.writes) (sym c.open_verdict-verdict.ensures ∙ ok)).slot in
    let l : c.free_at-at.result < 8 = omega (arith, h, c.free_at-at.ensures) in search rules

pub bounds-core-at : goal.bounds-core-at
bounds-core-at c =
    let ok : c.open_verdict-verdict.result ≡ Ok tt = search rules in
    let h : _ = (opens c.args.valid (alone c.args.core) (member c.args.reads) (member c.args.writes) (sym c.open_verdict-verdict.ensures ∙ ok)).slot in
    omega (arith, h, c.free_at-at.ensures)

pub returns-in_default : goal.returns-in_default
returns-in_default c =
    let a : _ = c.args in
    let s : _ = a.core in
    let R : CardSet = member a.reads in
    let W : CardSet = member a.writes in
    let no : c.open_verdict-verdict.result ≡ Err c.in_default.field-0 = search rules in
    core_not s s (after28 (not a.valid) (open_checks limits16 (alone s) R W)) (opened (suc s.head.latest)) (place (free_at limits16 (alone s)) (opened_change (suc s.head.latest) R W) ∷ latest (suc s.head.latest) ∷ []) _ _ (sym c.open_verdict-verdict.ensures ∙ no) (ap open_reply_of c.in_default.is) refl
