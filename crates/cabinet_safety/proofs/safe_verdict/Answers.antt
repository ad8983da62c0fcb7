use borrow.Author.Rules.{rules}
use mathlib.Core.Path.{◌≡◌, sym, ◌∙◌, ap}
use mathlib.Core.Bool.{Bool, not, cond}
use mathlib.Core.List.{List, []}
use Rattle.theory_protocol.specs.Calls.{safe_checks, is_safe}
use Rattle.theory_protocol.specs.Plan.{Answer, Check, Plan, refused, accepted, safe, unsafe}
use Rattle.cabinet_layout.specs.Answers.{safe_reply_of, after28}
use Rattle.cabinet_layout.specs.Shape.{limits16, model_of}
use Rattle.cabinet_layout.proofs.Checks.{done_plan, refused_plan}
use Rattle.cabinet_safety.proofs.safe_verdict.Goals as goal

pub returns-in_err-safe_reply : goal.returns-in_err-safe_reply
returns-in_err-safe_reply c =
    let a = c.args in
    let cs : List Check = after28 (not a.valid) (safe_checks limits16 (model_of a.entries.now a.changes.now a.core) a.k) in
    let answer : Answer = cond (is_safe limits16 (model_of a.entries.now a.changes.now a.core) a.k) safe unsafe in
    let told : safe_reply_of c.from_residual.result ≡ refused c.in_err-safe_reply.field-0.0 = search rules in
    told ∙ sym (ap (λ (p : Plan). p.reply) (refused_plan cs answer [] c.in_err-safe_reply.field-0.0 (sym c.safe_reply.ensures ∙ c.in_err-safe_reply.was)))

pub returns : goal.returns
returns c =
    let a = c.args in
    let cs : List Check = after28 (not a.valid) (safe_checks limits16 (model_of a.entries.now a.changes.now a.core) a.k) in
    let answer : Answer = cond (is_safe limits16 (model_of a.entries.now a.changes.now a.core) a.k) safe unsafe in
    c.graded.ensures ∙ ap (λ (b : Bool). accepted (cond b safe unsafe)) c.would_stay.ensures
    ∙ sym (ap (λ (p : Plan). p.reply) (done_plan cs answer [] (sym c.safe_reply.ensures ∙ c.in_ok-safe_reply.was)))
