use Rattle.std.specs.Prelude.{is_ok}
use mathlib.Core.Path.{◌≡◌, sym, ◌∙◌}
use mathlib.Core.Bool.{false, not}
use mathlib.Core.List.{[], ◌∷◌}
use Rattle.theory_protocol.specs.Edit.{end}
use Rattle.theory_protocol.specs.Calls.{end_checks}
use Rattle.cabinet_layout.specs.Answers.{after28}
use Rattle.cabinet_layout.specs.Shape.{limits16}
use Rattle.cabinet_plans.specs.Plans.{alone}
use Rattle.cabinet_storing.proofs.Next.{refused_as}
use Rattle.cabinet_storing.proofs.end.Goals as goal

pub returns-else-is_ok : goal.returns-else-is_ok
returns-else-is_ok c =
    let a : _ = c.args in
    let no : is_ok c.end_verdict-reply.result ≡ false = sym c.is_ok.ensures.value ∙ c.if-is_ok.false in
    refused_as a.core (after28 (not a.valid) (end_checks limits16 (alone a.core) a.card a.reported)) (end a.card a.reported ∷ []) _ c.end_verdict-reply.ensures no
