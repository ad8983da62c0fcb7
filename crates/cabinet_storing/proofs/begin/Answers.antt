use Rattle.std.specs.Prelude.{Ok, is_ok}
use mathlib.Core.Path.{◌≡◌, sym, ◌∙◌}
use mathlib.Core.Bool.{false, not}
use mathlib.Core.List.{[], ◌∷◌}
use borrow.Author.Rules.{rules}
use Rattle.theory_protocol.specs.Edit.{begin}
use Rattle.theory_protocol.specs.Calls.{store_checks}
use Rattle.cabinet_layout.specs.Answers.{after28}
use Rattle.cabinet_layout.specs.Shape.{limits16}
use Rattle.cabinet_plans.specs.Plans.{alone}
use Rattle.cabinet_storing.proofs.Next.{store_below, begin_room, refused_as}
use Rattle.cabinet_storing.proofs.begin.Goals as goal

pub overflow_add-core : goal.overflow_add-core
overflow_add-core c =
    let a : _ = c.args in
    let ok : c.store_verdict-reply.result ≡ Ok tt = search rules in
    let h : _ = begin_room a.valid a.core a.card a.last c.requires (sym c.store_verdict-reply.ensures ∙ ok) in search rules

pub bounds-core-card : goal.bounds-core-card
bounds-core-card c =
    let a : _ = c.args in
    let ok : c.store_verdict-reply.result ≡ Ok tt = search rules in
    store_below a.valid (alone a.core) a.card a.last (sym c.store_verdict-reply.ensures ∙ ok)

pub returns-else-is_ok : goal.returns-else-is_ok
returns-else-is_ok c =
    let a : _ = c.args in
    let no : is_ok c.store_verdict-reply.result ≡ false = sym c.is_ok.ensures.value ∙ c.if-is_ok.false in
    refused_as a.core (after28 (not a.valid) (store_checks limits16 (alone a.core) a.card a.last)) (begin a.card a.last ∷ []) _ c.store_verdict-reply.ensures no
