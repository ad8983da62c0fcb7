use mathlib.Core.Path.{sym}
use mathlib.Core.List.{[]}
use borrow.Author.Rules.{rules}
use Rattle.cabinet_layout.specs.Shape.{bare, with_numbers}
use Rattle.cabinet_listing.proofs.Shown.{framed_base}
use Rattle.cabinet_safety.proofs.safe_reply.Goals as goal

pub returns : goal.returns
returns c =
    let a = c.args in
    rw (sym (framed_base [] a.changes.now (with_numbers (bare a.head) a.base [] [] a.reached) a.k _ c.some_above-known.ensures)) (search rules)
