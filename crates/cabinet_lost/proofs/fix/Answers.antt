-- `cabinet_lost::fix` answers what the plan of fix says: the checks refuse, or the list is too short, or the lines and the changes lost are told. Assumes nothing.
use Rattle.std.specs.Prelude.{Result, Err}
use Prim.Native.Nat.{ℕ}
use mathlib.Core.Path.{◌≡◌, refl, sym, ◌∙◌, subst}
use mathlib.Core.List.{List}
use lib.ListN.{replicate}
use Rattle.base_refusal.specs.declared.Refusal.{Refusal}
use Rattle.theory_protocol.specs.Model.{Model}
use Rattle.theory_protocol.specs.Plan.{Plan}
use Rattle.cabinet_recovery.specs.Fix.{FixWorked}
use Rattle.cabinet_layout.proofs.Held.{zero_listed}
use Rattle.cabinet_listing.proofs.Shown.{found_line}
use Rattle.cabinet_lost.proofs.Told.{first_told, line_rises, early_told, short_told, fixed_told}
use Rattle.cabinet_lost.proofs.fix.Goals as goal

-- a refusal, as it is answered
answered : {m : Model} {p : Plan} {n : ℕ} {stored line before : List ℕ} {q : Refusal} (y : (Result ℕ Refusal)) → y ≡ Err q → FixWorked m p n stored line before before (Err q) → FixWorked m p n stored line before before y
answered {m} {p} {n} {stored} {line} {before} y e t = subst (FixWorked m p n stored line before before) (sym e) t

pub returns-then-is_short : goal.returns-then-is_short
returns-then-is_short c =
    let a : _ = c.args in
    let line : _ = c.lines-line in
    let count : _ = c.list_lost-n in
    let none : _ = c.not_fixed-then-is_short in
    let done : _ = first_told a.entries.now a.changes.now a.core a.places a.list.now c.cabinet_valid-valid.result c.fix_verdict.result c.cabinet_valid-valid.ensures c.fix_verdict.ensures ∙ c.in_default.is in
    let rises : _ = line_rises a.entries.now a.changes.now a.core a.places a.list.now line.result line.ensures none.result.line none.ensures.0 done in
    answered none.result.reply none.ensures.1
    (short_told a.entries.now a.changes.now a.core a.places a.list.now line.result line.ensures none.result.line none.ensures.0 _ _ count.result (count.ensures rises) done (sym c.is_short.ensures ∙ c.if-is_short.true))

pub returns : goal.returns
returns c =
    let a : _ = c.args in
    let line : _ = c.lines-line in
    let count : _ = c.list_lost-n in
    let told : _ = c.list_lost in
    let done : _ = first_told a.entries.now a.changes.now a.core a.places a.list.now c.cabinet_valid-valid.result c.fix_verdict.result c.cabinet_valid-valid.ensures c.fix_verdict.ensures ∙ c.in_default.is in
    let rises : _ = line_rises a.entries.now a.changes.now a.core a.places a.list.now line.result line.ensures (replicate 16 0) zero_listed done in
    fixed_told a.entries.now a.changes.now a.core a.places a.list.now line.result line.ensures (replicate 16 0) zero_listed _ _ count.result (count.ensures rises) done _ told.result (told.ensures rises) (sym c.is_short.ensures ∙ c.if-is_short.false)

pub returns-in-Err : goal.returns-in-Err
returns-in-Err c =
    let a : _ = c.args in
    let none : _ = c.not_fixed in
    answered none.result.reply none.ensures.1
    (early_told a.entries.now a.changes.now a.core a.places a.list.now (found_line a.entries.now a.changes.now a.core) refl none.result.line none.ensures.0 _ (first_told a.entries.now a.changes.now a.core a.places a.list.now c.cabinet_valid-valid.result c.fix_verdict.result c.cabinet_valid-valid.ensures c.fix_verdict.ensures ∙ c.in-Err.is))
