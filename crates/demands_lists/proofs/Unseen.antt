-- What goes by no running write, of the 16-card cabinet. Assumes nothing.
use Prim.Native.Nat.{ℕ}
use mathlib.Core.Path.{◌≡◌, refl, sym, ◌∙◌, ap, subst}
use mathlib.Core.Bool.{Bool, true, false, cond}
use mathlib.Core.List.{List, [], ◌∷◌}
use lib.ListN.{length}
use Rattle.base_laws.proofs.Logic.{cond_case}
use Rattle.base_bits.specs.Member.{member}
use Rattle.theory_protocol.specs.Model.{OpenChange, Model, is_up, slot_of}
use Rattle.theory_protocol.specs.Valid.{valid}
use Rattle.theory_protocol.specs.Edit.{Edit, with_writing}
use Rattle.theory_protocol.specs.Edit as edit
use Rattle.theory_protocol.specs.Plan.{Answer, Reply, Check, Plan, checked}
use Rattle.theory_protocol.specs.Calls.{open_checks, open_plan, vote_checks, vote_plan, share_edit, take_checks, take_plan, withdraw_checks, withdraw_plan, trim_checks, trim_plan, safe_checks, safe_plan, lose_checks, lose_plan}
use Rattle.theory_protocol.specs.Codec.{sheet_checks, sheet_plan}
use Rattle.theory_protocol.specs.Run.{Plain, vote_call, take_call, withdraw_call, store_call, begin_call, end_call, trim_call, safe_call, roll_call}
use Rattle.theory_protocol.specs.Writes as writes
use Rattle.theory_protocol.specs.Writes.{Unseen, WritesUnseen}
use Rattle.theory_protocol.proofs.Steps.{checked_case}
use Rattle.theory_protocol.proofs.Unseen.{unhindered}
use Rattle.theory_codec.specs.Sheets.{codec}
use Rattle.theory_codec.proofs.Document.{sheets_unseen}
use Rattle.cabinet_layout.specs.Shape.{limits16}
use Rattle.cabinet_sheet.specs.Card.{SheetResult}
use Rattle.cabinet.specs.declared.Cabinet.{Cabinet}
use Rattle.cabinet.specs.View.{view}
use Rattle.cabinet.specs.Apply.{apply, apply_all, Carried}
use Rattle.demands_lists.specs.Lists.{Asked, opening, plain, lose, fix, sheet, restart, Lent, Answered}
use Rattle.demands_lists.specs.Claims.{unwritten, PlainSeesNone, UnhinderedFrom, Unhindered16, UnhinderedInLists16}
use Rattle.demands_lists.proofs.Fresh.{zeros}
use Rattle.demands_lists.proofs.Whole.{joined, cabinet_right}

-- what the cabinet with no write running shows
unwritten_shows : (s : Cabinet) → view (unwritten s) ≡ writes.unwritten (view s)
unwritten_shows s = λ i. with_writing (view s) (λ c. zeros 16 c i)

-- ---- edits that leave the writes that run
abbrev Quiet : Edit → Type 0
Quiet (edit.place p o) = Unit {0}
Quiet (edit.latest k) = Unit {0}
Quiet (edit.grow c k v) = Unit {0}
Quiet (edit.raise c v) = Unit {0}
Quiet (edit.keep c x) = Unit {0}
Quiet (edit.begin c x) = ⊥
Quiet (edit.end c x) = ⊥
Quiet (edit.rebase bases) = Unit {0}
Quiet (edit.fall cards) = Unit {0}
Quiet edit.halt = Unit {0}
Quiet (edit.fix line) = Unit {0}
Quiet (edit.lower c) = Unit {0}
Quiet edit.renew = Unit {0}

abbrev AllQuiet : List Edit → Type 0
AllQuiet [] = Unit {0}
AllQuiet (e ∷ es) = Quiet e × AllQuiet es

abbrev LeftAlone : Cabinet → Cabinet → Cabinet → Type 0
LeftAlone s t u = (unwritten t ≡ u) × (t.core.writing ≡ s.core.writing)

one : (s : Cabinet) (e : Edit) → Quiet e → LeftAlone s (apply e s) (apply e (unwritten s))
one s (edit.place p o) q = (refl, refl)
one s (edit.latest k) q = (refl, refl)
one s (edit.grow c k v) q = (refl, refl)
one s (edit.raise c v) q = (refl, refl)
one s (edit.keep c x) q = (refl, refl)
one s (edit.begin c x) q = absurd q
one s (edit.end c x) q = absurd q
one s (edit.rebase bases) q = (refl, refl)
one s (edit.fall cards) q = (refl, refl)
one s edit.halt q = (refl, refl)
one s (edit.fix line) q = (refl, refl)
one s (edit.lower c) q = (refl, refl)
one s edit.renew q = (refl, refl)

all : (s : Cabinet) (es : List Edit) → AllQuiet es → LeftAlone s (apply_all es s) (apply_all es (unwritten s))
all s [] q = (refl, refl)
all s (e ∷ es) q =
    let x : LeftAlone s (apply e s) (apply e (unwritten s)) = one s e q.0 in
    let y : LeftAlone (apply e s) (apply_all es (apply e s)) (apply_all es (unwritten (apply e s))) = all (apply e s) es q.1 in
    (y.0 ∙ ap (apply_all es) x.0, y.1 ∙ x.1)

-- ---- the plans of the calls
abbrev QuietPlan : Plan → Type 0
QuietPlan p = AllQuiet p.edits

quiet : (cs : List Check) (a : Answer) (es : List Edit) → AllQuiet es → QuietPlan (checked cs a es)
quiet cs a es q = checked_case QuietPlan cs a es (λ r. tt) (λ ps. q)

share_quiet : (o : OpenChange) (c : ℕ) → Quiet (share_edit o c)
share_quiet o c = cond_case Quiet (o.change.writes c) (λ e. tt) (λ e. tt)

loss_quiet : (cards : ℕ) (b : Bool) → AllQuiet (edit.fall (member cards) ∷ cond b (edit.halt ∷ []) [])
loss_quiet cards true = (tt, (tt, tt))
loss_quiet cards false = (tt, tt)

module _ (s : Cabinet) (fine : valid limits16 (view s) ≡ true) where
  abbrev m : Model
  m = view s

  model_unseen : WritesUnseen limits16 m
  model_unseen = unhindered limits16 m fine

  -- the plan with no write running
  same_plan : (f : Model → Plan) → Unseen limits16 m (f m) (f (writes.unwritten m)) → f (view (unwritten s)) ≡ f m
  same_plan f u = ap f (unwritten_shows s) ∙ sym u.same

  carried : (f : Model → Plan) → Unseen limits16 m (f m) (f (writes.unwritten m)) → QuietPlan (f m) → (reply : Reply) (t : Cabinet) → Carried s (f m) reply t
      → Carried (unwritten s) (f (view (unwritten s))) reply (unwritten t) × (t.core.writing ≡ s.core.writing)
  carried f u q reply t d =
      let x : LeftAlone s (apply_all (f m).edits s) (apply_all (f m).edits (unwritten s)) = all s (f m).edits q in (
        record { answer = d.answer ∙ ap (λ (p : Plan). p.reply) (sym (same_plan f u)); cabinet = ap unwritten d.cabinet ∙ x.0 ∙ ap (λ (p : Plan). apply_all p.edits (unwritten s)) (sym (same_plan f u)) },
        ap (λ (e : Cabinet). e.core.writing) d.cabinet ∙ x.1,
      )

  abbrev Same : Asked → Reply → Cabinet → Lent → Type 0
  Same asked reply t after = Answered (unwritten s) asked reply (unwritten t) after × (t.core.writing ≡ s.core.writing)

  plain_same : (q : Plain) → PlainSeesNone q → (reply : Reply) (t : Cabinet) (after : Lent) → Answered s (plain q) reply t after → Same (plain q) reply t after
  plain_same (vote_call k c agrees) z reply t after d =
      let x = carried (λ (n : Model). vote_plan limits16 n k c agrees) (model_unseen.votes k c agrees) (quiet (vote_checks limits16 m k c) _ _ (tt, tt)) reply t d.0 in ((x.0, d.1), x.1)
  plain_same (take_call k c) z reply t after d =
      let x = carried (λ (n : Model). take_plan limits16 n k c) (model_unseen.takes k c) (quiet (take_checks limits16 m k c) _ _ (share_quiet (m.slot (slot_of limits16 m k)) c, (tt, tt))) reply t d.0 in ((x.0, d.1), x.1)
  plain_same (withdraw_call k) z reply t after d =
      let x = carried (λ (n : Model). withdraw_plan limits16 n k) (model_unseen.withdraws k) (quiet (withdraw_checks limits16 m k) _ _ (tt, tt)) reply t d.0 in ((x.0, d.1), x.1)
  plain_same (store_call c y) z reply t after d = absurd z
  plain_same (begin_call c y) z reply t after d = absurd z
  plain_same (end_call c y) z reply t after d = absurd z
  plain_same trim_call z reply t after d =
      let x = carried (λ (n : Model). trim_plan limits16 n) model_unseen.trims (quiet (trim_checks limits16 m) _ _ (tt, tt)) reply t d.0 in ((x.0, d.1), x.1)
  plain_same (safe_call k) z reply t after d =
      let x = carried (λ (n : Model). safe_plan limits16 n k) (model_unseen.asks k) (quiet (safe_checks limits16 m k) _ _ tt) reply t d.0 in ((x.0, d.1), x.1)
  plain_same (roll_call c) z reply t after d = absurd z

  unhindered_from : UnhinderedFrom s
  unhindered_from (opening reads writes) z reply t after d =
      let x = carried (λ (n : Model). open_plan limits16 n (member reads) (member writes)) (model_unseen.opens (member reads) (member writes)) (quiet (open_checks limits16 m (member reads) (member writes)) _ _ (tt, (tt, tt))) reply t d.0 in
      ((x.0, d.1), x.1)
  unhindered_from (plain q) z reply t after d = plain_same q z reply t after d
  unhindered_from (lose cards) z reply t after d =
      let x = carried (λ (n : Model). lose_plan limits16 n (member cards)) (model_unseen.loses (member cards)) (quiet (lose_checks limits16 m (member cards)) _ _ (loss_quiet cards (is_up m.phase))) reply t d.0 in ((x.0, d.1), x.1)
  unhindered_from (fix records list) z reply t after d = absurd z
  unhindered_from (sheet c buffer) z reply t after d =
      let same : sheet_plan codec limits16 (view (unwritten s)) c (length buffer) ≡ sheet_plan codec limits16 m c (length buffer) = same_plan (λ (n : Model). sheet_plan codec limits16 n c (length buffer)) (sheets_unseen limits16 m fine c (length buffer)) in
      let x : LeftAlone s (apply_all (sheet_plan codec limits16 m c (length buffer)).edits s) (apply_all (sheet_plan codec limits16 m c (length buffer)).edits (unwritten s)) =
      all s (sheet_plan codec limits16 m c (length buffer)).edits (quiet (sheet_checks codec limits16 m c (length buffer)) _ [] tt) in (
        record {
          told = d.told;
          carried = record { told = subst (λ (p : Plan). SheetResult p buffer after.numbers d.told) (sym same) d.carried.told; cabinet = ap unwritten d.carried.cabinet ∙ x.0 ∙ ap (λ (p : Plan). apply_all p.edits (unwritten s)) (sym same) };
          answer = d.answer;
          no_records = d.no_records;
        },
        ap (λ (e : Cabinet). e.core.writing) d.carried.cabinet ∙ x.1,
      )
  unhindered_from restart z reply t after d = absurd z

pub unhindered_16 : Unhindered16
unhindered_16 s fine = unhindered_from s fine

pub unhindered_in_lists_16 : UnhinderedInLists16
unhindered_in_lists_16 n cs s l = unhindered_from s (cabinet_right n (joined l)).right.never_28
