-- What safe answers and what a fix then lists agree, of the 16-card cabinet. Assumes nothing.
use Prim.Native.Nat.{ℕ, ◌<◌}
use mathlib.Core.Path.{◌≡◌, refl, sym, ◌∙◌, ap, subst}
use mathlib.Core.List.{[], ◌∷◌}
use native.Mathlib.Omega.{arith}
use lib.ListN.{length}
use Rattle.base_bits.specs.Member.{member}
use Rattle.theory_history.specs.Change.{CardSet}
use Rattle.theory_protocol.specs.Model.{Phase, Model, up, down, rolling, is_card}
use Rattle.theory_protocol.specs.Edit.{end, fall, halt, edited, edited_all}
use Rattle.theory_protocol.specs.Plan.{Plan, done, after_plan}
use Rattle.theory_protocol.specs.Calls.{end_checks, end_plan, safe_checks, safe_plan, lose_checks, lose_plan, loss_edits}
use Rattle.theory_protocol.proofs.Steps.{checked_case, not_not, card_below}
use Rattle.theory_protocol.specs.Agreement as model
use Rattle.theory_protocol.specs.Agreement.{Reported}
use Rattle.theory_protocol.proofs.Agreement.{safe_agrees_with_fix}
use Rattle.cabinet_layout.specs.Shape.{limits16}
use Rattle.cabinet_layout.proofs.Limits.{width16}
use Rattle.cabinet.specs.declared.Cabinet.{Cabinet}
use Rattle.cabinet.specs.View.{view}
use Rattle.cabinet.specs.Apply.{apply, apply_all}
use Rattle.cabinet.specs.Fixing.{FixCarried}
use Rattle.cabinet.proofs.Laws.{end_law, fall_law, halt_law}
use Rattle.demands_lists.specs.Lists.{Sized}
use Rattle.demands_lists.specs.Claims.{Reported16, unreported, reports, SafeAgreesWithFix16, AgreesInLists16}
use Rattle.demands_lists.proofs.Lengths.{edit_sized}
use Rattle.demands_lists.proofs.Whole.{joined}

-- the edits of a loss, on any cabinet of its lengths
loss_shows : (s : Cabinet) → Sized s → (phase : Phase) (cards : CardSet) → view (apply_all (loss_edits phase cards) s) ≡ edited_all limits16 (loss_edits phase cards) (view s)
loss_shows s z up cards = halt_law (apply (fall cards) s) (edit_sized (fall cards) s z).core.slots ∙ ap (edited limits16 halt) (fall_law s cards z.core.stored z.core.held)
loss_shows s z down cards = fall_law s cards z.core.stored z.core.held
loss_shows s z rolling cards = fall_law s cards z.core.stored z.core.held

lose_shows : (s : Cabinet) → Sized s → (cards : CardSet) → view (apply_all (lose_plan limits16 (view s) cards).edits s) ≡ after_plan limits16 (lose_plan limits16 (view s) cards) (view s)
lose_shows s z cards =
    checked_case (λ (p : Plan). view (apply_all p.edits s) ≡ after_plan limits16 p (view s)) (lose_checks limits16 (view s) cards) done (loss_edits (view s).phase cards)
    (λ r. refl) (λ ps. loss_shows s z (view s).phase cards)

-- a question changes nothing
safe_same : (s : Cabinet) (k : ℕ) → apply_all (safe_plan limits16 (view s) k).edits s ≡ s
safe_same s k = checked_case (λ (p : Plan). apply_all p.edits s ≡ s) (safe_checks limits16 (view s) k) _ [] (λ r. refl) (λ ps. refl)

lose_sized : (s : Cabinet) → Sized s → (cards : CardSet) → Sized (apply_all (lose_plan limits16 (view s) cards).edits s)
lose_sized s z cards = checked_case (λ (p : Plan). Sized (apply_all p.edits s)) (lose_checks limits16 (view s) cards) done (loss_edits (view s).phase cards) (λ r. z) (λ ps. phased (view s).phase)
  where
    phased : (phase : Phase) → Sized (apply_all (loss_edits phase cards) s)
    phased up = edit_sized halt (apply (fall cards) s) (edit_sized (fall cards) s z)
    phased down = edit_sized (fall cards) s z
    phased rolling = edit_sized (fall cards) s z

-- ---- reports, as the model has them
record Shown (t u : Cabinet) : Type 0 where
  sized : Sized u
  reported : Reported limits16 (view t) (view u)

end_shows : (s : Cabinet) → Sized s → (c x : ℕ) → (Sized (apply_all (end_plan limits16 (view s) c x).edits s)) × (view (apply_all (end_plan limits16 (view s) c x).edits s) ≡ after_plan limits16 (end_plan limits16 (view s) c x) (view s))
end_shows s z c x =
    checked_case (λ (p : Plan). (Sized (apply_all p.edits s)) × (view (apply_all p.edits s) ≡ after_plan limits16 p (view s))) (end_checks limits16 (view s) c x) done (end c x ∷ []) (λ r. (z, refl))
    (λ ps. let l : c < limits16.width = card_below limits16 (view s) c (not_not (is_card limits16 (view s) c) ps.1.0) in
    (edit_sized (end c x) s z, end_law s c x (omega (arith, z.core.stored, l, width16)) (omega (arith, z.core.held, l, width16)) (omega (arith, z.core.writing, l, width16))))

shown : {t u : Cabinet} → Sized t → Reported16 t u → Shown t u
shown z unreported = record { sized = z; reported = model.unreported }
shown {t} z (reports {u} r c v lent₀ d) =
    let h : Shown t u = shown z r in
    let x : (Sized (apply_all (end_plan limits16 (view u) c ((view u).numbers.stored c)).edits u)) × (view (apply_all (end_plan limits16 (view u) c ((view u).numbers.stored c)).edits u) ≡ after_plan limits16 (end_plan limits16 (view u) c ((view u).numbers.stored c)) (view u)) =
    end_shows u h.sized c ((view u).numbers.stored c) in
    record {
      sized = subst Sized (sym d.0.cabinet) x.0;
      reported = subst (Reported limits16 (view t)) (sym (ap view d.0.cabinet ∙ x.1)) (model.reports h.reported c (sym d.0.answer));
    }

pub safe_agrees_with_fix_16 : SafeAgreesWithFix16
safe_agrees_with_fix_16 s z k a t lent₁ x cards b u lent₂ y e reported records list rows numbers v lent₃ w =
    let c : FixCarried e (length records) list lent₃.numbers w.told v = w.both.carried in
    let same : t ≡ s = x.0.cabinet ∙ safe_same s k in
    let lost : view u ≡ after_plan limits16 (lose_plan limits16 (view s) (member cards)) (view s) =
    ap view y.0.cabinet ∙ ap (λ (e : Cabinet). view (apply_all (lose_plan limits16 (view e) (member cards)).edits e)) same ∙ lose_shows s z (member cards) in
    let sized : Sized u = subst Sized (sym (y.0.cabinet ∙ ap (λ (e : Cabinet). apply_all (lose_plan limits16 (view e) (member cards)).edits e) same)) (lose_sized s z (member cards)) in
    safe_agrees_with_fix limits16 (view s) k a (sym x.0.answer) (member cards) b
    (ap (λ (e : Cabinet). (lose_plan limits16 (view e) (member cards)).reply) (sym same) ∙ sym y.0.answer)
    (view e) (subst (λ (m : Model). Reported limits16 m (view e)) lost (shown sized reported).reported)
    (length records) (length list) rows numbers (sym (w.answer ∙ c.told.answer))

pub agrees_in_lists_16 : AgreesInLists16
agrees_in_lists_16 n cs s l = safe_agrees_with_fix_16 s (joined l).sized
