-- The writes that run are, by arguments and answers, those begun and not ended; and what follows of their ends. Assumes nothing.
use Rattle.std.specs.Prelude.{Err}
use Prim.Native.Nat.{ℕ, suc, ◌≤◌, ◌<◌}
use mathlib.Core.Path.{◌≡◌, refl, sym, ◌∙◌, ap}
use mathlib.Core.Bool.{true, false, cond}
use mathlib.Core.Logic.{by_cases}
use mathlib.Core.List.{List, [], ◌∷◌}
use native.Mathlib.Decide.{dec_lt}
use native.Mathlib.Omega.{arith}
use lib.Dec.{eqb}
use borrow.Author.Tests.{lt-ltb}
use Rattle.base_laws.proofs.Logic.{and_intro, cond_case}
use Rattle.base_refusal.specs.declared.Refusal.TheVariants.{LimitReached}
use Rattle.theory_history.specs.Change.{CardSet, Numbers}
use Rattle.theory_protocol.specs.Model.{Limits, OpenChange, is_up, is_rolling, Model, is_card, with_card, slot_of}
use Rattle.theory_protocol.specs.Valid.{valid}
use Rattle.theory_protocol.specs.Edit.{put, Edit, place, fall, lower, edited, edited_all}
use Rattle.theory_protocol.specs.Plan.{Answer, done, accepted, Check, Plan, checked, after_plan}
use Rattle.theory_protocol.specs.Calls.{open_checks, vote_checks, share_edit, took_share, take_checks, withdraw_checks, store_checks, end_checks, end_plan, trim_checks, safe_checks, lose_checks, fix_checks, roll_checks, all_rolled}
use Rattle.theory_protocol.specs.Codec.{Codec, sheet_checks, restart_checks, restart_plan}
use Rattle.theory_protocol.specs.Journal.{Journal}
use Rattle.theory_protocol.specs.Run.{Call, plain, open_call, vote_call, take_call, withdraw_call, store_call, begin_call, end_call, trim_call, safe_call, lose_call, fix_call, roll_call, sheet_call, restart_call, plan_of, after_call, after_restart, Calls, Run, start, next, journal, begun_after, begun_by, last_begun, last_kept}
use Rattle.theory_protocol.specs.Demands.{WritesRight}
use Rattle.theory_protocol.proofs.Running.{Carded}
use Rattle.theory_protocol.proofs.Writes.{Runs, EndsWithin, rolling_none, within_ends}
use Rattle.theory_protocol.proofs.Steps.{checked_case}
use Rattle.theory_protocol.proofs.Invariant.{Invariant, invariant_valid}
use Rattle.theory_protocol.proofs.Restart.{CodecLaw, recallable}
use Rattle.theory_protocol.proofs.Claims.{not_both}
use Rattle.theory_protocol.proofs.Lists.{run_invariant, restart_reply_lem}
use Rattle.theory_protocol.proofs.Kept.{stored_last}

module _ (C : Codec) (L : Limits) (n : CardSet) (m : Model) (x : Numbers) (c : ℕ) (same : m.writing c ≡ x c) where
  abbrev Told : Call → Plan → Type 0
  Told call p = (after_plan L p m).writing c ≡ begun_by call p.reply x c

  -- a call that leaves the writes that run
  quiet : (call : Call) (cs : List Check) (a : Answer) (es : List Edit) → begun_after call x c ≡ x c → (edited_all L es m).writing c ≡ m.writing c → Told call (checked cs a es)
  quiet call cs a es e f = checked_case (Told call) cs a es (λ r. same) (λ ps. f ∙ same ∙ sym e)

  placed : (d w : ℕ) → put m.writing d w c ≡ put x d w c
  placed d w = ap (λ (u : ℕ). cond (eqb c d) w u) same

  begun_step : (call : Call) → ((restart_plan C L m).reply ≡ accepted done → (C.restarted L (C.joined L m)).writing c ≡ 0)
      → (after_call C L m call).writing c ≡ begun_by call (plan_of C L m call).reply x c
  begun_step (open_call reads writes) h = quiet (open_call reads writes) (open_checks L m reads writes) _ _ refl refl
  begun_step (plain (vote_call k d agrees)) h = quiet (plain (vote_call k d agrees)) (vote_checks L m k d) _ _ refl refl
  begun_step (plain (take_call k d)) h = quiet (plain (take_call k d)) (take_checks L m k d) _ _ refl (share (m.slot (slot_of L m k)))
    where
      share : (o : OpenChange) → (edited_all L (share_edit o d ∷ place (slot_of L m k) (took_share L o d) ∷ []) m).writing c ≡ m.writing c
      share o = cond_case (λ (e : Edit). (edited L e m).writing c ≡ m.writing c) (o.change.writes d) (λ e. refl) (λ e. refl)
  begun_step (plain (withdraw_call k)) h = quiet (plain (withdraw_call k)) (withdraw_checks L m k) _ _ refl refl
  begun_step (plain (store_call d s)) h = quiet (plain (store_call d s)) (store_checks L m d s) _ _ refl refl
  begun_step (plain (begin_call d s)) h = checked_case (Told (plain (begin_call d s))) (store_checks L m d s) _ _ (λ r. same) (λ ps. placed d (suc s))
  begun_step (plain (end_call d s)) h = checked_case (Told (plain (end_call d s))) (end_checks L m d s) _ _ (λ r. same) (λ ps. placed d 0)
  begun_step (plain trim_call) h = quiet (plain trim_call) (trim_checks L m) _ _ refl refl
  begun_step (plain (safe_call k)) h = quiet (plain (safe_call k)) (safe_checks L m k) _ _ refl refl
  begun_step (lose_call cards) h =
      quiet (lose_call cards) (lose_checks L m cards) _ _ refl
      (cond_case (λ (es : List Edit). (edited_all L (fall cards ∷ es) m).writing c ≡ m.writing c) (is_up m.phase) (λ e. refl) (λ e. refl))
  begun_step (fix_call a b) h = quiet (fix_call a b) (fix_checks L m a b) _ _ refl refl
  begun_step (plain (roll_call d)) h =
      quiet (plain (roll_call d)) (roll_checks L m d) _ _ refl
      (cond_case (λ (es : List Edit). (edited_all L (lower d ∷ es) m).writing c ≡ m.writing c) (all_rolled L m (with_card m.rolled d)) (λ e. refl) (λ e. refl))
  begun_step (sheet_call d places) h = quiet (sheet_call d places) (sheet_checks C L m d places) _ _ refl refl
  begun_step restart_call h =
      checked_case (λ (p : Plan). (restart_plan C L m).reply ≡ p.reply → (after_restart p.reply (C.restarted L (C.joined L m)) m).writing c ≡ begun_by restart_call p.reply x c) (restart_checks C L m) _ _
      (λ r e. same) (λ ps e. h e) refl

-- a cabinet restarted has no write running
restarted_none : (C : Codec) (L : Limits) (n : CardSet) → CodecLaw C L n → (m : Model) (j : Journal) → Invariant L n m j → (c : ℕ) → (restart_plan C L m).reply ≡ accepted done → (C.restarted L (C.joined L m)).writing c ≡ 0
restarted_none C L n law m j v c e =
    by_cases (dec_lt m.session L.greatest_number) (λ z. (law.remade m j v.present_is (recallable L n m j v) z).recalled.none_writing c)
    (λ z. not_both done LimitReached (sym e ∙ restart_reply_lem C L m (Err LimitReached) (invariant_valid L n m j v) (law.last_session m j v.present_is (recallable L n m j v) (omega (arith, z)))))

begun_last : {C : Codec} {L : Limits} {n : CardSet} → Carded L n → CodecLaw C L n → {cs : Calls} {m : Model} → Run C L n cs m → (c : ℕ) → m.writing c ≡ last_begun cs c
begun_last carded law start c = refl
begun_last {C} {L} {n} carded law (next {cs} {m} r call) c =
    begun_step C L n m (last_begun cs) c (begun_last carded law r c) call (restarted_none C L n law m (journal L n cs) (run_invariant carded law r) c)

-- an end that no check refuses
ends : (L : Limits) (m : Model) (c x : ℕ) → valid L m ≡ true → is_card L m c ≡ true → is_rolling m.phase ≡ false → EndsWithin m c x → (end_plan L m c x).reply ≡ accepted done
ends L m c x fine here not_rolling w = rw (fine, here, not_rolling, within_ends m c x w)

pub writes_right : {C : Codec} {L : Limits} {n : CardSet} → Carded L n → CodecLaw C L n → {cs : Calls} {m : Model} → Run C L n cs m → WritesRight L n cs m
writes_right {C} {L} {n} carded law {cs} {m} r =
    record {
      begun = λ c l h. begun_last carded law r c;
      any_end = any;
      none_rolling = λ e c l h. sym (begun_last carded law r c) ∙ rolling_none L m v.writes e c l (v.present_is c ∙ h);
    }
  where
    v : Invariant L n m (journal L n cs)
    v = run_invariant carded law r

    any : (c s x : ℕ) → c < L.width → n c ≡ true → last_begun cs c ≡ suc s → last_kept L n cs c ≤ x → x ≤ s → (end_plan L m c x).reply ≡ accepted done
    any c s x l h e low high =
        let here : m.present c ≡ true = v.present_is c ∙ h in
        let w : m.writing c ≡ suc s = begun_last carded law r c ∙ e in
        let running : ¬ (m.writing c ≡ 0) = λ (z : m.writing c ≡ 0). absurd (omega (arith, w, z)) in
        let stored : m.numbers.stored c ≡ last_kept L n cs c = stored_last carded law r c l h in
        let runs : Runs m c = v.writes c l here running in
        ends L m c x (invariant_valid L n m (journal L n cs) v) (and_intro (lt-ltb c L.width l) here) runs.0 (running, omega (arith, stored, low), omega (arith, w, high))
