-- Each card's last accepted store, end or roll, by arguments and answers, is what its cabinet has stored. Assumes nothing.
use Prim.Native.Nat.{ℕ, ◌<◌}
use mathlib.Core.Path.{◌≡◌, refl, sym, ◌∙◌, ap}
use mathlib.Core.Bool.{Bool, true, false, not, ◌||◌, cond}
use mathlib.Core.Logic.{by_cases, ⊎_elim}
use mathlib.Core.List.{List, []}
use native.Mathlib.Decide.{ℕ_discrete}
use lib.Dec.{eqb}
use borrow.Author.Tests.{eq-eqb, ne_eqb}
use Rattle.base_laws.proofs.Logic.{test, clash, or_elim, not_true, cond_case}
use Rattle.base_laws.proofs.Below.{all_at}
use Rattle.theory_history.specs.Change.{CardSet, Numbers, touches}
use Rattle.theory_protocol.specs.Codec.{Codec, sheet_checks, restart_checks}
use Rattle.theory_protocol.specs.Model.{Limits, Phase, up, down, rolling, is_down, is_rolling, Model, within, with_card}
use Rattle.theory_protocol.specs.Edit.{put, Edit}
use Rattle.theory_protocol.specs.Plan.{Answer, accepted, Check, Plan, checked}
use Rattle.theory_protocol.specs.Calls.{open_checks, vote_checks, take_checks, withdraw_checks, store_checks, end_checks, trim_checks, safe_checks, lose_checks, fix_checks, roll_checks}
use Rattle.theory_protocol.specs.Journal.{Journal, Noted, struck, asked, note_vote_on, Fixing, unfixed, fixing, note_vote, note_roll_of, note_restart_of}
use Rattle.theory_protocol.specs.Run.{Call, plain, open_call, vote_call, take_call, withdraw_call, store_call, begin_call, end_call, trim_call, safe_call, lose_call, fix_call, roll_call, sheet_call, restart_call, plan_of, Calls, Run, start, next, note, journal, line_noted, kept_after, kept_by, last_kept}
use Rattle.theory_protocol.proofs.Taking.{put_same, put_other}
use Rattle.theory_protocol.proofs.Running.{Running}
use Rattle.theory_protocol.proofs.Steps.{checked_case, not_not}
use Rattle.theory_protocol.proofs.Invariant.{RollingBack, Invariant}
use Rattle.theory_protocol.proofs.Lists.{run_invariant, kept_of, stored_is_kept}
use Rattle.theory_protocol.proofs.Running.{Carded}
use Rattle.theory_protocol.proofs.Restart.{CodecLaw}

-- what the journal has kept
abbrev journal_kept : Journal → Numbers
journal_kept j = kept_of j.stored j.fix

module _ (C : Codec) (L : Limits) (n : CardSet) (m : Model) (j : Journal) (v : Invariant L n m j) (x : Numbers) (same : (c : ℕ) → c < L.width → n c ≡ true → x c ≡ journal_kept j c) where
  -- a call that leaves stored numbers and fix as they are
  quiet : (call : Call) (cs : List Check) (a : Answer) (es : List Edit) → ((c : ℕ) → kept_after j call x c ≡ x c) → ((c : ℕ) → journal_kept (note L n j call (accepted a)) c ≡ journal_kept j c)
      → (c : ℕ) → c < L.width → n c ≡ true → kept_by j call (checked cs a es).reply x c ≡ journal_kept (note L n j call (checked cs a es).reply) c
  quiet call cs a es e f c lw h =
      checked_case (λ (p : Plan). kept_by j call p.reply x c ≡ journal_kept (note L n j call p.reply) c) cs a es (λ r. same c lw h) (λ ps. e c ∙ same c lw h ∙ sym (f c))

  vote_kept : (k d : ℕ) (agrees : Bool) (c : ℕ) → journal_kept (note_vote L j k d agrees) c ≡ journal_kept j c
  vote_kept k d true c = on (j.undecided k)
    where
      on : (y : Noted) → journal_kept (note_vote_on L j k d y) c ≡ journal_kept j c
      on struck = refl
      on (asked t votes) = cond_case (λ (y : Journal). journal_kept y c ≡ journal_kept j c) (within L (touches t) (with_card votes d)) (λ e. refl) (λ e. refl)
  vote_kept k d false c = refl

  runs : is_rolling m.phase ≡ false → Running L m j
  runs e = ⊎_elim (λ (r : Running L m j). r) (λ (r : RollingBack L m j). clash r.rolls.is_rolling_lem e) v.state

  rolls : is_rolling m.phase ≡ true → RollingBack L m j
  rolls e = ⊎_elim (λ (r : Running L m j). clash e r.not_rolling) (λ (r : RollingBack L m j). r) v.state

  store_kept : (d s : ℕ) → is_rolling m.phase ≡ false → (c : ℕ) → c < L.width → n c ≡ true → put x d s c ≡ kept_of (put j.stored d s) j.fix c
  store_kept d s e c lw h =
      rw (runs e).not_fixed
      (by_cases (ℕ_discrete c d) (λ (q : c ≡ d). rw (q, put_same x d s, put_same j.stored d s))
      (λ q. put_other x d s c q ∙ same c lw h ∙ ap (λ (f : Fixing). kept_of j.stored f c) (runs e).not_fixed ∙ sym (put_other j.stored d s c q)))

  fix_kept : is_down m.phase ≡ true → (line : Numbers) (c : ℕ) → c < L.width → n c ≡ true → x c ≡ j.stored c
  fix_kept e line c lw h =
      same c lw h ∙ ⊎_elim (λ (r : Running L m j). ap (λ (f : Fixing). kept_of j.stored f c) r.not_fixed) (λ (r : RollingBack L m j). clash e (not_down m.phase r.rolls.is_rolling_lem)) v.state
    where
      not_down : (p : Phase) → is_rolling p ≡ true → is_down p ≡ false
      not_down up z = clash z refl
      not_down down z = clash z refl
      not_down rolling z = refl

  roll_kept : (d : ℕ) → is_rolling m.phase ≡ true → (c : ℕ) → c < L.width → n c ≡ true → put x d (line_noted j.fix d) c ≡ journal_kept (note_roll_of L n j d j.fix) c
  roll_kept d e c lw h = rw r.notes.is_noted (test (within L n (with_card marked d)) all (λ z. rw z some))
    where
      r : RollingBack L m j
      r = rolls e

      line : Numbers
      line = r.notes.line

      marked : CardSet
      marked = r.notes.marked

      before : x c ≡ cond (marked c) (line c) (j.stored c)
      before = same c lw h ∙ ap (λ (f : Fixing). kept_of j.stored f c) r.notes.is_noted

      some : put x d (line d) c ≡ cond (eqb c d || marked c) (line c) (j.stored c)
      some = by_cases (ℕ_discrete c d) (λ (q : c ≡ d). rw (q, put_same x d (line d), eq-eqb d d refl)) (λ q. rw (put_other x d (line d) c q, ne_eqb c d q) before)

      all : within L n (with_card marked d) ≡ true
          → put x d (line d) c ≡ journal_kept (cond (within L n (with_card marked d)) (record { start = line; stored = line; undecided = j.undecided; history = []; fix = unfixed })
          (record { start = j.start; stored = j.stored; undecided = j.undecided; history = j.history; fix = fixing line (with_card marked d) })) c
      all z =
          rw z
          (by_cases (ℕ_discrete c d) (λ (q : c ≡ d). rw (q, put_same x d (line d)))
          (λ q. put_other x d (line d) c q ∙ before ∙ ap (λ (b : Bool). cond b (line c) (j.stored c))
          (⊎_elim (λ (y : not (n c) ≡ true). clash h (not_true (n c) y)) (λ (y : eqb c d || marked c ≡ true). ⊎_elim (λ (u : eqb c d ≡ true). clash u (ne_eqb c d q)) (λ (u : marked c ≡ true). u) (or_elim (eqb c d) (marked c) y))
          (or_elim (not (n c)) (eqb c d || marked c) (all_at L.width (λ i. not (n i) || with_card marked d i) z c lw)))))

  -- a restart notes a line with no card marked
  restart_kept : (f : Fixing) → j.fix ≡ f → (c : ℕ) → journal_kept j c ≡ journal_kept (note_restart_of L j f) c
  restart_kept unfixed e c = ap (λ (g : Fixing). kept_of j.stored g c) e
  restart_kept (fixing line marked) e c = refl

  kept_step : (call : Call) (c : ℕ) → c < L.width → n c ≡ true → kept_by j call (plan_of C L m call).reply x c ≡ journal_kept (note L n j call (plan_of C L m call).reply) c
  kept_step (open_call reads writes) c lw h = quiet (open_call reads writes) (open_checks L m reads writes) _ _ (λ c. refl) (λ c. refl) c lw h
  kept_step (plain (vote_call k d agrees)) c lw h = quiet (plain (vote_call k d agrees)) (vote_checks L m k d) _ _ (λ c. refl) (vote_kept k d agrees) c lw h
  kept_step (plain (take_call k d)) c lw h = quiet (plain (take_call k d)) (take_checks L m k d) _ _ (λ c. refl) (λ c. refl) c lw h
  kept_step (plain (withdraw_call k)) c lw h = quiet (plain (withdraw_call k)) (withdraw_checks L m k) _ _ (λ c. refl) (λ c. refl) c lw h
  kept_step (plain (store_call d s)) c lw h =
      checked_case (λ (p : Plan). kept_by j (plain (store_call d s)) p.reply x c ≡ journal_kept (note L n j (plain (store_call d s)) p.reply) c) (store_checks L m d s) _ _ (λ r. same c lw h)
      (λ ps. store_kept d s ps.1.1.0 c lw h)
  kept_step (plain (begin_call d s)) c lw h = quiet (plain (begin_call d s)) (store_checks L m d s) _ _ (λ c. refl) (λ c. refl) c lw h
  kept_step (plain (end_call d s)) c lw h =
      checked_case (λ (p : Plan). kept_by j (plain (end_call d s)) p.reply x c ≡ journal_kept (note L n j (plain (end_call d s)) p.reply) c) (end_checks L m d s) _ _ (λ r. same c lw h)
      (λ ps. store_kept d s ps.1.1.0 c lw h)
  kept_step (plain trim_call) c lw h = quiet (plain trim_call) (trim_checks L m) _ _ (λ c. refl) (λ c. refl) c lw h
  kept_step (plain (safe_call k)) c lw h = quiet (plain (safe_call k)) (safe_checks L m k) _ _ (λ c. refl) (λ c. refl) c lw h
  kept_step (lose_call cards) c lw h = quiet (lose_call cards) (lose_checks L m cards) _ _ (λ c. refl) (λ c. refl) c lw h
  kept_step (fix_call a b) c lw h =
      checked_case (λ (p : Plan). kept_by j (fix_call a b) p.reply x c ≡ journal_kept (note L n j (fix_call a b) p.reply) c) (fix_checks L m a b) _ _ (λ r. same c lw h)
      (λ ps. fix_kept (not_not (is_down m.phase) ps.1.0) x c lw h)
  kept_step (plain (roll_call d)) c lw h =
      checked_case (λ (p : Plan). kept_by j (plain (roll_call d)) p.reply x c ≡ journal_kept (note L n j (plain (roll_call d)) p.reply) c) (roll_checks L m d) _ _ (λ r. same c lw h)
      (λ ps. roll_kept d (not_not (is_rolling m.phase) ps.1.1.0) c lw h)
  kept_step (sheet_call d places) c lw h = quiet (sheet_call d places) (sheet_checks C L m d places) _ _ (λ c. refl) (λ c. refl) c lw h
  kept_step restart_call c lw h =
      checked_case (λ (p : Plan). kept_by j restart_call p.reply x c ≡ journal_kept (note L n j restart_call p.reply) c) (restart_checks C L m) _ _ (λ r. same c lw h)
      (λ ps. same c lw h ∙ restart_kept j.fix refl c)

kept_journal : {C : Codec} {L : Limits} {n : CardSet} → Carded L n → CodecLaw C L n → {cs : Calls} {m : Model} → Run C L n cs m → (c : ℕ) → c < L.width → n c ≡ true → last_kept L n cs c ≡ journal_kept (journal L n cs) c
kept_journal carded law start c lw h = refl
kept_journal {C} {L} {n} carded law (next {cs} {m} r call) c lw h =
    kept_step C L n m (journal L n cs) (run_invariant carded law r) (last_kept L n cs) (λ i l h. kept_journal carded law r i l h) call c lw h

pub stored_last : {C : Codec} {L : Limits} {n : CardSet} → Carded L n → CodecLaw C L n → {cs : Calls} {m : Model} → Run C L n cs m → (c : ℕ) → c < L.width → n c ≡ true → m.numbers.stored c ≡ last_kept L n cs c
stored_last {C} {L} {n} carded law {cs} {m} r c lw h =
    stored_is_kept L n m (journal L n cs) (run_invariant carded law r) c lw h ∙ sym (kept_journal carded law r c lw h)
