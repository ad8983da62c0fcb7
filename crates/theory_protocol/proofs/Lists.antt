-- Every list of calls keeps the invariant, and what follows of the cabinet after each call. Assumes nothing.
use Rattle.std.specs.Prelude.{Ok, Err}
use Prim.Native.Nat.{ℕ, suc, ◌+◌, ◌≤◌, ◌<◌}
use mathlib.Core.Path.{◌≡◌, refl, sym, ◌∙◌, ap, subst}
use mathlib.Core.Bool.{true, false, cond}
use mathlib.Core.Logic.{inl, inr, by_cases, ⊎_elim}
use mathlib.Core.List.{List, []}
use native.Mathlib.Nat.{le_trans}
use native.Mathlib.Decide.{dec_lt, ℕ_discrete}
use native.Mathlib.Omega.{arith}
use lib.ListN.{length}
use Rattle.base_laws.proofs.Logic.{test, clash}
use Rattle.base_refusal.specs.declared.Refusal.TheVariants.{LimitReached}
use Rattle.base_refusal.specs.Reply.{Reply}
use Rattle.theory_history.specs.Change.{CardSet, History, Numbers, writers, UpTo, history_of}
use Rattle.theory_history.specs.Vector.{vector, entry_of, LastPreceding}
use Rattle.theory_history.proofs.Writers.{Maker, maker, makers_order}
use Rattle.theory_history.proofs.Greatest.{Makes, greatest_of}
use Rattle.theory_history.proofs.Vectors.{vector_greatest}
use Rattle.theory_history.proofs.Precedence.{up_to_trans}
use Rattle.theory_history.proofs.Cuts.{writers_precede}
use Rattle.theory_history.proofs.Entries.{entry_of_greatest}
use Rattle.theory_protocol.specs.Codec.{Codec, sheet_checks, verdict_checks, restart_plan}
use Rattle.theory_protocol.specs.Model.{Limits, Phase, up, down, rolling, is_up, is_rolling, Model}
use Rattle.theory_protocol.specs.Valid.{valid}
use Rattle.theory_protocol.specs.Edit.{Edit}
use Rattle.theory_protocol.specs.Plan.{Answer, done, accepted, reply_of, Check, Plan, checked, after_plan}
use Rattle.theory_protocol.specs.Calls.{card_rows, open_checks, vote_checks, take_checks, withdraw_checks, store_checks, end_checks, trim_checks, safe_checks, lose_checks, fix_checks, roll_checks}
use Rattle.theory_protocol.specs.Journal.{Journal, Fixing, unfixed, fixing, note_open, note_vote, note_struck, note_store, note_lose, note_fix, note_roll}
use Rattle.theory_protocol.specs.Run.{Call, plain, open_call, vote_call, take_call, withdraw_call, store_call, begin_call, end_call, trim_call, safe_call, lose_call, fix_call, roll_call, sheet_call, restart_call, plan_of, after_call, after_restart, Calls, Run, start, next, note, journal}
use Rattle.theory_protocol.specs.Demands.{VectorsRight}
use Rattle.theory_protocol.proofs.Restart.{recallable, restart_again, Remade, CodecLaw}
use Rattle.theory_protocol.proofs.Taking.{Framed, ByTakenWriters}
use Rattle.theory_protocol.proofs.Running.{About, Carded, Running}
use Rattle.theory_protocol.proofs.Rolling.{AboutLine}
use Rattle.theory_protocol.proofs.Steps.{checked_case, noted}
use Rattle.theory_protocol.proofs.Invariant.{RollingBack, Invariant, invariant_valid, fresh_invariant, next_open, next_vote, next_withdraw, next_take, next_store, next_begin, next_end, next_trim, next_safe, next_lose, next_fix, next_roll}

-- the journal notes what the call's lemma says
same_note : (L : Limits) (n : CardSet) (j j' : Journal) (call : Call) (cs : List Check) (a : Answer) (es : List Edit) → note L n j call (accepted a) ≡ j'
    → noted j j' (checked cs a es).reply ≡ note L n j call (checked cs a es).reply
same_note L n j j' call cs a es e =
    checked_case (λ (p : Plan). noted j j' p.reply ≡ note L n j call p.reply) cs a es (λ r. refl) (λ ps. sym e)

-- of a cabinet that passes 28 a restart answers the verdict
pub restart_reply_lem : (C : Codec) (L : Limits) (m : Model) (v : Reply) → valid L m ≡ true → C.verdict (C.joined L m) ≡ v → (restart_plan C L m).reply ≡ reply_of v
restart_reply_lem C L m v fine e = rw (fine, e) (same v)
  where
    same : (w : Reply) → (checked (verdict_checks w) done []).reply ≡ reply_of w
    same (Ok tt) = refl
    same (Err r) = refl

-- a restart: accepted where another session can follow, and refused in the last one
restart_step : (C : Codec) (L : Limits) (n : CardSet) → CodecLaw C L n → (m : Model) (j : Journal) → Invariant L n m j
    → Invariant L n (after_restart (restart_plan C L m).reply (C.restarted L (C.joined L m)) m) (note L n j restart_call (restart_plan C L m).reply)
restart_step C L n law m j v =
    by_cases (dec_lt m.session L.greatest_number)
    (λ z. let e : Remade C L m = law.remade m j v.present_is (recallable L n m j v) z in
    rw (restart_reply_lem C L m (Ok tt) fine e.accepts) (restart_again L n m (C.restarted L (C.joined L m)) j v z e.recalled))
    (λ z. rw (restart_reply_lem C L m (Err LimitReached) fine (law.last_session m j v.present_is (recallable L n m j v) (omega (arith, z)))) v)
  where
    fine : valid L m ≡ true
    fine = invariant_valid L n m j v

step : (C : Codec) (L : Limits) (n : CardSet) → CodecLaw C L n → (m : Model) (j : Journal) → Invariant L n m j → (call : Call)
    → Invariant L n (after_call C L m call) (note L n j call (plan_of C L m call).reply)
step C L n law m j v (open_call reads writes) =
    subst (Invariant L n _) (same_note L n j (note_open j (suc m.latest) reads writes) (open_call reads writes) (open_checks L m reads writes) _ _ refl) (next_open L n m j v reads writes)
step C L n law m j v (plain (vote_call k c agrees)) = subst (Invariant L n _) (same_note L n j (note_vote L j k c agrees) (plain (vote_call k c agrees)) (vote_checks L m k c) _ _ refl) (next_vote L n m j v k c agrees)
step C L n law m j v (plain (take_call k c)) = subst (Invariant L n _) (same_note L n j j (plain (take_call k c)) (take_checks L m k c) _ _ refl) (next_take L n m j v k c)
step C L n law m j v (plain (withdraw_call k)) = subst (Invariant L n _) (same_note L n j (note_struck j k) (plain (withdraw_call k)) (withdraw_checks L m k) _ _ refl) (next_withdraw L n m j v k)
step C L n law m j v (plain (store_call c s)) = subst (Invariant L n _) (same_note L n j (note_store j c s) (plain (store_call c s)) (store_checks L m c s) _ _ refl) (next_store L n m j v c s)
step C L n law m j v (plain (begin_call c s)) = subst (Invariant L n _) (same_note L n j j (plain (begin_call c s)) (store_checks L m c s) _ _ refl) (next_begin L n m j v c s)
step C L n law m j v (plain (end_call c x)) = subst (Invariant L n _) (same_note L n j (note_store j c x) (plain (end_call c x)) (end_checks L m c x) _ _ refl) (next_end L n m j v c x)
step C L n law m j v (plain trim_call) = subst (Invariant L n _) (same_note L n j j (plain trim_call) (trim_checks L m) _ _ refl) (next_trim L n m j v)
step C L n law m j v (plain (safe_call k)) = subst (Invariant L n _) (same_note L n j j (plain (safe_call k)) (safe_checks L m k) _ _ refl) (next_safe L n m j v k)
step C L n law m j v (lose_call cards) = subst (Invariant L n _) (same_note L n j (note_lose j) (lose_call cards) (lose_checks L m cards) _ _ refl) (next_lose L n m j v cards)
step C L n law m j v (fix_call a b) = subst (Invariant L n _) (same_note L n j (note_fix j (card_rows L m)) (fix_call a b) (fix_checks L m a b) _ _ refl) (next_fix L n m j v a b)
step C L n law m j v (plain (roll_call c)) = subst (Invariant L n _) (same_note L n j (note_roll L n j c) (plain (roll_call c)) (roll_checks L m c) _ _ refl) (next_roll L n m j v c)
step C L n law m j v (sheet_call c places) =
    subst (Invariant L n _) (same_note L n j j (sheet_call c places) (sheet_checks C L m c places) _ _ refl)
    (checked_case (λ (p : Plan). Invariant L n (after_plan L p m) (noted j j p.reply)) (sheet_checks C L m c places) _ _ (λ r. v) (λ ps. v))
step C L n law m j v restart_call = restart_step C L n law m j v

pub run_invariant : {C : Codec} {L : Limits} {n : CardSet} → Carded L n → CodecLaw C L n → {cs : Calls} {m : Model} → Run C L n cs m → Invariant L n m (journal L n cs)
run_invariant {C} {L} {n} carded law start = fresh_invariant L n carded
run_invariant {C} {L} {n} carded law (next {cs} {m} r call) = step C L n law m (journal L n cs) (run_invariant carded law r) call

-- ---- demand 2 of a cabinet that meets the invariant
module _ (L : Limits) (n : CardSet) (m : Model) (j : Journal) (v : Invariant L n m j) where
  abbrev H₀ : History
  H₀ = history_of j.history

  abbrev N : ℕ
  N = length j.history

  framed_right : Framed L.width H₀ j.start N m.numbers.base m.numbers.reached m.memory.change m.memory.frame
      → ((c : ℕ) → c < L.width → j.start c ≤ m.numbers.base c) → ((c : ℕ) → c < L.width → m.numbers.reached c ≤ j.start c + writers H₀ c N)
      → (c x i : ℕ) → c < L.width → i < L.width → m.numbers.base c < x → x ≤ m.numbers.reached c → LastPreceding L.width H₀ j.start N c x i (entry_of (m.memory.frame c x i))
  framed_right f low top c x i l li a b =
      let k : Maker H₀ j.start N c x = maker H₀ j.start N c x (omega (arith, low c l, a)) (omega (arith, top c l, b)) in
      let q : m.memory.frame c x i ≡ vector L.width H₀ j.start k.at i =
      ap (λ (y : ℕ). m.memory.frame c y i) (sym k.makes) ∙ f.vector_is_lem k.at c i k.in_history l li k.wrote (omega (arith, k.makes, a)) (omega (arith, k.makes, b)) in
      rw q (entry_of_greatest L.width H₀ j.start N k.at c x i (vector L.width H₀ j.start k.at i) k.in_history k.wrote k.makes (vector_greatest L.width H₀ j.start k.at i li))

  -- while rolling no phase is up
  not_up : RollingBack L m j → is_up m.phase ≡ false
  not_up r = cases m.phase r.rolls.is_rolling_lem
    where
      cases : (p : Phase) → is_rolling p ≡ true → is_up p ≡ false
      cases up e = clash e refl
      cases down e = refl
      cases rolling e = refl

  module _ (r : Running L m j) where
    a : About L m j.start N r.took r.at H₀
    a = r.about H₀ (λ i h. refl)

    -- the last vector is that of the writer that made the present state
    last_right : (c i : ℕ) → c < L.width → i < L.width → j.start c < m.numbers.reached c → LastPreceding L.width H₀ j.start N c (m.numbers.reached c) i (entry_of (m.memory.last c i))
    last_right c i l li h =
        let k : Maker H₀ j.start N c (m.numbers.reached c) = maker H₀ j.start N c (m.numbers.reached c) h (a.levels.high c l) in
        entry_of_greatest L.width H₀ j.start N k.at c (m.numbers.reached c) i (m.memory.last c i) k.in_history k.wrote k.makes
        (greatest_of (λ t b. from_taken k t b)
        (λ t u. (k.at, k.in_history, a.levels.taken k.at c k.in_history l k.wrote (omega (arith, k.makes)), k.wrote, u)) (a.tracks.last_is c i l li))
      where
        from_taken : (k : Maker H₀ j.start N c (m.numbers.reached c)) (t : ℕ) → ByTakenWriters L.width H₀ N r.took c t → UpTo L.width H₀ t k.at
        from_taken k t b =
            let o : b.0 ≤ k.at = makers_order H₀ j.start c b.3 k.wrote (omega (arith, k.makes, a.levels.up_to b.0 c b.1 l b.3 b.2)) in
            up_to_trans b.4 (by_cases (ℕ_discrete b.0 k.at) (λ (q : b.0 ≡ k.at). inl q) (λ q. inr (writers_precede L.width H₀ c l (omega (arith, o, q)) b.3 k.wrote)))

    last_none : (c i : ℕ) → c < L.width → i < L.width → m.numbers.reached c ≡ j.start c → m.memory.last c i ≡ 0
    last_none c i l li e =
        by_cases (dec_lt 0 (m.memory.last c i)) (λ z. absurd (none_taken ((a.tracks.last_is c i l li).met z))) (λ z. omega (arith, z))
      where
        none_taken : Makes H₀ j.start (ByTakenWriters L.width H₀ N r.took c) i (m.memory.last c i) → ⊥
        none_taken k = omega (arith, e, a.levels.up_to k.1.0 c k.1.1 l k.1.3 k.1.2)

    vectors_running : VectorsRight L m j
    vectors_running =
        record {
          in_hand_lem = framed_right a.framed r.ranges.from_start a.levels.high;
          last = λ u c i l li h. last_right c i l li h;
          none_yet = λ u c i l li e. last_none c i l li e;
        }

  vectors_rolling : RollingBack L m j → VectorsRight L m j
  vectors_rolling r =
      let a : AboutLine L m j.start N j.stored m.line H₀ = r.rolls.about H₀ (λ i h. refl) in
      record {
        in_hand_lem = framed_right a.framed a.intact.from_start a.intact.reached_top;
        last = λ u. clash u (not_up r);
        none_yet = λ u. clash u (not_up r);
      }

  pub vectors_right : VectorsRight L m j
  vectors_right = ⊎_elim (λ (r : Running L m j). vectors_running r) (λ (r : RollingBack L m j). vectors_rolling r) v.state

  -- ---- what each card has kept, by the journal
  pub base_stored : (c : ℕ) → c < L.width → m.numbers.base c ≤ m.numbers.stored c
  base_stored c l =
      ⊎_elim (λ (r : Running L m j). r.ranges.base_stored c l)
      (λ (r : RollingBack L m j). let a : AboutLine L m j.start N j.stored m.line H₀ = r.rolls.about H₀ (λ i h. refl) in le_trans (a.intact.base_line c l) (a.intact.line_stored c l)) v.state

-- by the journal: the stored number, and the line once a card is marked
abbrev pub kept_of : Numbers → Fixing → Numbers
kept_of stored unfixed c = stored c
kept_of stored (fixing line marked) c = cond (marked c) (line c) (stored c)

pub stored_is_kept : (L : Limits) (n : CardSet) (m : Model) (j : Journal) → Invariant L n m j → (c : ℕ) → c < L.width → n c ≡ true → m.numbers.stored c ≡ kept_of j.stored j.fix c
stored_is_kept L n m j v c l h =
    ⊎_elim (λ (r : Running L m j). rw r.not_fixed (sym (r.stored_is c l)))
    (λ (r : RollingBack L m j). rw r.notes.is_noted (test (r.notes.marked c)
    (λ e. rw e ((r.rolls.lowered c l (sym (r.notes.marked_is c l here) ∙ e)).1 ∙ sym (r.notes.line_is_lem c l)))
    (λ e. rw e (r.rolls.kept c l here (sym (r.notes.marked_is c l here) ∙ e))))) v.state
  where
    here : m.present c ≡ true
    here = v.present_is c ∙ h
