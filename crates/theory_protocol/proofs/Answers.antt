-- What accepted calls of a list answer and do: takes, fixes, rolls, losses and safe questions; and with it demands 2 and 3. Assumes nothing.
use Rattle.std.specs.Prelude.{Ok, Err}
use Prim.Native.Nat.{ℕ, zero, suc, max, ◌<◌}
use mathlib.Core.Path.{◌≡◌, refl, sym, ◌∙◌, ap, ap₂, subst}
use mathlib.Core.Bool.{Bool, true, false, not, ◌&&◌, cond}
use mathlib.Core.Logic.{by_cases, inl, ⊎_elim}
use mathlib.Core.List.{◌++◌, List, [], ◌∷◌}
use native.Mathlib.Nat.{le_refl, le_trans}
use native.Mathlib.Decide.{dec_le, dec_lt}
use native.Mathlib.Omega.{arith}
use lib.Dec.{eqb}
use borrow.Author.Tests.{eq-eqb, eqb-true}
use Rattle.base_laws.specs.Below.{selected, any_below, greatest}
use Rattle.base_laws.proofs.Logic.{test, clash, fails, and_left, and_right, and_intro, not_true, not_intro, cond_case}
use Rattle.base_laws.proofs.Below.{Found, any_elim, any_intro}
use Rattle.theory_history.specs.Change.{CardSet, Change, Numbers, touches, made, On}
use Rattle.theory_history.specs.Vector.{Vector, state_vector, IsVector}
use Rattle.theory_history.specs.Line.{lost, is_lost_number}
use Rattle.theory_history.specs.Line as history
use Rattle.theory_history.proofs.Entries.{state_vector_is}
use Rattle.theory_history.proofs.Lines.{line_cut, cut_below}
use Rattle.theory_history.proofs.Theorems.{line_whole, lost_numbers_lem, lost_numbers_rise, builds_on}
use Rattle.theory_history.proofs.Reports.{cut_same}
use Rattle.base_refusal.specs.declared.Refusal.TheVariants.{LimitReached}
use Rattle.theory_protocol.specs.Valid.{valid}
use Rattle.theory_protocol.specs.Codec.{Codec}
use Rattle.theory_protocol.specs.Model.{Limits, Phase, no_cards, up, down, rolling, is_up, is_down, is_rolling, OpenChange, Model, is_card, is_open, decided, slot_of, is_known, with_card}
use Rattle.theory_protocol.specs.Edit.{Edit, place, grow, raise, fall, halt, lower, renew, edited_all}
use Rattle.theory_protocol.specs.Plan.{Answer, safe, unsafe, fixed, accepted, Check, Plan, checked, after_plan, Passed}
use Rattle.theory_protocol.specs.Calls.{recovery_line, card_rows, some_frame_above, has_frame, all_lost, is_safe, is_lost, lost_numbers, took_share, take_checks, store_checks, end_checks, safe_checks, lose_checks, fix_checks, roll_checks, all_rolled}
use Rattle.theory_protocol.specs.Journal.{Journal, Fixing, fixing, note_lose, greatest_line, note_restart_of}
use Rattle.theory_protocol.specs.Run.{Call, plain, open_call, vote_call, take_call, withdraw_call, store_call, begin_call, end_call, trim_call, safe_call, lose_call, fix_call, roll_call, sheet_call, restart_call, plan_of, after_call, Calls, Run, start, next, journal, last_kept}
use Rattle.theory_protocol.specs.Demands.{H, decisions, GreatestChoice, FixRight, RollRight, RestartRight, TakeRight, SafeRight, BeginRight, EndRight, CallRight, RestartsTo, CabinetRight, Throughout, Demands}
use Rattle.theory_protocol.proofs.Taking.{put_same, reached_next}
use Rattle.theory_protocol.proofs.Intact.{line_at, line_same}
use Rattle.theory_protocol.proofs.Places.{Stood}
use Rattle.theory_protocol.proofs.Running.{About, Running}
use Rattle.theory_protocol.proofs.Rolling.{AboutLine}
use Rattle.theory_protocol.proofs.Stores.{line_right, lose_up_keeps}
use Rattle.theory_protocol.proofs.Lost.{Above, lost_above, above_lost, Numbered-as, frames_above, lost_number, lost_numbers_are}
use Rattle.theory_protocol.proofs.Steps.{checked_case, not_not, card_below, known_slot, up_only}
use Rattle.theory_protocol.proofs.Invariant.{RollingBack, Invariant, invariant_valid}
use Rattle.theory_protocol.proofs.Claims.{not_both}
use Rattle.theory_protocol.proofs.Lists.{restart_reply_lem, run_invariant, vectors_right, base_stored}
use Rattle.theory_protocol.proofs.Running.{Carded}
use Rattle.theory_protocol.proofs.Restart.{Recalled, Recallable, recallable, line_again, Remade, CodecLaw}
use Rattle.theory_protocol.proofs.Kept.{stored_last}
use Rattle.theory_protocol.proofs.Begun.{writes_right}

-- what an accepted plan answers
pub answered : (P : Answer → Plan → Type 0) (cs : List Check) (a : Answer) (es : List Edit) → (Passed cs → P a (record { reply = accepted a; edits = es }))
    → (b : Answer) → (checked cs a es).reply ≡ accepted b → P b (checked cs a es)
answered P cs a es f =
    checked_case (λ (p : Plan). (b : Answer) → p.reply ≡ accepted b → P b p) cs a es (λ r b e. not_both b r (sym e))
    (λ ps b e. let q : a ≡ b = cc in subst (λ (y : Answer). P y (record { reply = accepted a; edits = es })) q (f ps))

selected_same : {A : Type 0} (n : ℕ) (p : ℕ → Bool) (f g : ℕ → A) → ((k : ℕ) → k < n → p k ≡ true → f k ≡ g k) → selected n p f ≡ selected n p g
selected_same zero p f g e = refl
selected_same {A = A} (suc n) p f g e = ap₂ (λ (a b : List A). a ++ b) (selected_same n p f g (λ k h t. e k (omega arith) t)) (test (p n) (λ t. ap (λ (x : A). cond (p n) (x ∷ []) []) (e n (omega arith) t)) (λ t. rw t))

-- the line of a journal is a choice, and none is above it
greatest_choice : (L : Limits) (m : Model) (j : Journal) → Recallable L m j → GreatestChoice L j (greatest_line L j)
greatest_choice L m j q =
    record {
      is_cut = line_cut L.width (H j) j.start (decisions j) sv sr j.stored (λ c l. le_trans (a.intact.from_start c l) (le_trans (a.intact.base_line c l) (le_trans (a.intact.line_stored c l) (a.intact.stored_least c l))));
      greatest = λ g k c l. cut_below L.width (H j) j.start (decisions j) sv sr j.stored g k c l;
      whole = λ i c c' h l l' e e' z. line_whole L.width (H j) j.start (decisions j) sv sr j.stored i c c' h l l' e e' z;
    }
  where
    sv : ℕ → ℕ → Vector
    sv = state_vector L.width (H j) j.start (decisions j)

    sr : IsVector L.width (H j) j.start (decisions j) sv
    sr = state_vector_is L.width (H j) j.start (decisions j)

    a : AboutLine L m j.start (decisions j) j.stored (greatest_line L j) (H j)
    a = q.about (H j) (λ i h. refl)

-- so is one that is the same on every card
choice_same : (L : Limits) (j : Journal) (l l' : Numbers) → ((c : ℕ) → c < L.width → l' c ≡ l c) → GreatestChoice L j l → GreatestChoice L j l'
choice_same L j l l' e g =
    record {
      is_cut = record { consistent = cut_same L.width (H j) j.start (decisions j) l l' e g.is_cut.consistent; within = λ c h. rw (e c h) (g.is_cut.within c h) };
      greatest = λ x k c h. rw (e c h) (g.greatest x k c h);
      whole = λ i c c' h lc lc' wc wc' z. rw (e c' lc') (g.whole i c c' h lc lc' wc wc' (rw (e c lc) at z));
    }

module _ (L : Limits) (n : CardSet) (m : Model) (j : Journal) (v : Invariant L n m j) where
  runs : is_rolling m.phase ≡ false → Running L m j
  runs e = ⊎_elim (λ (r : Running L m j). r) (λ (r : RollingBack L m j). clash r.rolls.is_rolling_lem e) v.state

  rolls : is_rolling m.phase ≡ true → RollingBack L m j
  rolls e = ⊎_elim (λ (r : Running L m j). clash e r.not_rolling) (λ (r : RollingBack L m j). r) v.state

  -- ---- fix
  module _ (r : Running L m j) (is_down_lem : is_down m.phase ≡ true) where
    a : About L m j.start (decisions j) r.took r.at (H j)
    a = r.about (H j) (λ i h. refl)

    abbrev line : Numbers
    line = line_at L.width (H j) j.start (decisions j) j.stored

    line_is_lem : (c : ℕ) → c < L.width → recovery_line L m c ≡ line c
    line_is_lem c l =
        line_right L m j r (H j) a c l ∙ line_same L.width (H j) j.start (decisions j) m.numbers.stored j.stored (λ d ld. sym (r.stored_is d ld)) c l

    rows_are : card_rows L m ≡ selected L.width n (λ c. record { card = c; stored = j.stored c; line = line c })
    rows_are =
        ap (λ (p : CardSet). selected L.width p (λ c. record { card = c; stored = m.numbers.stored c; line = recovery_line L m c })) (λ i c. v.present_is c i)
        ∙ selected_same L.width n (λ c. record { card = c; stored = m.numbers.stored c; line = recovery_line L m c }) (λ c. record { card = c; stored = j.stored c; line = line c })
        (λ c h e. ap₂ (λ (s l : ℕ). record { card = c; stored = s; line = l }) (sym (r.stored_is c h)) (line_is_lem c h))

    lost_is : (k : ℕ) → is_lost L m k ≡ is_lost_number L.width (H j) j.start (decisions j) line k
    lost_is = lost_number L m j r (H j) a is_down_lem line line_is_lem

    fix_right : FixRight L n j (fixed (card_rows L m) (lost_numbers L m))
    fix_right =
        record {
          line = line;
          numbers = history.lost_numbers L.width (H j) j.start (decisions j) line;
          answered = ap₂ fixed rows_are (lost_numbers_are L m j r (H j) a is_down_lem line line_is_lem);
          choice = greatest_choice L m j (recallable L n m j v);
          numbers_are = refl;
          lost_listed = lost_numbers_lem L.width (H j) j.start (decisions j) line;
          rise = lost_numbers_rise L.width (H j) j.start (decisions j) line;
          builds_on = builds_on L.width (H j) j.start (decisions j) line a.numbered.rising;
        }

  -- ---- roll
  roll_right : (c : ℕ) → c < L.width → is_rolling m.phase ≡ true → RollRight j c (edited_all L (lower c ∷ cond (all_rolled L m (with_card m.rolled c)) (renew ∷ []) []) m)
  roll_right c l e =
      cond_case (λ (zs : List Edit). RollRight j c (edited_all L (lower c ∷ zs) m)) (all_rolled L m (with_card m.rolled c)) (λ y. four) (λ y. four')
    where
      r : RollingBack L m j
      r = rolls e

      at_line_lem : m.line c ≡ r.notes.line c
      at_line_lem = sym (r.notes.line_is_lem c l)

      four : RollRight j c (edited_all L (lower c ∷ renew ∷ []) m)
      four =
          record {
            line = r.notes.line;
            marked = r.notes.marked;
            noted = r.notes.is_noted;
            base = put_same m.numbers.base c (m.line c) ∙ at_line_lem;
            stored = put_same m.numbers.stored c (m.line c) ∙ at_line_lem;
            held = put_same m.numbers.held c (m.line c) ∙ at_line_lem;
            reached = put_same m.numbers.reached c (m.line c) ∙ at_line_lem;
          }

      four' : RollRight j c (edited_all L (lower c ∷ []) m)
      four' =
          record { line = four.line; marked = four.marked; noted = four.noted; base = four.base; stored = four.stored; held = four.held; reached = four.reached }

  -- ---- restart
  restart_right : (m' : Model) → Recalled L m m' → RestartRight L n j m'
  restart_right m' k = ⊎_elim ran back v.state
    where
      q : Recallable L m j
      q = recallable L n m j v

      again : (c : ℕ) → c < L.width → m'.line c ≡ greatest_line L j c
      again = line_again L n m m' j v.present_is v.absent_start q k

      ran : Running L m j → RestartRight L n j m'
      ran r =
          record {
            rolls = k.rolls;
            line = greatest_line L j;
            marked = no_cards;
            noted = ap (λ (f : Fixing). (note_restart_of L j f).fix) r.not_fixed;
            choice = greatest_choice L m j q;
            fixed_so = λ c l h. again c l;
          }

      back : RollingBack L m j → RestartRight L n j m'
      back r =
          record {
            rolls = k.rolls;
            line = r.notes.line;
            marked = r.notes.marked;
            noted = ap (λ (f : Fixing). (note_restart_of L j f).fix) r.notes.is_noted ∙ r.notes.is_noted;
            choice = choice_same L j (greatest_line L j) r.notes.line noted_line (greatest_choice L m j q);
            fixed_so = λ c l h. again c l ∙ sym (noted_line c l);
          }
        where
          noted_line : (c : ℕ) → c < L.width → r.notes.line c ≡ greatest_line L j c
          noted_line c l = r.notes.line_is_lem c l ∙ (r.rolls.about (H j) (λ i h. refl)).line_right c l

  -- ---- take
  module _ (r : Running L m j) (k c : ℕ) (is_slot : slot_of L m k < L.slots) (is_card_lem : c < L.width) (is_open_lem : is_open (m.slot (slot_of L m k)) ≡ true)
      (is_number_lem : (m.slot (slot_of L m k)).change.number ≡ k) (is_decided : decided L (m.slot (slot_of L m k)) ≡ true) (is-untaken : (m.slot (slot_of L m k)).taken c ≡ false) where
    abbrev p : ℕ
    p = slot_of L m k

    abbrev o : OpenChange
    o = m.slot p

    t : About L m j.start (decisions j) r.took r.at (H j)
    t = r.about (H j) (λ i h. refl)

    st : Stood L.width (H j) j.start (decisions j) r.took o (r.at p)
    st = t.standing.stood p is_slot is_open_lem is_decided

    -- the cabinet after the share, written or only read
    abbrev shared : Bool → Model
    shared b = edited_all L (cond b (grow c o.change.number o.vector) (raise c o.vector) ∷ place p (took_share L o c) ∷ []) m

    written_as : (H j (r.at p)).writes c ≡ o.change.writes c
    written_as = ap (λ (x : Change). x.writes c) st.change_is

    next_made : (H j (r.at p)).writes c ≡ true → suc (m.numbers.reached c) ≡ made (H j) j.start (r.at p) c
    next_made e =
        reached_next L.width (H j) j.start (decisions j) r.took t.orderly (r.at p) c st.in_history is_card_lem (st.taken_is c is_card_lem ∙ is-untaken) e t.levels

    take_right : TakeRight j k c m (shared (o.change.writes c))
    take_right =
        record {
          i = r.at p;
          decided = st.in_history;
          number = ap (λ (x : Change). x.number) st.change_is ∙ is_number_lem;
          reached_made = λ e. ap (λ (b : Bool). (shared b).numbers.reached c) (sym written_as ∙ e) ∙ put_same m.numbers.reached c (suc (m.numbers.reached c)) ∙ next_made e;
          held_made = λ e. ap (λ (b : Bool). (shared b).numbers.held c) (sym written_as ∙ e) ∙ put_same m.numbers.held c (suc (m.numbers.reached c)) ∙ next_made e;
          read_stays = λ e. ap (λ (b : Bool). (shared b).numbers.reached c) (sym written_as ∙ e);
        }

-- ---- safe: not lost, if every card were lost now
module _ (L : Limits) (n : CardSet) (m : Model) (j : Journal) (v : Invariant L n m j) (r : Running L m j) (is_up_lem : is_up m.phase ≡ true) (k : ℕ) where
  after_runs : Running L (all_lost L m) (note_lose j)
  after_runs = lose_up_keeps L m j r m.present is_up_lem

  after_loss : Invariant L n (all_lost L m) (note_lose j)
  after_loss = record { present_is = v.present_is; absent_start = v.absent_start; state = inl after_runs; writes = λ c l here ne. let w : _ = v.writes c l here ne in (refl, w.1, w.2) }

  b : About L m j.start (decisions j) r.took r.at (H j)
  b = r.about (H j) (λ i h. refl)

  -- a number stands for one change
  one_change : (i i' : ℕ) → i < decisions j → i' < decisions j → (H j i).number ≡ k → (H j i').number ≡ k → i ≡ i'
  one_change i i' h h' e e' =
      by_cases (dec_lt i i') (λ z. absurd (b.numbered.distinct i i' z h' (e ∙ sym e')))
      (λ z. by_cases (dec_lt i' i) (λ y. absurd (b.numbered.distinct i' i y h (e' ∙ sym e))) (λ y. omega (arith, z, y)))

  abbrev lost_then : ℕ → Bool
  lost_then i = lost L.width (H j) j.start (greatest_line L j) i

  abbrev lost_as : ℕ → Bool
  lost_as i = lost_then i && eqb (H j i).number k

  lost_then_lem : is_lost L (all_lost L m) k ≡ any_below (decisions j) lost_as
  lost_then_lem = lost_is L n (all_lost L m) (note_lose j) after_loss after_runs refl k

  module _ (i : ℕ) (h : i < decisions j) (e : (H j i).number ≡ k) where
    safe_on : is_safe L m k ≡ true → (c : ℕ) → c < L.width → (H j i).writes c ≡ true → On (H j) j.start (greatest_line L j) i c
    safe_on z c l wr =
        by_cases (dec_le (made (H j) j.start i c) (greatest_line L j c)) (λ y. y)
        (λ y. clash (any_intro (decisions j) lost_as i h (and_intro
        (above_lost L.width (H j) j.start (greatest_line L j) i (record { c = c; is_card_lem = l; wrote_it = wr; is_above = omega (arith, y) })) (eq-eqb (H j i).number k e)))
        (sym lost_then_lem ∙ not_true (is_lost L (all_lost L m) k) z))

    on_safe : ((c : ℕ) → c < L.width → (H j i).writes c ≡ true → On (H j) j.start (greatest_line L j) i c) → is_safe L m k ≡ true
    on_safe all = not_intro (lost_then_lem ∙ fails (any_below (decisions j) lost_as) none)
      where
        none : any_below (decisions j) lost_as ≡ true → ⊥
        none y =
            let f : Found (decisions j) lost_as = any_elim (decisions j) lost_as y in
            let s : f.0 ≡ i = one_change f.0 i f.1 h (eqb-true (H j f.0).number k (and_right (lost_then f.0) (eqb (H j f.0).number k) f.2)) e in
            let u : Above L.width (H j) j.start (greatest_line L j) f.0 = lost_above L.width (H j) j.start (greatest_line L j) f.0 (and_left (lost_then f.0) (eqb (H j f.0).number k) f.2) in
            let w : Above L.width (H j) j.start (greatest_line L j) i = rw s at u in
            omega (arith, all w.c w.is_card_lem w.wrote_it, w.is_above)

  safe_right : has_frame L m k ≡ true → SafeRight L j k (cond (is_safe L m k) safe unsafe)
  safe_right z =
      let q : (y : Numbered-as (H j) (decisions j) k) × Above L.width (H j) j.start m.numbers.base y.i =
      frames_above L m j r (H j) b m.numbers.base (λ c l. le_refl (m.numbers.base c)) k (and_right (not (eqb k 0)) (some_frame_above L m k m.numbers.base) z) in
      record {
        i = q.0.i;
        decided = q.0.in_history;
        number = q.0.is_number;
        line = greatest_line L j;
        choice = greatest_choice L m j (recallable L n m j v);
        right = (λ e. safe_on q.0.i q.0.in_history q.0.is_number (is_safe_lem e), λ all. rw (on_safe q.0.i q.0.in_history q.0.is_number all));
      }
    where
      is_safe_lem : cond (is_safe L m k) safe unsafe ≡ safe → is_safe L m k ≡ true
      is_safe_lem e = test (is_safe L m k) (λ y. y) (λ y. let d : unsafe ≡ safe = sym (ap (λ (x : Bool). cond x safe unsafe) y) ∙ e in let u : ◌≡◌ {A = ℕ} 0 1 = cc in absurd (omega arith))

-- ---- each accepted call of a list
call_right : (C : Codec) (L : Limits) (n : CardSet) → Carded L n → CodecLaw C L n → {cs : Calls} {m : Model} (r : Run C L n cs m) (call : Call)
    → (a : Answer) → (plan_of C L m call).reply ≡ accepted a → CallRight L n cs call a m (after_call C L m call)
call_right C L n carded law r (open_call reads writes) a e = tt
call_right C L n carded law r (plain (vote_call k c agrees)) a e = tt
call_right C L n carded law {cs} {m} r (plain (take_call k c)) a e =
    answered (λ (b : Answer) (q : Plan). TakeRight (journal L n cs) k c m (after_plan L q m)) (take_checks L m k c) _ _
    (λ ps.
    let kp : (slot_of L m k < L.slots) × (is_open (m.slot (slot_of L m k)) ≡ true) × ((m.slot (slot_of L m k)).change.number ≡ k) = known_slot L m k (not_not (is_known L m k) ps.1.1.1.0) in
    let aw : touches (m.slot (slot_of L m k)).change c && not ((m.slot (slot_of L m k)).taken c) ≡ true = not_not (touches (m.slot (slot_of L m k)).change c && not ((m.slot (slot_of L m k)).taken c)) ps.1.1.1.1.1.0 in
    take_right L n m (journal L n cs) v (runs L n m (journal L n cs) v (up_only m.phase (not_not (is_up m.phase) ps.1.1.0))) k c kp.0 (card_below L m c (not_not (is_card L m c) ps.1.0)) kp.1 kp.2
    (not_not (decided L (m.slot (slot_of L m k))) ps.1.1.1.1.0) (not_true ((m.slot (slot_of L m k)).taken c) (and_right (touches (m.slot (slot_of L m k)).change c) (not ((m.slot (slot_of L m k)).taken c)) aw))) a e
  where
    v : Invariant L n m (journal L n cs)
    v = run_invariant carded law r
call_right C L n carded law r (plain (withdraw_call k)) a e = tt
call_right C L n carded law r (plain (store_call c s)) a e = tt
call_right C L n carded law {cs} {m} r (plain (begin_call c s)) a e =
    answered (λ (b : Answer) (q : Plan). BeginRight c s m (after_plan L q m)) (store_checks L m c s) _ _ (λ ps. record { runs = put_same m.writing c (suc s); numbers = refl }) a e
call_right C L n carded law {cs} {m} r (plain (end_call c x)) a e =
    answered (λ (b : Answer) (q : Plan). EndRight c x m (after_plan L q m)) (end_checks L m c x) _ _
    (λ ps. record {
      stored = put_same m.numbers.stored c x;
      held = put_same m.numbers.held c (max (m.numbers.held c) x);
      base = refl;
      reached = refl;
      over = put_same m.writing c 0;
    }) a e
call_right C L n carded law r (plain trim_call) a e = tt
call_right C L n carded law {cs} {m} r (plain (safe_call k)) a e =
    answered (λ (b : Answer) (q : Plan). SafeRight L (journal L n cs) k b) (safe_checks L m k) _ _
    (λ ps. safe_right L n m (journal L n cs) v (runs L n m (journal L n cs) v (up_runs (not_not (is_up m.phase) ps.1.0))) (not_not (is_up m.phase) ps.1.0) k (not_not (has_frame L m k) ps.1.1.0)) a e
  where
    v : Invariant L n m (journal L n cs)
    v = run_invariant carded law r

    up_runs : is_up m.phase ≡ true → is_rolling m.phase ≡ false
    up_runs = up_only m.phase
call_right C L n carded law {cs} {m} r (lose_call cards) a e =
    answered (λ (b : Answer) (q : Plan). (c : ℕ) → c < L.width → n c ≡ true → cards c ≡ true → (after_plan L q m).numbers.held c ≡ last_kept L n cs c) (lose_checks L m cards) _ _
    (λ ps c lw h here. held_falls c here ∙ stored_last carded law r c lw h) a e
  where
    held_falls : (c : ℕ) → cards c ≡ true → (edited_all L (fall cards ∷ cond (is_up m.phase) (halt ∷ []) []) m).numbers.held c ≡ m.numbers.stored c
    held_falls c here =
        cond_case (λ (es : List Edit). (edited_all L (fall cards ∷ es) m).numbers.held c ≡ m.numbers.stored c) (is_up m.phase) (λ y. rw here) (λ y. rw here)
call_right C L n carded law {cs} {m} r (fix_call u z) a e =
    answered (λ (b : Answer) (q : Plan). FixRight L n (journal L n cs) b) (fix_checks L m u z) _ _
    (λ ps. fix_right L n m (journal L n cs) v (runs L n m (journal L n cs) v (down_runs m.phase (not_not (is_down m.phase) ps.1.0))) (not_not (is_down m.phase) ps.1.0)) a e
  where
    v : Invariant L n m (journal L n cs)
    v = run_invariant carded law r

    down_runs : (q : Phase) → is_down q ≡ true → is_rolling q ≡ false
    down_runs up z = refl
    down_runs down z = refl
    down_runs rolling z = clash z refl
call_right C L n carded law {cs} {m} r (plain (roll_call c)) a e =
    answered (λ (b : Answer) (q : Plan). RollRight (journal L n cs) c (after_plan L q m)) (roll_checks L m c) _ _
    (λ ps. roll_right L n m (journal L n cs) (run_invariant carded law r) c (card_below L m c (not_not (is_card L m c) ps.1.0)) (not_not (is_rolling m.phase) ps.1.1.0)) a e
call_right C L n carded law r (sheet_call c places) a e = tt
call_right C L n carded law {cs} {m} r restart_call a e =
    by_cases (dec_lt m.session L.greatest_number)
    (λ z. let q : Remade C L m = law.remade m (journal L n cs) v.present_is (recallable L n m (journal L n cs) v) z in
    rw (restart_reply_lem C L m (Ok tt) fine q.accepts) (restart_right L n m (journal L n cs) v (C.restarted L (C.joined L m)) q.recalled))
    (λ z. not_both a LimitReached (sym e ∙ restart_reply_lem C L m (Err LimitReached) fine (law.last_session m (journal L n cs) v.present_is (recallable L n m (journal L n cs) v) (omega (arith, z)))))
  where
    v : Invariant L n m (journal L n cs)
    v = run_invariant carded law r

    fine : valid L m ≡ true
    fine = invariant_valid L n m (journal L n cs) v

cabinet_right : (C : Codec) (L : Limits) (n : CardSet) → Carded L n → CodecLaw C L n → {cs : Calls} {m : Model} → Run C L n cs m → CabinetRight C L n cs m
cabinet_right C L n carded law {cs} {m} r =
    record {
      never_28 = invariant_valid L n m (journal L n cs) v;
      vectors = vectors_right L n m (journal L n cs) v;
      stored_kept = stored_last carded law r;
      writes = writes_right carded law r;
      sheet_kept = λ c lw h. law.last_stored m c (base_stored L n m (journal L n cs) v c lw) ∙ stored_last carded law r c lw h;
      sheets_give_line = λ line marked e. ⊎_elim
          (λ (q : Running L m (journal L n cs)). let z : ◌≡◌ {A = ℕ} 0 1 = cc (e, q.not_fixed) in absurd (omega arith))
          (λ (q : RollingBack L m (journal L n cs)). give_line line marked e q) v.state;
      restart_accepted = λ z. (law.remade m (journal L n cs) v.present_is (recallable L n m (journal L n cs) v) z).accepts;
      restart_last = λ z. law.last_session m (journal L n cs) v.present_is (recallable L n m (journal L n cs) v) z;
    }
  where
    v : Invariant L n m (journal L n cs)
    v = run_invariant carded law r

    give_line : (line : Numbers) (marked : CardSet) → (journal L n cs).fix ≡ fixing line marked → RollingBack L m (journal L n cs) → RestartsTo C L n m line
    give_line line marked e q =
        let same : q.notes.line ≡ line = cc (e, q.notes.is_noted) in
        let e : Remade C L m = law.remade m (journal L n cs) v.present_is (recallable L n m (journal L n cs) v) q.rolls.session_left in
        record {
          accepted_so = e.accepts;
          same_line = λ c lw h. line_again L n m (C.restarted L (C.joined L m)) (journal L n cs) v.present_is v.absent_start (recallable L n m (journal L n cs) v) e.recalled c lw
              ∙ sym (q.notes.line_is_lem c lw ∙ (q.rolls.about (H (journal L n cs)) (λ i h. refl)).line_right c lw) ∙ ap (λ (f : Numbers). f c) same;
        }

-- throughout a list, whatever cards there are and however their sheets are written, so long as these say enough
throughout : (C : Codec) (L : Limits) (n : CardSet) → Carded L n → CodecLaw C L n → {cs : Calls} {m : Model} (r : Run C L n cs m) → Throughout r
throughout C L n carded law start = cabinet_right C L n carded law start
throughout C L n carded law (next r call) = (throughout C L n carded law r, call_right C L n carded law r call, cabinet_right C L n carded law (next r call))

-- demands 2 and 3
pub demands : (C : Codec) (L : Limits) (n : CardSet) → Carded L n → CodecLaw C L n → Demands C L n
demands C L n carded law cs m r = throughout C L n carded law r
