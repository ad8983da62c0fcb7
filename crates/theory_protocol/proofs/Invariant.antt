-- The invariant of whole lists of calls: a cabinet that runs or rolls back, with the journal beside it. Every call keeps it. Assumes nothing.
use Prim.Native.Nat.{ℕ, suc, ◌≤◌, ◌<◌}
use mathlib.Core.Path.{◌≡◌, refl, sym, ◌∙◌, ap, ap₂}
use mathlib.Core.Bool.{Bool, true, false, not, ◌&&◌, ◌||◌, cond}
use mathlib.Core.Logic.{◌⊎◌, inl, inr, ⊎_elim}
use mathlib.Core.List.{List, [], ◌∷◌}
use native.Mathlib.Nat.{le_trans}
use native.Mathlib.Omega.{arith}
use lib.Dec.{eqb, leb}
use lib.ListN.{length}
use borrow.Author.Tests.{leb-true, leb-false}
use Rattle.base_laws.proofs.Logic.{test, clash, fails, and_left, and_right, and_intro, cond_case}
use Rattle.base_laws.proofs.Below.{all_same}
use Rattle.theory_history.specs.Change.{CardSet, touches, writers, history_of}
use Rattle.theory_protocol.specs.Model.{Limits, Phase, up, down, rolling, is_up, is_down, is_rolling, OpenChange, Model, is_card, within, with_card, is_writing, slot_of}
use Rattle.theory_protocol.specs.Valid.{valid}
use Rattle.theory_protocol.specs.Edit.{Edit, place, begin, fix, edited, edited_all, lower, renew, fall}
use Rattle.theory_protocol.specs.Plan.{Answer, Reply, accepted, refused, Check, Plan, checked, after_plan, Passed}
use Rattle.theory_protocol.specs.Calls.{fresh_model, open_checks, open_plan, vote_checks, vote_plan, share_edit, took_share, take_checks, take_plan, withdraw_checks, withdraw_plan, store_checks, store_plan, begin_plan, end_checks, end_plan, trim_checks, trim_plan, safe_checks, safe_plan, lose_checks, lose_plan, fix_checks, fix_plan, card_rows, lines, roll_checks, roll_plan, all_rolled}
use Rattle.theory_protocol.specs.Journal.{Journal, Noted, asked, note_vote_on, unfixed, fixing, empty_journal, struck, note_open, note_vote, note_struck, note_store, note_lose, note_fix, note_roll}
use Rattle.theory_protocol.proofs.Running.{Running}
use Rattle.theory_protocol.proofs.Openings.{fresh_running}
use Rattle.theory_protocol.proofs.Running.{Carded}
use Rattle.theory_protocol.proofs.Stores.{absent_still}
use Rattle.theory_protocol.proofs.Writes.{Writes, writing_none, none_writes, rolling_none, grow_writes, keep_writes, begin_writes, end_writes}
use Rattle.theory_protocol.proofs.Validity.{running_valid}
use Rattle.theory_protocol.proofs.Rolling.{AboutLine, Rolling, LineNoted, rolling_valid, fix_rolls, fix_notes, lose_rolls, roll_rolls, renew_runs}
use Rattle.theory_protocol.proofs.Steps.{checked_case, noted, not_not, card_below, none_at, open_step, vote_step, withdraw_step, take_step, store_step, begin_step, end_step, trim_step, lose_step}

-- rolling back to the line that the journal noted
pub record RollingBack (L : Limits) (m : Model) (j : Journal) : Type 0 where
  pub rolls : Rolling L m j
  pub notes : LineNoted L m j

-- n is the set of cards of the fresh cabinet
pub record Invariant (L : Limits) (n : CardSet) (m : Model) (j : Journal) : Type 0 where
  pub present_is : (c : ℕ) → m.present c ≡ n c
  pub absent_start : (c : ℕ) → c < L.width → n c ≡ false → j.start c ≡ 0
  pub state : Running L m j ⊎ RollingBack L m j
  pub writes : Writes L m

pub fresh_invariant : (L : Limits) (n : CardSet) → Carded L n → Invariant L n (fresh_model n) empty_journal
fresh_invariant L n carded = record { present_is = λ c. refl; absent_start = λ c l h. refl; state = inl (fresh_running L n carded); writes = none_writes L (fresh_model n) (λ c l here. refl) }

-- no cabinet of a list is refused with 28
pub invariant_valid : (L : Limits) (n : CardSet) (m : Model) (j : Journal) → Invariant L n m j → valid L m ≡ true
invariant_valid L n m j v = ⊎_elim (λ (r : Running L m j). running_valid L m j r v.writes) (λ (r : RollingBack L m j). rolling_valid L m j r.rolls v.writes) v.state

rolling_not_up : (p : Phase) → is_rolling p ≡ true → is_up p ≡ false
rolling_not_up up e = clash e refl
rolling_not_up down e = clash e refl
rolling_not_up rolling e = refl

rolling_not_down : (p : Phase) → is_rolling p ≡ true → is_down p ≡ false
rolling_not_down up e = clash e refl
rolling_not_down down e = clash e refl
rolling_not_down rolling e = refl

-- the edits of a plan leave the cards that are there
abbrev SameCards : Limits → Model → Plan → Type 0
SameCards L m p = (c : ℕ) → (after_plan L p m).present c ≡ m.present c

module _ (L : Limits) (n : CardSet) (m : Model) (j : Journal) (v : Invariant L n m j) where
  abbrev Next : Journal → Plan → Type 0
  Next j' p = Invariant L n (after_plan L p m) (noted j j' p.reply)

  abbrev Back : Journal → Plan → Type 0
  Back j' p = RollingBack L (after_plan L p m) (noted j j' p.reply)

  same_start : (j' : Journal) → ((c : ℕ) → j'.start c ≡ j.start c) → (q : Reply) → (c : ℕ) → c < L.width → n c ≡ false → (noted j j' q).start c ≡ 0
  same_start j' e (accepted a) c l h = e c ∙ v.absent_start c l h
  same_start j' e (refused r) c l h = v.absent_start c l h

  abbrev Wrote : Plan → Type 0
  Wrote p = Writes L (after_plan L p m)

  -- a call that is accepted in phase up or down alone
  next : (j' : Journal) (p : Plan) → SameCards L m p → ((c : ℕ) → j'.start c ≡ j.start c) → Wrote p
      → (Running L m j → Running L (after_plan L p m) (noted j j' p.reply)) → (RollingBack L m j → Back j' p) → Next j' p
  next j' p cards start writes runs backs =
      record {
        present_is = λ c. cards c ∙ v.present_is c;
        absent_start = same_start j' start p.reply;
        state = ⊎_elim (λ (r : Running L m j). inl (runs r)) (λ (r : RollingBack L m j). inr (backs r)) v.state;
        writes = writes;
      }

  -- refused while rolling
  refused_back : (j' : Journal) (cs : List Check) (a : Answer) (es : List Edit) → RollingBack L m j → (Passed cs → is_rolling m.phase ≡ false) → Back j' (checked cs a es)
  refused_back j' cs a es r f = checked_case (Back j') cs a es (λ x. r) (λ ps. clash r.rolls.is_rolling_lem (f ps))

  not_rolling_up : is_up m.phase ≡ true → is_rolling m.phase ≡ false
  not_rolling_up e = fails (is_rolling m.phase) (λ z. clash e (rolling_not_up m.phase z))

  pub next_open : (reads writes : CardSet) → Next (note_open j (suc m.latest) reads writes) (open_plan L m reads writes)
  next_open reads writes =
      next (note_open j (suc m.latest) reads writes) (open_plan L m reads writes)
      (checked_case (SameCards L m) (open_checks L m reads writes) _ _ (λ x c. refl) (λ ps c. refl)) (λ c. refl)
      (checked_case Wrote (open_checks L m reads writes) _ _ (λ x. v.writes) (λ ps. v.writes))
      (λ r. open_step L m j r reads writes)
      (λ r. refused_back (note_open j (suc m.latest) reads writes) (open_checks L m reads writes) _ _ r (λ ps. not_rolling_up (not_not (is_up m.phase) ps.1.1.1.0)))

  vote_start : (k c : ℕ) (agrees : Bool) (i : ℕ) → (note_vote L j k c agrees).start i ≡ j.start i
  vote_start k c true i = on (j.undecided k)
    where
      on : (x : Noted) → (note_vote_on L j k c x).start i ≡ j.start i
      on struck = refl
      on (asked t votes) = cond_case (λ (y : Journal). y.start i ≡ j.start i) (within L (touches t) (with_card votes c)) (λ e. refl) (λ e. refl)
  vote_start k c false i = refl

  pub next_vote : (k c : ℕ) (agrees : Bool) → Next (note_vote L j k c agrees) (vote_plan L m k c agrees)
  next_vote k c agrees =
      next (note_vote L j k c agrees) (vote_plan L m k c agrees)
      (checked_case (SameCards L m) (vote_checks L m k c) _ _ (λ x i. refl) (λ ps i. refl)) (vote_start k c agrees)
      (checked_case Wrote (vote_checks L m k c) _ _ (λ x. v.writes) (λ ps. v.writes))
      (λ r. vote_step L m j r k c agrees)
      (λ r. refused_back (note_vote L j k c agrees) (vote_checks L m k c) _ _ r (λ ps. not_rolling_up (not_not (is_up m.phase) ps.1.1.0)))

  pub next_withdraw : (k : ℕ) → Next (note_struck j k) (withdraw_plan L m k)
  next_withdraw k =
      next (note_struck j k) (withdraw_plan L m k)
      (checked_case (SameCards L m) (withdraw_checks L m k) _ _ (λ x i. refl) (λ ps i. refl)) (λ c. refl)
      (checked_case Wrote (withdraw_checks L m k) _ _ (λ x. v.writes) (λ ps. v.writes))
      (λ r. withdraw_step L m j r k)
      (λ r. refused_back (note_struck j k) (withdraw_checks L m k) _ _ r (λ ps. not_rolling_up (not_not (is_up m.phase) ps.1.0)))

  pub next_take : (k c : ℕ) → Next j (take_plan L m k c)
  next_take k c =
      next j (take_plan L m k c)
      (checked_case (SameCards L m) (take_checks L m k c) _ _ (λ x i. refl)
      (λ ps i. share (m.slot (slot_of L m k)) i)) (λ i. refl)
      (checked_case Wrote (take_checks L m k c) _ _ (λ x. v.writes) (λ ps. shared (m.slot (slot_of L m k))))
      (λ r. take_step L m j r k c)
      (λ r. refused_back j (take_checks L m k c) _ _ r (λ ps. not_rolling_up (not_not (is_up m.phase) ps.1.1.0)))
    where
      share : (o : OpenChange) (i : ℕ) → (edited_all L (share_edit o c ∷ place (slot_of L m k) (took_share L o c) ∷ []) m).present i ≡ m.present i
      share o i = cond_case (λ (e : Edit). (edited L e m).present i ≡ m.present i) (o.change.writes c) (λ e. refl) (λ e. refl)

      shared : (o : OpenChange) → Writes L (edited_all L (share_edit o c ∷ place (slot_of L m k) (took_share L o c) ∷ []) m)
      shared o =
          cond_case (λ (e : Edit). Writes L (edited L (place (slot_of L m k) (took_share L o c)) (edited L e m))) (o.change.writes c)
          (λ e. grow_writes L m c o.change.number o.vector v.writes) (λ e. v.writes)

  pub next_store : (c s : ℕ) → Next (note_store j c s) (store_plan L m c s)
  next_store c s =
      next (note_store j c s) (store_plan L m c s)
      (checked_case (SameCards L m) (store_checks L m c s) _ _ (λ x i. refl) (λ ps i. refl)) (λ i. refl)
      (checked_case Wrote (store_checks L m c s) _ _ (λ x. v.writes) (λ ps. keep_writes L m c s (writing_none m c ps.1.1.1.1.0) v.writes))
      (λ r. store_step L m j r c s)
      (λ r. refused_back (note_store j c s) (store_checks L m c s) _ _ r (λ ps. ps.1.1.0))

  pub next_begin : (c s : ℕ) → Next j (begin_plan L m c s)
  next_begin c s =
      next j (begin_plan L m c s)
      (checked_case (SameCards L m) (store_checks L m c s) _ _ (λ x i. refl) (λ ps i. refl)) (λ i. refl)
      (checked_case Wrote (store_checks L m c s) _ _ (λ x. v.writes) (λ ps. begun (not_not (is_card L m c) ps.1.0) ps.1.1.0 (not_not (leb (m.numbers.stored c) s && leb s (m.numbers.held c)) ps.1.1.1.0)))
      (λ r. begin_step L m j r c s)
      (λ r. refused_back j (store_checks L m c s) _ _ r (λ ps. ps.1.1.0))
    where
      begun : is_card L m c ≡ true → is_rolling m.phase ≡ false → leb (m.numbers.stored c) s && leb s (m.numbers.held c) ≡ true → Writes L (edited L (begin c s) m)
      begun here not_rolling range =
          begin_writes L m c s not_rolling (leb-true (m.numbers.stored c) s (and_left (leb (m.numbers.stored c) s) (leb s (m.numbers.held c)) range))
          (le_trans (leb-true s (m.numbers.held c) (and_right (leb (m.numbers.stored c) s) (leb s (m.numbers.held c)) range)) held_reached) v.writes
        where
          held_reached : m.numbers.held c ≤ m.numbers.reached c
          held_reached =
              ⊎_elim (λ (r : Running L m j). r.ranges.held_reached c (card_below L m c here)) (λ (r : RollingBack L m j). r.rolls.held_reached c (card_below L m c here)) v.state

  pub next_end : (c x : ℕ) → Next (note_store j c x) (end_plan L m c x)
  next_end c x =
      next (note_store j c x) (end_plan L m c x)
      (checked_case (SameCards L m) (end_checks L m c x) _ _ (λ z i. refl) (λ ps i. refl)) (λ i. refl)
      (checked_case Wrote (end_checks L m c x) _ _ (λ z. v.writes) (λ ps. end_writes L m c x v.writes))
      (λ r. end_step L m j r v.writes c x)
      (λ r. refused_back (note_store j c x) (end_checks L m c x) _ _ r (λ ps. ps.1.1.0))

  pub next_trim : Next j (trim_plan L m)
  next_trim =
      next j (trim_plan L m)
      (checked_case (SameCards L m) (trim_checks L m) _ _ (λ x i. refl) (λ ps i. refl)) (λ i. refl)
      (checked_case Wrote (trim_checks L m) _ _ (λ x. v.writes) (λ ps. v.writes))
      (λ r. trim_step L m j r)
      (λ r. refused_back j (trim_checks L m) _ _ r (λ ps. not_rolling_up (not_not (is_up m.phase) ps.1.0)))

  pub next_safe : (k : ℕ) → Next j (safe_plan L m k)
  next_safe k = checked_case (Next j) (safe_checks L m k) _ _ (λ x. v) (λ ps. v)

  pub next_lose : (cards : CardSet) → Next (note_lose j) (lose_plan L m cards)
  next_lose cards =
      next (note_lose j) (lose_plan L m cards)
      (checked_case (SameCards L m) (lose_checks L m cards) _ _ (λ x i. refl)
      (λ ps i. cond_case (λ (es : List Edit). (edited_all L (fall cards ∷ es) m).present i ≡ m.present i) (is_up m.phase) (λ e. refl) (λ e. refl))) (λ i. refl)
      (checked_case Wrote (lose_checks L m cards) _ _ (λ x. v.writes)
      (λ ps. cond_case (λ (es : List Edit). Writes L (edited_all L (fall cards ∷ es) m)) (is_up m.phase) (λ e c l here ne. let w : _ = v.writes c l here ne in (refl, w.1, w.2)) (λ e. v.writes)))
      (λ r. lose_step L m j r cards)
      (λ r. checked_case (Back (note_lose j)) (lose_checks L m cards) _ _ (λ x. r) (λ ps. rw (rolling_not_up m.phase r.rolls.is_rolling_lem) (lost r)))
    where
      lost : RollingBack L m j → RollingBack L (edited_all L (fall cards ∷ []) m) (note_lose j)
      lost r =
          record {
            rolls = lose_rolls L m j r.rolls cards (λ k. struck);
            notes = record { line = r.notes.line; marked = r.notes.marked; is_noted = r.notes.is_noted; line_is_lem = r.notes.line_is_lem; marked_is = r.notes.marked_is };
          }

  pub next_fix : (card_places lost_places : ℕ) → Next (note_fix j (card_rows L m)) (fix_plan L m card_places lost_places)
  next_fix card_places lost_places =
      record {
        present_is = λ c. checked_case (SameCards L m) cs _ _ (λ x i. refl) (λ ps i. refl) c ∙ v.present_is c;
        absent_start = same_start (note_fix j (card_rows L m)) (λ c. refl) (fix_plan L m card_places lost_places).reply;
        state = checked_case (λ (p : Plan). Running L (after_plan L p m) (noted j (note_fix j (card_rows L m)) p.reply) ⊎ RollingBack L (after_plan L p m) (noted j (note_fix j (card_rows L m)) p.reply)) cs _ _ (λ x. v.state)
            (λ ps. inr (fixes (not_not (is_down m.phase) ps.1.0) (leb-false L.greatest_number m.session ps.1.1.0)));
        writes = checked_case Wrote cs _ _ (λ x. v.writes)
            (λ ps. none_writes L (edited_all L (fix (lines L m) ∷ []) m)
            (λ c l here. writing_none m c (fails (is_writing m c) (λ z. clash (and_intro here z) (none_at L.width (λ d. m.present d && is_writing m d) ps.1.1.1.0 c l)))));
      }
    where
      cs : List Check
      cs = fix_checks L m card_places lost_places

      fixes : is_down m.phase ≡ true → m.session < L.greatest_number → RollingBack L (edited_all L (fix (lines L m) ∷ []) m) (note_fix j (card_rows L m))
      fixes d s =
          ⊎_elim (λ (r : Running L m j). record { rolls = fix_rolls L m j r d s; notes = fix_notes L m j r })
          (λ (r : RollingBack L m j). clash d (rolling_not_down m.phase r.rolls.is_rolling_lem)) v.state

  -- ---- roll
  module _ (c : ℕ) (l : c < L.width) (r : RollingBack L m j) where
    abbrev cards : CardSet
    cards = n

    same_left : within L cards (with_card r.notes.marked c) ≡ within L m.present (with_card m.rolled c)
    same_left =
        all_same L.width (λ i. not (cards i) || with_card r.notes.marked c i) (λ i. not (m.present i) || with_card m.rolled c i)
        (λ i li. test (m.present i)
        (λ here. ap₂ (λ (a b : Bool). not a || (eqb i c || b)) (sym (v.present_is i)) (r.notes.marked_is i li here))
        (λ e. rw (e, sym (v.present_is i) ∙ e)))

    -- the line of a card that is not there is its start number, 0
    absent_zero : (i : ℕ) → i < L.width → n i ≡ false → r.notes.line i ≡ 0
    absent_zero i li h =
        let a : AboutLine L m j.start (length j.history) j.stored m.line (history_of j.history) = r.rolls.about (history_of j.history) (λ x y. refl) in
        let z : writers (history_of j.history) i (length j.history) ≡ 0 = absent_still L m j.start (length j.history) (history_of j.history) a.there i li (v.present_is i ∙ h) in
        omega
        (arith, z, r.notes.line_is_lem i li, a.line_right i li, a.intact.line_stored i li, a.intact.stored_reached i li, a.intact.reached_top i li, v.absent_start i li h)

    abbrev marking : Journal
    marking = record { start = j.start; stored = j.stored; undecided = j.undecided; history = j.history; fix = fixing r.notes.line (with_card r.notes.marked c) }

    abbrev beginning : Journal
    beginning = record { start = r.notes.line; stored = r.notes.line; undecided = j.undecided; history = []; fix = unfixed }

    rolls_on : within L m.present (with_card m.rolled c) ≡ false → RollingBack L (edited_all L (lower c ∷ []) m) marking
    rolls_on e =
        record {
          rolls = roll_rolls L m j r.rolls c l (fixing r.notes.line (with_card r.notes.marked c)) e;
          notes =
              record {
                line = r.notes.line;
                marked = with_card r.notes.marked c;
                is_noted = refl;
                line_is_lem = r.notes.line_is_lem;
                marked_is = λ i li here. ap (λ (b : Bool). eqb i c || b) (r.notes.marked_is i li here);
              };
        }

    -- no write runs while it rolls back, nor after the last roll
    none_running : (d : ℕ) → d < L.width → m.present d ≡ true → m.writing d ≡ 0
    none_running = rolling_none L m v.writes r.rolls.is_rolling_lem

    rolled : Invariant L n (edited_all L (lower c ∷ cond (all_rolled L m (with_card m.rolled c)) (renew ∷ []) []) m) (note_roll L cards j c)
    rolled = rw (r.notes.is_noted, same_left) (test (within L m.present (with_card m.rolled c)) last (λ e. rw e (record { present_is = v.present_is; absent_start = v.absent_start; state = inr (rolls_on e); writes = none_writes L (edited_all L (lower c ∷ []) m) none_running })))
      where
        last : within L m.present (with_card m.rolled c) ≡ true
            → Invariant L n (edited_all L (lower c ∷ cond (within L m.present (with_card m.rolled c)) (renew ∷ []) []) m) (cond (within L m.present (with_card m.rolled c)) beginning marking)
        last e = rw e (record { present_is = v.present_is; absent_start = absent_zero; state = inl (renew_runs L m j r.rolls c l r.notes e); writes = none_writes L (edited_all L (lower c ∷ renew ∷ []) m) none_running })

  pub next_roll : (c : ℕ) → Next (note_roll L n j c) (roll_plan L m c)
  next_roll c =
      checked_case (Next (note_roll L n j c)) (roll_checks L m c) _ _ (λ x. v)
      (λ ps. ⊎_elim (λ (r : Running L m j). clash (not_not (is_rolling m.phase) ps.1.1.0) r.not_rolling)
      (λ (r : RollingBack L m j). rolled c (card_below L m c (not_not (is_card L m c) ps.1.0)) r) v.state)
