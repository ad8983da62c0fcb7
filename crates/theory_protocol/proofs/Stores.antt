-- Store with its beginning and its end, trim and lose keep the invariant; the line that the cabinet works out is the line of the history. Assumes nothing.
use Prim.Native.Nat.{ℕ, suc, max, ◌+◌, ◌≤◌, ◌<◌}
use mathlib.Core.Path.{◌≡◌, refl, sym, ◌∙◌, ap}
use mathlib.Core.Bool.{true, false, not, ◌&&◌, cond}
use mathlib.Core.Logic.{by_cases}
use mathlib.Core.List.{[], ◌∷◌}
use native.Mathlib.Nat.{le_refl, le_trans, le_antisymm}
use native.Mathlib.Decide.{dec_lt, ℕ_discrete}
use native.Mathlib.Omega.{arith}
use lib.Dec.{eqb}
use lib.ListN.{length}
use borrow.Author.Tests.{lt-ltb}
use Rattle.base_laws.proofs.Logic.{test, clash, and_left, and_right, and_intro, cond_case, not_true, not_intro}
use Rattle.base_laws.proofs.Below.{Found, any_elim, any_intro}
use Rattle.theory_history.specs.Change.{CardSet, Change, History, Numbers, touches, writers, made, history_of}
use Rattle.theory_history.specs.Vector.{state_vector}
use Rattle.theory_history.proofs.Writers.{Maker, maker}
use Rattle.theory_history.proofs.Precedence.{writes_touches}
use Rattle.theory_history.proofs.Entries.{state_vector_is}
use Rattle.theory_history.proofs.Lines.{line_is_lem, line_cut}
use Rattle.theory_protocol.specs.Model.{Limits, Phase, up, down, rolling, is_up, is_down, Model, is_open, decided, to_write, awaits_write}
use Rattle.theory_protocol.specs.Edit.{put, with_numbers, with_writing, keep, begin, end, rebase, fall, halt, remembered, edited_all}
use Rattle.theory_protocol.specs.Calls.{recovery_line, lines}
use Rattle.theory_protocol.specs.Journal.{Journal, note_store, note_lose}
use Rattle.theory_protocol.proofs.Taking.{Took, put_same, put_other, put_case}
use Rattle.theory_protocol.proofs.Intact.{Intact, line_at, bridge, based_line, line_based}
use Rattle.theory_protocol.proofs.Places.{Opened, Stood}
use Rattle.theory_protocol.proofs.Running.{StandsFor, Remembers, Unfinished, About, Running}

-- what the invariant says of the history speaks neither of stored nor of held numbers, nor of running writes
about_again : {L : Limits} {m : Model} {start : Numbers} {n : ℕ} {took : Took} {at : ℕ → ℕ} {H : History} (stored held writing : Numbers) → About L m start n took at H
    → About L (with_writing (with_numbers m (record { base = m.numbers.base; stored = stored; held = held; reached = m.numbers.reached }) m.memory) writing) start n took at H
about_again stored held writing a =
    record {
      orderly = a.orderly;
      levels = a.levels;
      tracks = a.tracks;
      framed = a.framed;
      based = a.based;
      numbered = a.numbered;
      bounded = a.bounded;
      there = a.there;
      standing = a.standing;
      open_untaken = a.open_untaken;
      ended_untaken = a.ended_untaken;
      ended_real = a.ended_real;
    }

-- ---- store, its beginning and its end
-- other stored and held numbers within base and reached, and other running writes
numbers_keep : (L : Limits) (m : Model) (j : Journal) → Running L m j → (noted stored held writing : Numbers)
    → ((c : ℕ) → c < L.width → noted c ≡ stored c) → ((c : ℕ) → c < L.width → m.numbers.base c ≤ stored c) → ((c : ℕ) → c < L.width → stored c ≤ held c)
    → ((c : ℕ) → c < L.width → held c ≤ m.numbers.reached c) → (is_up m.phase ≡ true → (c : ℕ) → c < L.width → held c ≡ m.numbers.reached c)
    → Running L (with_writing (with_numbers m (record { base = m.numbers.base; stored = stored; held = held; reached = m.numbers.reached }) m.memory) writing)
    (record { start = j.start; stored = noted; undecided = j.undecided; history = j.history; fix = j.fix })
numbers_keep L m j r noted stored held writing same low middle high all =
    record {
      took = r.took;
      at = r.at;
      not_rolling = r.not_rolling;
      session_given = r.session_given;
      session_fits = r.session_fits;
      count_given = r.count_given;
      carded = r.carded;
      ranges = record { from_start = r.ranges.from_start; base_stored = low; stored_held = middle; held_reached = high; in_hand_lem = r.ranges.in_hand_lem; all_held = all };
      stored_is = same;
      not_fixed = r.not_fixed;
      slots_open = r.slots_open;
      slots_down = r.slots_down;
      about = λ H agree. about_again stored held writing (r.about H agree);
    }

-- a number that a card has stored, in the journal and in the cabinet
stored_alike : (L : Limits) (m : Model) (j : Journal) → Running L m j → (c s d : ℕ) → d < L.width → put j.stored c s d ≡ put m.numbers.stored c s d
stored_alike L m j r c s d ld = ap (λ (x : ℕ). cond (eqb d c) s x) (r.stored_is d ld)

-- and it is not below base
stored_low : (L : Limits) (m : Model) (j : Journal) → Running L m j → (c s : ℕ) → c < L.width → m.numbers.stored c ≤ s → (d : ℕ) → d < L.width → m.numbers.base d ≤ put m.numbers.stored c s d
stored_low L m j r c s l low d ld = put_case (λ y x. m.numbers.base y ≤ x) m.numbers.stored c s d (λ (q : d ≡ c). rw q (le_trans (r.ranges.base_stored c l) low)) (λ q. r.ranges.base_stored d ld)

pub store_keeps : (L : Limits) (m : Model) (j : Journal) → Running L m j → (c s : ℕ) → c < L.width → m.numbers.stored c ≤ s → s ≤ m.numbers.held c
    → Running L (edited_all L (keep c s ∷ []) m) (note_store j c s)
store_keeps L m j r c s l low high =
    numbers_keep L m j r (put j.stored c s) (put m.numbers.stored c s) m.numbers.held m.writing (stored_alike L m j r c s) (stored_low L m j r c s l low)
    (λ d ld. put_case (λ y x. x ≤ m.numbers.held y) m.numbers.stored c s d (λ (q : d ≡ c). rw q high) (λ q. r.ranges.stored_held d ld))
    r.ranges.held_reached r.ranges.all_held

pub begin_keeps : (L : Limits) (m : Model) (j : Journal) → Running L m j → (c s : ℕ) → Running L (edited_all L (begin c s ∷ []) m) j
begin_keeps L m j r c s =
    numbers_keep L m j r j.stored m.numbers.stored m.numbers.held (put m.writing c (suc s)) r.stored_is r.ranges.base_stored r.ranges.stored_held r.ranges.held_reached r.ranges.all_held

-- the number reported is stored, and held at least
pub end_keeps : (L : Limits) (m : Model) (j : Journal) → Running L m j → (c x : ℕ) → c < L.width → m.numbers.stored c ≤ x → x ≤ m.numbers.reached c
    → Running L (edited_all L (end c x ∷ []) m) (note_store j c x)
end_keeps L m j r c x l low high =
    numbers_keep L m j r (put j.stored c x) (put m.numbers.stored c x) (put m.numbers.held c raised) (put m.writing c 0) (stored_alike L m j r c x) (stored_low L m j r c x l low)
    (λ d ld. by_cases (ℕ_discrete d c) (λ (q : d ≡ c). rw (q, put_same m.numbers.stored c x, put_same m.numbers.held c raised) (omega arith))
    (λ q. rw (put_other m.numbers.stored c x d q, put_other m.numbers.held c raised d q) (r.ranges.stored_held d ld)))
    (λ d ld. put_case (λ y z. z ≤ m.numbers.reached y) m.numbers.held c raised d (λ (q : d ≡ c). rw q (within (r.ranges.held_reached c l))) (λ q. r.ranges.held_reached d ld))
    (λ u d ld. put_case (λ y z. z ≡ m.numbers.reached y) m.numbers.held c raised d (λ (q : d ≡ c). rw q (same (r.ranges.all_held u c l))) (λ q. r.ranges.all_held u d ld))
  where
    raised : ℕ
    raised = max (m.numbers.held c) x

    within : m.numbers.held c ≤ m.numbers.reached c → max (m.numbers.held c) x ≤ m.numbers.reached c
    within h = omega arith

    same : m.numbers.held c ≡ m.numbers.reached c → max (m.numbers.held c) x ≡ m.numbers.reached c
    same h = omega arith

-- ---- the line of the cabinet
module _ (L : Limits) (m : Model) (j : Journal) (r : Running L m j) (H : History) (a : About L m j.start (length j.history) r.took r.at H) where
  abbrev n : ℕ
  n = length j.history

  stored_reached : (c : ℕ) → c < L.width → m.numbers.stored c ≤ m.numbers.reached c
  stored_reached c l = le_trans (r.ranges.stored_held c l) (r.ranges.held_reached c l)

  pub start_stored : (c : ℕ) → c < L.width → j.start c ≤ m.numbers.stored c
  start_stored c l = le_trans (r.ranges.from_start c l) (r.ranges.base_stored c l)

  pub line_below : (c : ℕ) → c < L.width → line_at L.width H j.start n m.numbers.stored c ≤ m.numbers.stored c
  line_below c l =
      (line_cut L.width H j.start n (state_vector L.width H j.start n) (state_vector_is L.width H j.start n) m.numbers.stored start_stored).within c l

  pub intact : Intact L.width H j.start n m.numbers.stored m.numbers.base m.numbers.stored m.numbers.reached m.memory.frame
  intact =
      record {
        from_start = r.ranges.from_start;
        base_line = based_line L.width H j.start n a.based (λ c l. le_trans (r.ranges.base_stored c l) (le_trans (stored_reached c l) (a.levels.high c l))) r.ranges.base_stored;
        line_stored = line_below;
        stored_least = λ c l. le_refl (m.numbers.stored c);
        stored_reached = stored_reached;
        reached_top = a.levels.high;
        vectors = a.framed.vector_is_lem;
      }

  -- the line that the cabinet works out is the line of the history
  pub line_right : (c : ℕ) → c < L.width → recovery_line L m c ≡ line_at L.width H j.start n m.numbers.stored c
  line_right c l = bridge L.width H j.start n intact c l

-- a card that is not there has no writers, and its numbers are its start number
pub absent_still : (L : Limits) (m : Model) (start : Numbers) (n : ℕ) (H : History) → ((i c : ℕ) → i < n → c < L.width → touches (H i) c ≡ true → m.present c ≡ true)
    → (c : ℕ) → c < L.width → m.present c ≡ false → writers H c n ≡ 0
absent_still L m start n H there c l e =
    by_cases (dec_lt 0 (writers H c n)) (λ z. let k : Maker H start n c (start c + writers H c n) = maker H start n c (start c + writers H c n) (omega arith) (le_refl (start c + writers H c n)) in
    clash (there k.at c k.in_history l (writes_touches (H k.at) c k.wrote)) e) (λ z. omega (arith, z))

module _ (L : Limits) (m : Model) (j : Journal) (r : Running L m j) where
  -- the numbers of the line, for all cards below the width
  pub lines_right : (H : History) → About L m j.start (length j.history) r.took r.at H
      → (c : ℕ) → c < L.width → lines L m c ≡ line_at L.width H j.start (length j.history) m.numbers.stored c
  lines_right H a c l =
      test (m.present c) (λ e. rw (lt-ltb c L.width l, e) (line_right L m j r H a c l))
      (λ e. rw (lt-ltb c L.width l, e) (le_antisymm ((intact L m j r H a).base_line c l) (still e)))
    where
      still : m.present c ≡ false → line_at L.width H j.start (length j.history) m.numbers.stored c ≤ m.numbers.base c
      still e =
          omega (
            arith,
            (line_is_lem L.width H j.start (length j.history) (state_vector L.width H j.start (length j.history)) (state_vector_is L.width H j.start (length j.history)) m.numbers.stored c).to_top,
            absent_still L m j.start (length j.history) H a.there c l e,
            r.ranges.from_start c l,
          )

  -- ---- trim
  abbrev bases : Numbers
  bases = lines L m

  abbrev H₀ : History
  H₀ = history_of j.history

  about₀ : About L m j.start (length j.history) r.took r.at H₀
  about₀ = r.about H₀ (λ i h. refl)

  base_rises : (c : ℕ) → c < L.width → m.numbers.base c ≤ bases c
  base_rises c l = rw (lines_right H₀ about₀ c l) ((intact L m j r H₀ about₀).base_line c l)

  base_below : (c : ℕ) → c < L.width → bases c ≤ m.numbers.stored c
  base_below c l = rw (lines_right H₀ about₀ c l) (line_below L m j r H₀ about₀ c l)

  pub trim_keeps : Running L (edited_all L (rebase bases ∷ []) m) j
  trim_keeps =
      record {
        took = r.took;
        at = r.at;
        not_rolling = r.not_rolling;
        session_given = r.session_given;
        session_fits = r.session_fits;
        count_given = r.count_given;
        carded = r.carded;
        ranges =
            record {
              from_start = λ c l. le_trans (r.ranges.from_start c l) (base_rises c l);
              base_stored = base_below;
              stored_held = r.ranges.stored_held;
              held_reached = r.ranges.held_reached;
              in_hand_lem = λ c l. omega (arith, r.ranges.in_hand_lem c l, base_rises c l);
              all_held = r.ranges.all_held;
            };
        stored_is = r.stored_is;
        not_fixed = r.not_fixed;
        slots_open =
            record {
              opened = λ p l e. let o : Opened L m.present m.numbers.base m.numbers.reached m.latest (m.slot p) = r.slots_open.opened p l e in
                  record { given = o.given; there = o.there; room = λ c lc tw. (omega (arith, (o.room c lc tw).0, base_rises c lc), (o.room c lc tw).1) };
              noted = r.slots_open.noted;
              apart = r.slots_open.apart;
              strangers = r.slots_open.strangers;
            };
        slots_down = r.slots_down;
        about = λ H agree. new H (r.about H agree);
      }
    where
      new : (H : History) → About L m j.start (length j.history) r.took r.at H → About L (edited_all L (rebase bases ∷ []) m) j.start (length j.history) r.took r.at H
      new H a =
          record {
            orderly = a.orderly;
            levels = a.levels;
            tracks = a.tracks;
            framed =
                record {
                  number_is = λ i c h l e y z. rw (lt-ltb (bases c) (made H j.start i c) y) (a.framed.number_is i c h l e (omega (arith, base_rises c l, y)) z);
                  vector_is_lem = λ i c k h l lk e y z. rw (lt-ltb (bases c) (made H j.start i c) y) (a.framed.vector_is_lem i c k h l lk e (omega (arith, base_rises c l, y)) z);
                };
            based =
                record {
                  cut = λ i c k h l lk e z. rw (lines_right H a k lk) ((line_based L.width H j.start (length j.history) m.numbers.stored).cut i c k h l lk e (rw (lines_right H a c l) at z));
                };
            numbered = a.numbered;
            bounded = a.bounded;
            there = a.there;
            standing = a.standing;
            open_untaken = a.open_untaken;
            ended_untaken = a.ended_untaken;
            ended_real = a.ended_real;
          }

-- ---- lose
pub not_up : (p : Phase) → is_down p ≡ true → is_up p ≡ false
not_up up e = clash e refl
not_up down e = refl
not_up rolling e = refl

module _ (L : Limits) (m : Model) (j : Journal) (r : Running L m j) (cards : CardSet) where
  abbrev fallen : Numbers
  fallen c = cond (cards c) (m.numbers.stored c) (m.numbers.held c)

  stored_fallen : (c : ℕ) → c < L.width → m.numbers.stored c ≤ fallen c
  stored_fallen c l = cond_case (λ x. m.numbers.stored c ≤ x) (cards c) (λ e. le_refl (m.numbers.stored c)) (λ e. r.ranges.stored_held c l)

  fallen_reached : (c : ℕ) → c < L.width → fallen c ≤ m.numbers.reached c
  fallen_reached c l =
      cond_case (λ x. x ≤ m.numbers.reached c) (cards c) (λ e. le_trans (r.ranges.stored_held c l) (r.ranges.held_reached c l)) (λ e. r.ranges.held_reached c l)

  -- in phase down only held falls
  pub lose_down_keeps : is_down m.phase ≡ true → Running L (edited_all L (fall cards ∷ []) m) (note_lose j)
  lose_down_keeps is_down_lem =
      record {
        took = r.took;
        at = r.at;
        not_rolling = r.not_rolling;
        session_given = r.session_given;
        session_fits = r.session_fits;
        count_given = r.count_given;
        carded = r.carded;
        ranges =
            record {
              from_start = r.ranges.from_start;
              base_stored = r.ranges.base_stored;
              stored_held = stored_fallen;
              held_reached = fallen_reached;
              in_hand_lem = r.ranges.in_hand_lem;
              all_held = λ u. clash u (not_up m.phase is_down_lem);
            };
        stored_is = r.stored_is;
        not_fixed = r.not_fixed;
        slots_open =
            record {
              opened = r.slots_open.opened;
              noted = λ p l e. clash e (r.slots_down is_down_lem p l);
              apart = r.slots_open.apart;
              strangers = r.slots_open.strangers;
            };
        slots_down = r.slots_down;
        about = λ H agree. about_again m.numbers.stored fallen m.writing (r.about H agree);
      }

  -- from up the open changes end, and the decided ones with a written share untaken are remembered
  module _ (is_up_lem : is_up m.phase ≡ true) (H : History) (a : About L m j.start (length j.history) r.took r.at H) where
    remembered_number : (i c : ℕ) → i < length j.history → c < L.width → (H i).writes c ≡ true → r.took i c ≡ false → Remembers L (λ p. remembered L (m.slot p)) (H i).number
    remembered_number i c h l e z =
        let s : StandsFor L m.slot r.at i = a.open_untaken is_up_lem i c h l (writes_touches (H i) c e) z in
        let st : Stood L.width H j.start (length j.history) r.took (m.slot s.p) (r.at s.p) = a.standing.stood s.p s.is_slot s.is_open_lem s.is_decided in
        let same : H i ≡ (m.slot s.p).change = ap H (sym s.is_at) ∙ st.change_is in
        let nt : (m.slot s.p).taken c ≡ false = sym (st.taken_is c l) ∙ ap (λ (k : ℕ). r.took k c) s.is_at ∙ z in
        let tw : to_write (m.slot s.p) c ≡ true = and_intro (rw same at e) (not_intro nt) in
        let aw : awaits_write L (m.slot s.p) ≡ true = any_intro L.width (to_write (m.slot s.p)) c l tw in
        record { p = s.p; is_slot = s.is_slot; is_number = rw (and_intro (and_intro s.is_open_lem s.is_decided) aw) (sym (ap (λ (t : Change). t.number) same)) }

    remembered_real : (p : ℕ) → p < L.slots → ¬ (remembered L (m.slot p) ≡ 0) → Unfinished L.width H (length j.history) r.took (remembered L (m.slot p))
    remembered_real p l ne =
        test (is_open (m.slot p) && decided L (m.slot p) && awaits_write L (m.slot p)) real (λ z. absurd (ne (rw z)))
      where
        real : is_open (m.slot p) && decided L (m.slot p) && awaits_write L (m.slot p) ≡ true → Unfinished L.width H (length j.history) r.took (remembered L (m.slot p))
        real z =
            let od : is_open (m.slot p) && decided L (m.slot p) ≡ true = and_left (is_open (m.slot p) && decided L (m.slot p)) (awaits_write L (m.slot p)) z in
            let st : Stood L.width H j.start (length j.history) r.took (m.slot p) (r.at p) = a.standing.stood p l (and_left (is_open (m.slot p)) (decided L (m.slot p)) od) (and_right (is_open (m.slot p)) (decided L (m.slot p)) od) in
            let f : Found L.width (to_write (m.slot p)) = any_elim L.width (to_write (m.slot p)) (and_right (is_open (m.slot p) && decided L (m.slot p)) (awaits_write L (m.slot p)) z) in
            record {
              i = r.at p;
              in_history = st.in_history;
              c = f.0;
              is_card_lem = f.1;
              wrote = ap (λ (t : Change). t.writes f.0) st.change_is ∙ and_left ((m.slot p).change.writes f.0) (not ((m.slot p).taken f.0)) f.2;
              untaken = st.taken_is f.0 f.1 ∙ not_true ((m.slot p).taken f.0) (and_right ((m.slot p).change.writes f.0) (not ((m.slot p).taken f.0)) f.2);
              is_number = ap (λ (t : Change). t.number) st.change_is ∙ rw z;
            }

  pub lose_up_keeps : is_up m.phase ≡ true → Running L (edited_all L (fall cards ∷ halt ∷ []) m) (note_lose j)
  lose_up_keeps is_up_lem =
      record {
        took = r.took;
        at = r.at;
        not_rolling = refl;
        session_given = r.session_given;
        session_fits = r.session_fits;
        count_given = r.count_given;
        carded = r.carded;
        ranges =
            record {
              from_start = r.ranges.from_start;
              base_stored = r.ranges.base_stored;
              stored_held = stored_fallen;
              held_reached = fallen_reached;
              in_hand_lem = r.ranges.in_hand_lem;
              all_held = λ u. clash u refl;
            };
        stored_is = r.stored_is;
        not_fixed = r.not_fixed;
        slots_open =
            record { opened = λ p l e. clash e refl; noted = λ p l e. clash e refl; apart = λ p q l k d e. clash e refl; strangers = λ p q c l k h d e. clash e refl };
        slots_down = λ d p l. refl;
        about = λ H agree. let a : About L m j.start (length j.history) r.took r.at H = r.about H agree in
            record {
              orderly = a.orderly;
              levels = a.levels;
              tracks = a.tracks;
              framed = a.framed;
              based = a.based;
              numbered = a.numbered;
              bounded = a.bounded;
              there = a.there;
              standing = record { stood = λ p l e. clash e refl; waits = λ p l e. clash e refl };
              open_untaken = λ u. clash u refl;
              ended_untaken = λ d. remembered_number is_up_lem H a;
              ended_real = λ d. remembered_real is_up_lem H a;
            };
      }
