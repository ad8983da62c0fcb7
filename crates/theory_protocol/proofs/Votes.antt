-- What is written to the slot of an undecided change keeps the invariant: nothing (withdraw, a no), one more yes, or the decision. Assumes nothing.
use Prim.Native.Nat.{ℕ, suc, ◌+◌, ◌≤◌, ◌<◌}
use mathlib.Core.Path.{◌≡◌, refl, sym, ◌∙◌, ap, ap₂}
use mathlib.Core.Bool.{Bool, true, false, not, ◌&&◌}
use mathlib.Core.Logic.{by_cases, ⊎_elim}
use mathlib.Core.List.{[], ◌∷◌, ◌++◌}
use native.Mathlib.Nat.{le_trans, le_step, lt-suc_self}
use native.Mathlib.Decide.{dec_lt}
use native.Mathlib.Omega.{arith}
use lib.Dec.{eqb}
use lib.ListN.{length}
use Rattle.base_laws.proofs.Logic.{test, clash, fails, and_intro, not_intro}
use Rattle.base_laws.proofs.Below.{below_suc}
use Rattle.theory_history.specs.Change.{CardSet, Change, History, touches, meets, writers, history_of}
use Rattle.theory_history.specs.Vector.{vector_of, vector}
use Rattle.theory_history.proofs.Precedence.{writes_touches}
use Rattle.theory_history.proofs.Writers.{writers_step, writers_same}
use Rattle.theory_history.proofs.Appending.{Agree, grown_agree, grown_last, grown_length}
use Rattle.theory_protocol.specs.Model.{Limits, is_up, OpenChange, Model, is_open, decided, to_write, tracked, with_yes, with_vector}
use Rattle.theory_protocol.specs.Edit.{put, place, edited_all}
use Rattle.theory_protocol.specs.Journal.{Journal, Noted, struck, asked, with_undecided}
use Rattle.theory_protocol.proofs.Taking.{put_same, put_other, orderly_decided, levels_decided, tracks_decided, framed_decided, based_decided, vector_decided, reached_decided}
use Rattle.theory_protocol.proofs.Places.{Opened, Stood, Waits, standing_put, open_put}
use Rattle.theory_protocol.proofs.Running.{Numbered, StandsFor, About, Running}
use Rattle.theory_protocol.proofs.Openings.{not_down}

module _ (L : Limits) (m : Model) (j : Journal) (r : Running L m j) (p : ℕ) (is_up_lem : is_up m.phase ≡ true)
    (is_slot : p < L.slots) (is_open_lem : is_open (m.slot p) ≡ true) (undecided-yet : decided L (m.slot p) ≡ false) where
  -- a slot that stands for a decided change is another
  other : {i : ℕ} (s : StandsFor L m.slot r.at i) → ¬ (s.p ≡ p)
  other s q = clash (rw q at s.is_decided) undecided-yet

  moved : (o : OpenChange) (k : ℕ) {i : ℕ} → StandsFor L m.slot r.at i → StandsFor L (put m.slot p o) (put r.at p k) i
  moved o k {i} s =
      let ne : ¬ (s.p ≡ p) = other s in
      record {
        p = s.p;
        is_slot = s.is_slot;
        is_open_lem = rw (put_other m.slot p o s.p ne) s.is_open_lem;
        is_decided = rw (put_other m.slot p o s.p ne) s.is_decided;
        is_at = rw (put_other r.at p k s.p ne) s.is_at;
      }

  same_room : (o : OpenChange) → o.change ≡ (m.slot p).change → ((c : ℕ) → c < L.width → o.taken c ≡ (m.slot p).taken c) → Opened L m.present m.numbers.base m.numbers.reached m.latest o
  same_room o same taken =
      let old : Opened L m.present m.numbers.base m.numbers.reached m.latest (m.slot p) = r.slots_open.opened p is_slot is_open_lem in
      record {
        given = rw same old.given;
        there = λ c l e. old.there c l (ap (λ (t : Change). touches t c) (sym same) ∙ e);
        room = λ c l e. old.room c l (ap₂ (λ (t : Change) (b : Bool). t.writes c && not b) (sym same) (sym (taken c l)) ∙ e);
      }

  -- ---- nothing, or the same change with other votes, still undecided
  module _ (o : OpenChange) (notes : ℕ → Noted)
      (same : is_open o ≡ true → o.change ≡ (m.slot p).change)
      (same_taken : is_open o ≡ true → (c : ℕ) → c < L.width → o.taken c ≡ (m.slot p).taken c)
      (same_vector : is_open o ≡ true → (i : ℕ) → i < L.width → o.vector i ≡ (m.slot p).vector i)
      (still : is_open o ≡ true → decided L o ≡ false)
      (noted : is_open o ≡ true → notes o.change.number ≡ asked o.change o.yes)
      (elsewhere : (k : ℕ) → ¬ (k ≡ (m.slot p).change.number) → notes k ≡ j.undecided k) where
    pub replace_keeps : Running L (edited_all L (place p o ∷ []) m) (with_undecided j notes)
    replace_keeps =
        record {
          took = r.took;
          at = put r.at p 0;
          not_rolling = r.not_rolling;
          session_given = r.session_given;
          session_fits = r.session_fits;
          count_given = r.count_given;
          carded = r.carded;
          ranges = r.ranges;
          stored_is = r.stored_is;
          not_fixed = r.not_fixed;
          slots_open =
              open_put L m.slot p o
              (λ q l z e. r.slots_open.opened q l e)
              (λ q l z e d. elsewhere (m.slot q).change.number (r.slots_open.apart q p l is_slot z e is_open_lem) ∙ r.slots_open.noted q l e d)
              r.slots_open.apart r.slots_open.strangers
              (λ e. same_room o (same e) (same_taken e))
              (λ e d. noted e)
              (λ e q l z oq y. r.slots_open.apart q p l is_slot z oq is_open_lem (y ∙ ap (λ (t : Change). t.number) (same e)))
              (λ e d q c l lc z oq dq. (
                rw (same e) (r.slots_open.strangers q p c l is_slot lc z oq is_open_lem dq undecided-yet),
                rw (same e) (r.slots_open.strangers p q c is_slot l lc (λ y. z (sym y)) is_open_lem oq undecided-yet dq),
              ));
          slots_down = λ d. clash d (not_down m.phase is_up_lem);
          about = λ H a. new H (r.about H a);
        }
      where
        new : (H : History) → About L m j.start (length j.history) r.took r.at H
            → About L (edited_all L (place p o ∷ []) m) j.start (length j.history) r.took (put r.at p 0) H
        new H a =
            let wt : Waits L.width H (length j.history) r.took (m.slot p) = a.standing.waits p is_slot is_open_lem undecided-yet in
            record {
              orderly = a.orderly;
              levels = a.levels;
              tracks = a.tracks;
              framed = a.framed;
              based = a.based;
              numbered = a.numbered;
              bounded = a.bounded;
              there = a.there;
              standing =
                  standing_put L m.slot p o 0
                  (λ q l z. a.standing.stood q l) (λ q l z. a.standing.waits q l) (λ e d. clash d (still e))
                  (λ e d.
                  record {
                    untaken = λ c l. same_taken e c l ∙ wt.untaken c l;
                    blank = λ i l. same_vector e i l ∙ wt.blank i l;
                    met_taken = λ i c h l y. wt.met_taken i c h l (rw (same e) at y);
                    met_lower = λ i c h l y. rw (same e) (wt.met_lower i c h l (rw (same e) at y));
                    unlike = λ i h y. wt.unlike i h (y ∙ ap (λ (t : Change). t.number) (same e));
                  });
              open_untaken = λ u i c h l e z. moved o 0 (a.open_untaken u i c h l e z);
              ended_untaken = λ d. clash d (not_down m.phase is_up_lem);
              ended_real = λ d. clash d (not_down m.phase is_up_lem);
            }

  -- ---- the decision: the change joins the history
  module _ (votes : CardSet) where
    abbrev t : Change
    t = (m.slot p).change

    -- the change with all its votes, and its vector
    abbrev now : OpenChange
    now = with_vector (with_yes (m.slot p) votes) (vector_of L.width (tracked m) (m.slot p).change)

    -- the journal with the change at the end of its history
    abbrev joined_journal : Journal
    joined_journal =
        record {
          start = j.start;
          stored = j.stored;
          undecided = put j.undecided (m.slot p).change.number struck;
          history = j.history ++ (m.slot p).change ∷ [];
          fix = j.fix;
        }

    module _ (is_decided : decided L now ≡ true) (H : History) (a : About L m j.start (length j.history) r.took r.at H) (e : H (length j.history) ≡ (m.slot p).change) where
      abbrev n : ℕ
      n = length j.history

      wt : Waits L.width H n r.took (m.slot p)
      wt = a.standing.waits p is_slot is_open_lem undecided-yet

      joins : (i c : ℕ) → i < n → c < L.width → meets (H i) (H n) c ≡ true → r.took i c ≡ true
      joins i c h l y = wt.met_taken i c h l (rw e at y)

      number_positive : 0 < (m.slot p).change.number
      number_positive =
          by_cases (dec_lt 0 (m.slot p).change.number) (λ z. z)
          (λ z. let q : (m.slot p).change.number ≡ 0 = omega (arith, z) in clash is_open_lem (ap (λ (x : ℕ). not (eqb x 0)) q))

      numbered_decided : Numbered L.width H (suc n) m.latest
      numbered_decided =
          record {
            positive = λ i h. ⊎_elim (λ (q : i ≡ n). rw (q, e) number_positive) (λ (z : i < n). a.numbered.positive i z) (below_suc h);
            given = λ i h. ⊎_elim (λ (q : i ≡ n). rw (q, e) (r.slots_open.opened p is_slot is_open_lem).given) (λ (z : i < n). a.numbered.given i z) (below_suc h);
            distinct = λ i k h b. ⊎_elim (λ (q : k ≡ n). rw (q, e) (wt.unlike i (rw q at h))) (λ (z : k < n). a.numbered.distinct i k h z) (below_suc b);
            rising = λ i k c h b l y. ⊎_elim (λ (q : k ≡ n). rw (q, e) (wt.met_lower i c (rw q at h) l (rw (q, e) at y))) (λ (z : k < n). a.numbered.rising i k c h z l y) (below_suc b);
          }

      bounded_decided : (c : ℕ) → c < L.width → j.start c + writers H c (suc n) ≤ L.greatest_state
      bounded_decided c l = test ((H n).writes c) more (λ z. rw (writers_same H j.start c n z) (a.bounded c l))
        where
          more : (H n).writes c ≡ true → j.start c + writers H c (suc n) ≤ L.greatest_state
          more z =
              let tw : to_write (m.slot p) c ≡ true = and_intro (rw e at z) (not_intro (wt.untaken c l)) in
              let q : m.numbers.reached c ≡ j.start c + writers H c n = reached_decided L.width H j.start n r.took a.orderly a.levels joins c l (writes_touches (H n) c z) in
              omega (arith, ((r.slots_open.opened p is_slot is_open_lem).room c l tw).1, q, writers_step H j.start c n z)

      stood_now : Stood L.width H j.start (suc n) r.took now n
      stood_now =
          record {
            in_history = lt-suc_self n;
            change_is = e;
            taken_is = λ c l. fails (r.took n c) (λ y. absurd (omega (arith, a.orderly.decided_only n c y))) ∙ sym (wt.untaken c l);
            vector_is_lem = λ i l. ap (λ (s : Change). vector_of L.width (tracked m) s i) (sym e) ∙ vector_decided L.width H j.start n r.took a.orderly (tracked m) a.levels a.tracks joins i l;
          }

      waits_on : (q : ℕ) → q < L.slots → ¬ (q ≡ p) → is_open (m.slot q) ≡ true → decided L (m.slot q) ≡ false → Waits L.width H (suc n) r.took (m.slot q)
      waits_on q l z oq dq =
          let old : Waits L.width H n r.took (m.slot q) = a.standing.waits q l oq dq in
          record {
            untaken = old.untaken;
            blank = old.blank;
            met_taken = λ i c h lc y. ⊎_elim (λ (x : i ≡ n). stranger c lc (rw (x, e) at y)) (λ (x : i < n). old.met_taken i c x lc y) (below_suc h);
            met_lower = λ i c h lc y. ⊎_elim (λ (x : i ≡ n). stranger c lc (rw (x, e) at y)) (λ (x : i < n). old.met_lower i c x lc y) (below_suc h);
            unlike = λ i h. ⊎_elim (λ (x : i ≡ n). rw (x, e) (r.slots_open.apart p q is_slot l (λ y. z (sym y)) is_open_lem oq)) (λ (x : i < n). old.unlike i x) (below_suc h);
          }
        where
          stranger : {A : Type 0} (c : ℕ) → c < L.width → meets (m.slot p).change (m.slot q).change c ≡ true → A
          stranger c lc y = clash y (r.slots_open.strangers p q c is_slot l lc (λ x. z (sym x)) is_open_lem oq undecided-yet dq)

      about_decided : About L (edited_all L (place p now ∷ []) m) j.start (suc n) r.took (put r.at p n) H
      about_decided =
          record {
            orderly = orderly_decided L.width H j.start n r.took a.orderly joins;
            levels = levels_decided L.width H j.start n r.took a.orderly a.levels;
            tracks = tracks_decided L.width H j.start n r.took a.orderly a.tracks;
            framed = framed_decided L.width H j.start n r.took a.levels a.framed;
            based = based_decided L.width H j.start n r.took a.levels
                (λ c l. le_trans (r.ranges.base_stored c l) (le_trans (r.ranges.stored_held c l) (r.ranges.held_reached c l))) a.based;
            numbered = numbered_decided;
            bounded = bounded_decided;
            there = λ i c h l y. ⊎_elim (λ (q : i ≡ n). (r.slots_open.opened p is_slot is_open_lem).there c l (rw (q, e) at y)) (λ (z : i < n). a.there i c z l y) (below_suc h);
            standing =
                standing_put L m.slot p now n
                (λ q l z oq dq. let old : Stood L.width H j.start n r.took (m.slot q) (r.at q) = a.standing.stood q l oq dq in
                record { in_history = le_step old.in_history; change_is = old.change_is; taken_is = old.taken_is; vector_is_lem = old.vector_is_lem })
                waits_on (λ o d. stood_now) (λ o d. clash is_decided d);
            open_untaken = λ u i c h l y z. ⊎_elim
                (λ (q : i ≡ n). record { p = p; is_slot = is_slot; is_open_lem = rw (put_same m.slot p now) is_open_lem; is_decided = rw (put_same m.slot p now) is_decided; is_at = put_same r.at p n ∙ sym q })
                (λ (x : i < n). moved now n (a.open_untaken u i c x l y z)) (below_suc h);
            ended_untaken = λ d. clash d (not_down m.phase is_up_lem);
            ended_real = λ d. clash d (not_down m.phase is_up_lem);
          }

    pub decide_keeps : decided L now ≡ true → Running L (edited_all L (place p now ∷ []) m) joined_journal
    decide_keeps is_decided =
        record {
          took = r.took;
          at = put r.at p (length j.history);
          not_rolling = r.not_rolling;
          session_given = r.session_given;
          session_fits = r.session_fits;
          count_given = r.count_given;
          carded = r.carded;
          ranges = r.ranges;
          stored_is = r.stored_is;
          not_fixed = r.not_fixed;
          slots_open =
              open_put L m.slot p now
              (λ q l z oq. r.slots_open.opened q l oq)
              (λ q l z oq dq. put_other j.undecided (m.slot p).change.number struck (m.slot q).change.number (r.slots_open.apart q p l is_slot z oq is_open_lem) ∙ r.slots_open.noted q l oq dq)
              r.slots_open.apart r.slots_open.strangers
              (λ o. same_room now refl (λ c l. refl)) (λ o d. clash is_decided d)
              (λ o q l z oq. r.slots_open.apart q p l is_slot z oq is_open_lem) (λ o d. clash is_decided d);
          slots_down = λ d. clash d (not_down m.phase is_up_lem);
          about = grown;
        }
      where
        grown : (H : History) → Agree (history_of (j.history ++ t ∷ [])) H (length (j.history ++ t ∷ []))
            → About L (edited_all L (place p now ∷ []) m) j.start (length (j.history ++ t ∷ [])) r.took (put r.at p (length j.history)) H
        grown H agree =
            rw (grown_length j.history t)
            (about_decided is_decided H
            (r.about H (λ i h. grown_agree j.history t i h ∙ agree i (omega (arith, h, grown_length j.history t))))
            (sym (agree (length j.history) (omega (arith, grown_length j.history t))) ∙ grown_last j.history t))
