-- A card takes its share of a decided change: the invariant is kept. Assumes nothing.
use Prim.Native.Nat.{ℕ, suc, ◌+◌, ◌≤◌, ◌<◌}
use mathlib.Core.Path.{◌≡◌, refl, sym, ◌∙◌, ap}
use mathlib.Core.Bool.{Bool, true, false, not, ◌&&◌, ◌||◌, cond}
use mathlib.Core.Logic.{inl, by_cases, ⊎_elim}
use mathlib.Core.List.{[], ◌∷◌}
use native.Mathlib.Nat.{le_refl}
use native.Mathlib.Decide.{dec_lt, ℕ_discrete}
use native.Mathlib.Omega.{arith}
use lib.Dec.{eqb}
use lib.ListN.{length}
use borrow.Author.Tests.{eq-eqb, ne_eqb}
use Rattle.base_laws.proofs.Logic.{test, clash, fails, and_left, and_right, and_intro, or_left, or_right, or_elim, not_true, not_intro}
use Rattle.base_laws.proofs.Below.{all_at}
use Rattle.theory_history.specs.Change.{Change, History, Numbers, touches, meets, history_of}
use Rattle.theory_history.specs.Vector.{vector}
use Rattle.theory_history.proofs.Precedence.{writes_touches, meets_intro}
use Rattle.theory_protocol.specs.Model.{Limits, is_up, OpenChange, Model, free_slot, is_open, decided, closed, to_write, with_card, with_taken}
use Rattle.theory_protocol.specs.Edit.{put, place, grow, raise, edited_all}
use Rattle.theory_protocol.specs.Calls.{took_share}
use Rattle.theory_protocol.specs.Journal.{Journal}
use Rattle.theory_protocol.proofs.Taking.{put_same, put_other, put_case, also_took, took_older, orderly_took, levels_wrote, tracks_wrote, framed_wrote, levels_read, tracks_read}
use Rattle.theory_protocol.proofs.Places.{Opened, Stood, Waits, Open, Standing, standing_put, open_put}
use Rattle.theory_protocol.proofs.Running.{StandsFor, About, Running}
use Rattle.theory_protocol.proofs.Openings.{not_down}

module _ (L : Limits) (m : Model) (j : Journal) (r : Running L m j) (p c : ℕ) (is_up_lem : is_up m.phase ≡ true)
    (is_slot : p < L.slots) (is_card_lem : c < L.width) (is_open_lem : is_open (m.slot p) ≡ true) (is_decided : decided L (m.slot p) ≡ true)
    (is-touched : touches (m.slot p).change c ≡ true) (is-untaken : (m.slot p).taken c ≡ false) where
  -- the slot after the share is taken
  abbrev share_taken : OpenChange
  share_taken = with_taken (m.slot p) (with_card (m.slot p).taken c)

  abbrev after : OpenChange
  after = took_share L (m.slot p) c

  -- it is still open, or all its shares are taken
  after_open : is_open after ≡ true → after ≡ share_taken
  after_open e = test (closed L share_taken) (λ z. clash (sym (ap (λ (b : Bool). is_open (cond b free_slot share_taken)) z) ∙ e) refl) (λ z. rw z)

  still_open : closed L share_taken ≡ false → after ≡ share_taken
  still_open z = rw z

  module _ (H : History) (a : About L m j.start (length j.history) r.took r.at H) where
    abbrev n : ℕ
    n = length j.history

    abbrev i : ℕ
    i = r.at p

    st : Stood L.width H j.start n r.took (m.slot p) i
    st = a.standing.stood p is_slot is_open_lem is_decided

    not_taken : r.took i c ≡ false
    not_taken = st.taken_is c is_card_lem ∙ is-untaken

    touched : touches (H i) c ≡ true
    touched = ap (λ (t : Change). touches t c) st.change_is ∙ is-touched

    -- another decided slot stands elsewhere
    elsewhere : (q : ℕ) → q < L.slots → ¬ (q ≡ p) → is_open (m.slot q) ≡ true → decided L (m.slot q) ≡ true → ¬ (r.at q ≡ i)
    elsewhere q l z oq dq e =
        r.slots_open.apart q p l is_slot z oq is_open_lem
        (ap (λ (t : Change). t.number) (sym (a.standing.stood q l oq dq).change_is ∙ ap H e ∙ st.change_is))

    stood_others : (q : ℕ) → q < L.slots → ¬ (q ≡ p) → is_open (m.slot q) ≡ true → decided L (m.slot q) ≡ true → Stood L.width H j.start n (also_took r.took i c) (m.slot q) (r.at q)
    stood_others q l z oq dq =
        let old : Stood L.width H j.start n r.took (m.slot q) (r.at q) = a.standing.stood q l oq dq in
        record {
          in_history = old.in_history;
          change_is = old.change_is;
          taken_is = λ d ld. rw (ne_eqb (r.at q) i (elsewhere q l z oq dq)) (old.taken_is d ld);
          vector_is_lem = old.vector_is_lem;
        }

    waits_others : (q : ℕ) → q < L.slots → ¬ (q ≡ p) → is_open (m.slot q) ≡ true → decided L (m.slot q) ≡ false → Waits L.width H n (also_took r.took i c) (m.slot q)
    waits_others q l z oq dq =
        let old : Waits L.width H n r.took (m.slot q) = a.standing.waits q l oq dq in
        record {
          untaken = old.untaken;
          blank = old.blank;
          met_taken = λ k d h ld e. took_older r.took i c k d (old.met_taken k d h ld e);
          met_lower = old.met_lower;
          unlike = old.unlike;
        }

    stood_share : Stood L.width H j.start n (also_took r.took i c) share_taken i
    stood_share =
        record {
          in_history = st.in_history;
          change_is = st.change_is;
          taken_is = λ d ld. rw (eq-eqb i i refl, st.taken_is d ld);
          vector_is_lem = st.vector_is_lem;
        }

    stood_after : is_open after ≡ true → decided L after ≡ true → Stood L.width H j.start n (also_took r.took i c) after i
    stood_after e d = rw (after_open e) stood_share

    standing_after : Standing L H j.start n (also_took r.took i c) (put r.at p i) (put m.slot p after)
    standing_after =
        standing_put L m.slot p after i stood_others waits_others stood_after
        (λ e d. clash is_decided (sym (ap (decided L) (after_open e)) ∙ d))

    -- what is untaken afterwards was untaken before, and its slot is still there
    untaken_after : (k d : ℕ) → k < n → d < L.width → touches (H k) d ≡ true → also_took r.took i c k d ≡ false → StandsFor L (put m.slot p after) (put r.at p i) k
    untaken_after k d h ld e z = by_cases (ℕ_discrete s.p p) same another
      where
        before : r.took k d ≡ false
        before = fails (r.took k d) (λ y. clash (took_older r.took i c k d y) z)

        s : StandsFor L m.slot r.at k
        s = a.open_untaken is_up_lem k d h ld e before

        another : ¬ (s.p ≡ p) → StandsFor L (put m.slot p after) (put r.at p i) k
        another ne =
            record {
              p = s.p;
              is_slot = s.is_slot;
              is_open_lem = rw (put_other m.slot p after s.p ne) s.is_open_lem;
              is_decided = rw (put_other m.slot p after s.p ne) s.is_decided;
              is_at = rw (put_other r.at p i s.p ne) s.is_at;
            }

        same : s.p ≡ p → StandsFor L (put m.slot p after) (put r.at p i) k
        same q =
            record {
              p = p;
              is_slot = is_slot;
              is_open_lem = rw (put_same m.slot p after, still_open not_closed) is_open_lem;
              is_decided = rw (put_same m.slot p after, still_open not_closed) is_decided;
              is_at = put_same r.at p i ∙ at_k;
            }
          where
            at_k : r.at p ≡ k
            at_k = ap r.at (sym q) ∙ s.is_at

            not_closed : closed L share_taken ≡ false
            not_closed =
                fails (closed L share_taken)
                (λ y. ⊎_elim
                (λ (x : not (touches (m.slot p).change d) ≡ true). clash (ap (λ (t : Change). touches t d) (sym st.change_is) ∙ ap (λ (k' : ℕ). touches (H k') d) at_k ∙ e) (not_true (touches (m.slot p).change d) x))
                (λ (x : with_card (m.slot p).taken c d ≡ true).
                clash (stood_share.taken_is d ld ∙ x) (ap (λ (k' : ℕ). also_took r.took i c k' d) at_k ∙ z))
                (or_elim (not (touches (m.slot p).change d)) (with_card (m.slot p).taken c d) (all_at L.width (λ x. not (touches (m.slot p).change x) || with_card (m.slot p).taken c x) y d ld)))

    -- another open change that has yet to write card c: not while this one writes it
    no_other_writer : (m.slot p).change.writes c ≡ true → (q : ℕ) → q < L.slots → ¬ (q ≡ p) → is_open (m.slot q) ≡ true → to_write (m.slot q) c ≡ true → ⊥
    no_other_writer e q l z oq tw = test (decided L (m.slot q)) both (λ dq. clash ((a.standing.waits q l oq dq).met_taken i c st.in_history is_card_lem (meet (m.slot q).change wq)) not_taken)
      where
        wq : (m.slot q).change.writes c ≡ true
        wq = and_left ((m.slot q).change.writes c) (not ((m.slot q).taken c)) tw

        ei : (H i).writes c ≡ true
        ei = ap (λ (t : Change). t.writes c) st.change_is ∙ e

        meet : (t : Change) → t.writes c ≡ true → meets (H i) t c ≡ true
        meet t y = meets_intro (H i) t c (writes_touches (H i) c ei) (writes_touches t c y) (inl ei)

        both : decided L (m.slot q) ≡ true → ⊥
        both dq =
            by_cases (dec_lt (r.at q) i)
            (λ y. clash (sym (sq.taken_is c is_card_lem) ∙ a.orderly.earlier_taken (r.at q) i c y st.in_history is_card_lem (meets_intro (H (r.at q)) (H i) c (writes_touches (H (r.at q)) c eq) (writes_touches (H i) c ei) (inl eq)))
            (not_true ((m.slot q).taken c) (and_right ((m.slot q).change.writes c) (not ((m.slot q).taken c)) tw)))
            (λ y. clash (a.orderly.earlier_taken i (r.at q) c (later y) sq.in_history is_card_lem (meet (H (r.at q)) eq)) not_taken)
          where
            sq : Stood L.width H j.start n r.took (m.slot q) (r.at q)
            sq = a.standing.stood q l oq dq

            eq : (H (r.at q)).writes c ≡ true
            eq = ap (λ (t : Change). t.writes c) sq.change_is ∙ wq

            later : ¬ (r.at q < i) → i < r.at q
            later y = let ne : ¬ (r.at q ≡ i) = elsewhere q l z oq dq in omega (arith, y, ne)

  abbrev H₀ : History
  H₀ = history_of j.history

  about₀ : About L m j.start (length j.history) r.took r.at H₀
  about₀ = r.about H₀ (λ i h. refl)

  -- what is yet to be written afterwards: not on card c
  to_write_after : (o : OpenChange) → o ≡ share_taken → (d : ℕ) → to_write o d ≡ true → (¬ (d ≡ c)) × (to_write (m.slot p) d ≡ true)
  to_write_after o q d e = (λ (z : d ≡ c). clash (or_left ((m.slot p).taken d) (eq-eqb d c z)) (not_true (eqb d c || (m.slot p).taken d) nt), and_intro wr (not_intro (fails ((m.slot p).taken d) (λ y. clash (or_right (eqb d c) y) (not_true (eqb d c || (m.slot p).taken d) nt)))))
    where
      e' : (m.slot p).change.writes d && not (eqb d c || (m.slot p).taken d) ≡ true
      e' = rw q at e

      wr : (m.slot p).change.writes d ≡ true
      wr = and_left ((m.slot p).change.writes d) (not (eqb d c || (m.slot p).taken d)) e'

      nt : not (eqb d c || (m.slot p).taken d) ≡ true
      nt = and_right ((m.slot p).change.writes d) (not (eqb d c || (m.slot p).taken d)) e'

  -- the open changes afterwards, for any reached numbers that leave room
  opened_after : (reached : Numbers)
      → ((q : ℕ) → q < L.slots → ¬ (q ≡ p) → is_open (m.slot q) ≡ true → (d : ℕ) → d < L.width → to_write (m.slot q) d ≡ true → reached d ≡ m.numbers.reached d)
      → ((d : ℕ) → ¬ (d ≡ c) → reached d ≡ m.numbers.reached d)
      → Open L m.present m.numbers.base reached m.latest j.undecided (put m.slot p after)
  opened_after reached same here =
      open_put L m.slot p after
      (λ q l z oq. record {
        given = (r.slots_open.opened q l oq).given;
        there = (r.slots_open.opened q l oq).there;
        room = λ d ld tw. rw (same q l z oq d ld tw) ((r.slots_open.opened q l oq).room d ld tw);
      })
      (λ q l z oq dq. r.slots_open.noted q l oq dq) r.slots_open.apart r.slots_open.strangers
      (λ e. record {
        given = rw (after_open e) old.given;
        there = λ d ld y. old.there d ld (ap (λ (o : OpenChange). touches o.change d) (sym (after_open e)) ∙ y);
        room = λ d ld y. rw (here d (to_write_after after (after_open e) d y).0) (old.room d ld (to_write_after after (after_open e) d y).1);
      })
      (λ e d. clash is_decided (sym (ap (decided L) (after_open e)) ∙ d))
      (λ e q l z oq y. r.slots_open.apart q p l is_slot z oq is_open_lem (y ∙ ap (λ (o : OpenChange). o.change.number) (after_open e)))
      (λ e d. clash is_decided (sym (ap (decided L) (after_open e)) ∙ d))
    where
      old : Opened L m.present m.numbers.base m.numbers.reached m.latest (m.slot p)
      old = r.slots_open.opened p is_slot is_open_lem

  -- ---- a written share
  pub write_keeps : (m.slot p).change.writes c ≡ true → Running L (edited_all L (grow c (m.slot p).change.number (m.slot p).vector ∷ place p after ∷ []) m) j
  write_keeps e =
      record {
        took = also_took r.took (r.at p) c;
        at = put r.at p (r.at p);
        not_rolling = r.not_rolling;
        session_given = r.session_given;
        session_fits = r.session_fits;
        count_given = r.count_given;
        carded = r.carded;
        ranges =
            record {
              from_start = r.ranges.from_start;
              base_stored = r.ranges.base_stored;
              stored_held = λ d ld. put_case (λ y x. m.numbers.stored y ≤ x) m.numbers.held c (suc (m.numbers.reached c)) d
                  (λ (q : d ≡ c). rw q (omega (arith, r.ranges.stored_held c is_card_lem, r.ranges.held_reached c is_card_lem))) (λ q. r.ranges.stored_held d ld);
              held_reached = λ d ld. by_cases (ℕ_discrete d c) (λ (q : d ≡ c). rw (q, put_same m.numbers.held c (suc (m.numbers.reached c)), put_same m.numbers.reached c (suc (m.numbers.reached c))) (le_refl (suc (m.numbers.reached c))))
                  (λ q. rw (put_other m.numbers.held c (suc (m.numbers.reached c)) d q, put_other m.numbers.reached c (suc (m.numbers.reached c)) d q) (r.ranges.held_reached d ld));
              in_hand_lem = λ d ld. put_case (λ y x. x ≤ m.numbers.base y + L.in_hand) m.numbers.reached c (suc (m.numbers.reached c)) d
                  (λ (q : d ≡ c). rw q (old.room c is_card_lem tw).0) (λ q. r.ranges.in_hand_lem d ld);
              all_held = λ u d ld. by_cases (ℕ_discrete d c) (λ (q : d ≡ c). rw (q, put_same m.numbers.held c (suc (m.numbers.reached c)), put_same m.numbers.reached c (suc (m.numbers.reached c))))
                  (λ q. put_other m.numbers.held c (suc (m.numbers.reached c)) d q ∙ r.ranges.all_held u d ld ∙ sym (put_other m.numbers.reached c (suc (m.numbers.reached c)) d q));
            };
        stored_is = r.stored_is;
        not_fixed = r.not_fixed;
        slots_open =
            opened_after (put m.numbers.reached c (suc (m.numbers.reached c)))
            (λ q l z oq d ld y. put_other m.numbers.reached c (suc (m.numbers.reached c)) d (λ (x : d ≡ c). no_other_writer H₀ about₀ e q l z oq (rw x at y)))
            (λ d q. put_other m.numbers.reached c (suc (m.numbers.reached c)) d q);
        slots_down = λ d. clash d (not_down m.phase is_up_lem);
        about = λ H agree. new H (r.about H agree);
      }
    where
      old : Opened L m.present m.numbers.base m.numbers.reached m.latest (m.slot p)
      old = r.slots_open.opened p is_slot is_open_lem

      tw : to_write (m.slot p) c ≡ true
      tw = and_intro e (not_intro is-untaken)

      new : (H : History) → About L m j.start (length j.history) r.took r.at H
          → About L (edited_all L (grow c (m.slot p).change.number (m.slot p).vector ∷ place p after ∷ []) m) j.start (length j.history) (also_took r.took (r.at p) c) (put r.at p (r.at p)) H
      new H a =
          record {
            orderly = orderly_took L.width H j.start N r.took a.orderly I c h is_card_lem nt;
            levels = levels_wrote L.width H j.start N r.took a.orderly I c h is_card_lem nt ei a.levels;
            tracks = tracks_wrote L.width H j.start N r.took a.orderly I c h is_card_lem nt ei a.levels (m.slot p).vector s.vector_is_lem a.tracks;
            framed = rw (ap (λ (t : Change). t.number) s.change_is) at (framed_wrote L.width H j.start N r.took a.orderly I c h is_card_lem nt ei a.levels (m.slot p).vector s.vector_is_lem a.framed);
            based = a.based;
            numbered = a.numbered;
            bounded = a.bounded;
            there = a.there;
            standing = standing_after H a;
            open_untaken = λ u. untaken_after H a;
            ended_untaken = λ d. clash d (not_down m.phase is_up_lem);
            ended_real = λ d. clash d (not_down m.phase is_up_lem);
          }
        where
          N : ℕ
          N = length j.history

          I : ℕ
          I = r.at p

          s : Stood L.width H j.start (length j.history) r.took (m.slot p) (r.at p)
          s = st H a

          h : r.at p < length j.history
          h = s.in_history

          nt : r.took (r.at p) c ≡ false
          nt = not_taken H a

          ei : (H (r.at p)).writes c ≡ true
          ei = ap (λ (t : Change). t.writes c) s.change_is ∙ e

  -- ---- a read share
  pub read_keeps : (m.slot p).change.writes c ≡ false → (m.slot p).change.reads c ≡ true → Running L (edited_all L (raise c (m.slot p).vector ∷ place p after ∷ []) m) j
  read_keeps e d =
      record {
        took = also_took r.took (r.at p) c;
        at = put r.at p (r.at p);
        not_rolling = r.not_rolling;
        session_given = r.session_given;
        session_fits = r.session_fits;
        count_given = r.count_given;
        carded = r.carded;
        ranges = r.ranges;
        stored_is = r.stored_is;
        not_fixed = r.not_fixed;
        slots_open = opened_after m.numbers.reached (λ q l z oq x lx y. refl) (λ x q. refl);
        slots_down = λ y. clash y (not_down m.phase is_up_lem);
        about = λ H agree. new H (r.about H agree);
      }
    where
      new : (H : History) → About L m j.start (length j.history) r.took r.at H
          → About L (edited_all L (raise c (m.slot p).vector ∷ place p after ∷ []) m) j.start (length j.history) (also_took r.took (r.at p) c) (put r.at p (r.at p)) H
      new H a =
          record {
            orderly = orderly_took L.width H j.start (length j.history) r.took a.orderly (r.at p) c h is_card_lem nt;
            levels = levels_read L.width H j.start (length j.history) r.took a.orderly (r.at p) c h is_card_lem nt ei di a.levels;
            tracks = tracks_read L.width H j.start (length j.history) r.took a.orderly (r.at p) c h is_card_lem nt ei di (m.slot p).vector s.vector_is_lem a.tracks;
            framed = a.framed;
            based = a.based;
            numbered = a.numbered;
            bounded = a.bounded;
            there = a.there;
            standing = standing_after H a;
            open_untaken = λ u. untaken_after H a;
            ended_untaken = λ y. clash y (not_down m.phase is_up_lem);
            ended_real = λ y. clash y (not_down m.phase is_up_lem);
          }
        where
          s : Stood L.width H j.start (length j.history) r.took (m.slot p) (r.at p)
          s = st H a

          h : r.at p < length j.history
          h = s.in_history

          nt : r.took (r.at p) c ≡ false
          nt = not_taken H a

          ei : (H (r.at p)).writes c ≡ false
          ei = ap (λ (t : Change). t.writes c) s.change_is ∙ e

          di : (H (r.at p)).reads c ≡ true
          di = ap (λ (t : Change). t.reads c) s.change_is ∙ d
