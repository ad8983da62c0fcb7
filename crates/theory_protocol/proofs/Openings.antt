-- A fresh cabinet meets the invariant, and these calls keep it: open, withdraw, a no, and a yes that does not decide. Assumes nothing.
use Prim.Native.Nat.{ℕ, suc, ◌+◌, ◌≤◌, ◌<◌, zero-le}
use mathlib.Core.Path.{◌≡◌, refl, sym, ◌∙◌, ap}
use mathlib.Core.Bool.{true, false, not, ◌&&◌, ◌||◌}
use mathlib.Core.Logic.{inl, inr, ⊎_elim}
use mathlib.Core.List.{[], ◌∷◌}
use native.Mathlib.Nat.{le_refl, le_step, not-suc-le-zero}
use native.Mathlib.Omega.{arith}
use lib.ListN.{length}
use Rattle.base_laws.proofs.Logic.{test, clash, fails, and_left, and_intro, or_left, or_right, or_elim, not_true, not_intro}
use Rattle.base_laws.proofs.Below.{all_at}
use Rattle.theory_history.specs.Change.{CardSet, Change, History, meets, history_of}
use Rattle.theory_history.proofs.Precedence.{meets_first, meets_second, meets_writes, meets_intro}
use Rattle.theory_history.proofs.Greatest.{greatest_none}
use Rattle.theory_protocol.specs.Model.{Limits, Phase, up, down, rolling, is_up, is_down, OpenChange, Model, no_cards, is_open, decided}
use Rattle.theory_protocol.specs.Edit.{put, place, latest, edited_all}
use Rattle.theory_protocol.specs.Calls.{fresh_model, opened_change, bars}
use Rattle.theory_protocol.specs.Journal.{Journal, asked, empty_journal, note_open}
use Rattle.theory_protocol.proofs.Taking.{put_same, put_other}
use Rattle.theory_protocol.proofs.Places.{Stood, standing_put, open_put}
use Rattle.theory_protocol.proofs.Running.{StandsFor, About, Carded, Running}

nothing : {A : Type 0} {i : ℕ} → i < 0 → A
nothing h = absurd (not-suc-le-zero h)

-- ---- a fresh cabinet
pub fresh_running : (L : Limits) (n : CardSet) → Carded L n → Running L (fresh_model n) empty_journal
fresh_running L n carded =
    record {
      took = λ i c. false;
      at = λ p. 0;
      not_rolling = refl;
      session_given = le_refl 1;
      session_fits = carded.some_session;
      count_given = zero-le;
      carded = carded;
      ranges =
          record {
            from_start = λ c l. zero-le;
            base_stored = λ c l. zero-le;
            stored_held = λ c l. zero-le;
            held_reached = λ c l. zero-le;
            in_hand_lem = λ c l. zero-le;
            all_held = λ u c l. refl;
          };
      stored_is = λ c l. refl;
      not_fixed = refl;
      slots_open =
          record { opened = λ p l e. clash e refl; noted = λ p l e d. clash e refl; apart = λ p q l k d e f. clash e refl; strangers = λ p q c l k h d e f g i. clash e refl };
      slots_down = λ d p l. refl;
      about = λ H a.
          record {
            orderly = record { decided_only = λ i c t. clash t refl; earlier_taken = λ i k c a b l e. nothing b };
            levels = record { low = λ c l. zero-le; high = λ c l. zero-le; up_to = λ i c h l e t. nothing h; taken = λ i c h l e z. nothing h };
            tracks = record { last_is = λ c j l lj. greatest_none j (λ t b. nothing b.1); pending_is = λ c j l lj. greatest_none j (λ t b. nothing b.1) };
            framed = record { number_is = λ i c h l e a b. nothing h; vector_is_lem = λ i c j h l lj e a b. nothing h };
            based = record { cut = λ i c j h l lj e z. nothing h };
            numbered = record { positive = λ i h. nothing h; given = λ i h. nothing h; distinct = λ i k a b. nothing b; rising = λ i k c a b l e. nothing b };
            bounded = λ c l. zero-le;
            there = λ i c h l e. nothing h;
            standing = record { stood = λ p l e d. clash e refl; waits = λ p l e d. clash e refl };
            open_untaken = λ u i c h l e t. nothing h;
            ended_untaken = λ d i c h l e t. nothing h;
            ended_real = λ d p l e. absurd (e refl);
          };
    }

-- a test of a set that is not met on a card it has
pub meets_sym : (s t : Change) (c : ℕ) → meets s t c ≡ true → meets t s c ≡ true
meets_sym s t c e =
    meets_intro t s c (meets_second s t c e) (meets_first s t c e)
    (⊎_elim (λ (z : s.writes c ≡ true). inr z) (λ (z : t.writes c ≡ true). inl z) (meets_writes s t c e))

pub not_down : (p : Phase) → is_up p ≡ true → is_down p ≡ false
not_down up e = refl
not_down down e = clash e refl
not_down rolling e = refl

-- ---- open
module _ (L : Limits) (m : Model) (j : Journal) (r : Running L m j) (reads writes : CardSet) (f : ℕ)
    (is_up_lem : is_up m.phase ≡ true)
    (there : (c : ℕ) → c < L.width → reads c || writes c ≡ true → m.present c ≡ true)
    (touched : (c : ℕ) × (c < L.width) × (reads c || writes c ≡ true))
    (unbarred : (p c : ℕ) → p < L.slots → c < L.width → bars (m.slot p) reads writes c ≡ false)
    (is_slot : f < L.slots) (is_free : is_open (m.slot f) ≡ false) (left : m.latest < L.greatest_number)
    (room : (c : ℕ) → c < L.width → writes c ≡ true → (m.numbers.reached c < m.numbers.base c + L.in_hand) × (m.numbers.reached c < L.greatest_state)) where
  abbrev t : Change
  t = record { number = suc m.latest; reads = reads; writes = writes }

  abbrev o : OpenChange
  o = opened_change (suc m.latest) reads writes

  -- an open change that meets the new one on a card has taken its share there
  met_took : (p c : ℕ) → p < L.slots → c < L.width → is_open (m.slot p) ≡ true → meets (m.slot p).change t c ≡ true → (m.slot p).taken c ≡ true
  met_took p c lp lc op e =
      test ((m.slot p).taken c) (λ z. z)
      (λ z. clash
      (and_intro (and_intro (and_intro op (meets_first (m.slot p).change t c e)) (not_intro z)) opening)
      (unbarred p c lp lc))
    where
      opening : writes c || (reads c && (m.slot p).change.writes c) ≡ true
      opening =
          test (writes c) (λ z. or_left (reads c && (m.slot p).change.writes c) z)
          (λ z. or_right (writes c) (and_intro
          (⊎_elim (λ (y : reads c ≡ true). y) (λ (y : writes c ≡ true). clash y z) (or_elim (reads c) (writes c) (meets_second (m.slot p).change t c e)))
          (⊎_elim (λ (y : (m.slot p).change.writes c ≡ true). y) (λ (y : writes c ≡ true). clash y z) (meets_writes (m.slot p).change t c e))))

  other : (p : ℕ) → is_open (m.slot p) ≡ true → ¬ (p ≡ f)
  other p e q = clash (rw q at e) is_free

  number_lower : (p : ℕ) → p < L.slots → is_open (m.slot p) ≡ true → (m.slot p).change.number ≤ m.latest
  number_lower p l e = (r.slots_open.opened p l e).given

  undecided_new : decided L o ≡ false
  undecided_new =
      fails (decided L o) (λ e.
      (⊎_elim (λ (z : not (reads touched.0 || writes touched.0) ≡ true). clash touched.2 (not_true (reads touched.0 || writes touched.0) z)) (λ (z : false ≡ true). clash z refl)
      (or_elim (not (reads touched.0 || writes touched.0)) false (all_at L.width (λ c. not (reads c || writes c) || false) e touched.0 touched.1))))

  -- a change of the history that meets the new one on a card has been taken there
  met_before : (H : History) (a : About L m j.start (length j.history) r.took r.at H) (i c : ℕ) → i < length j.history → c < L.width → meets (H i) t c ≡ true → r.took i c ≡ true
  met_before H a i c h l e =
      test (r.took i c) (λ z. z)
      (λ z. let s : StandsFor L m.slot r.at i = a.open_untaken is_up_lem i c h l (meets_first (H i) t c e) z in
      let st : Stood L.width H j.start (length j.history) r.took (m.slot s.p) (r.at s.p) = a.standing.stood s.p s.is_slot s.is_open_lem s.is_decided in
      let same : H i ≡ (m.slot s.p).change = ap H (sym s.is_at) ∙ st.change_is in
      let tk : (m.slot s.p).taken c ≡ true = met_took s.p c s.is_slot l s.is_open_lem (rw same at e) in
      clash (ap (λ (y : ℕ). r.took y c) (sym s.is_at) ∙ st.taken_is c l ∙ tk) z)

  pub open_keeps : Running L (edited_all L (place f o ∷ latest (suc m.latest) ∷ []) m) (note_open j (suc m.latest) reads writes)
  open_keeps =
      record {
        took = r.took;
        at = put r.at f 0;
        not_rolling = r.not_rolling;
        session_given = r.session_given;
        session_fits = r.session_fits;
        count_given = left;
        carded = r.carded;
        ranges = r.ranges;
        stored_is = r.stored_is;
        not_fixed = r.not_fixed;
        slots_open =
            open_put L m.slot f o
            (λ q l z e. record { given = le_step (number_lower q l e); there = (r.slots_open.opened q l e).there; room = (r.slots_open.opened q l e).room })
            (λ q l z e d. put_other j.undecided (suc m.latest) (asked t no_cards) (m.slot q).change.number (λ y. absurd (omega (arith, y, number_lower q l e))) ∙ r.slots_open.noted q l e d)
            r.slots_open.apart r.slots_open.strangers
            (λ e. record { given = le_refl (suc m.latest); there = there; room = λ c l z. room c l (and_left (writes c) true z) })
            (λ e d. put_same j.undecided (suc m.latest) (asked t no_cards))
            (λ e q l z oq y. absurd (omega (arith, y, number_lower q l oq)))
            (λ e d q c l lc z oq dq. (apart_new q c l lc oq dq, fails (meets t (m.slot q).change c) (λ y. clash (meets_sym t (m.slot q).change c y) (apart_new q c l lc oq dq))));
        slots_down = λ d. clash d (not_down m.phase is_up_lem);
        about = λ H a. new H (r.about H a);
      }
    where
      -- an undecided change has taken no share, so the new one does not meet it
      apart_new : (q c : ℕ) → q < L.slots → c < L.width → is_open (m.slot q) ≡ true → decided L (m.slot q) ≡ false → meets (m.slot q).change t c ≡ false
      apart_new q c l lc oq dq =
          fails (meets (m.slot q).change t c)
          (λ e. clash (met_took q c l lc oq e) (((r.about (history_of j.history) (λ i h. refl)).standing.waits q l oq dq).untaken c lc))

      new : (H : History) → About L m j.start (length j.history) r.took r.at H
          → About L (edited_all L (place f o ∷ latest (suc m.latest) ∷ []) m) j.start (length j.history) r.took (put r.at f 0) H
      new H a =
          record {
            orderly = a.orderly;
            levels = a.levels;
            tracks = a.tracks;
            framed = a.framed;
            based = a.based;
            numbered = record { positive = a.numbered.positive; given = λ i h. le_step (a.numbered.given i h); distinct = a.numbered.distinct; rising = a.numbered.rising };
            bounded = a.bounded;
            there = a.there;
            standing =
                standing_put L m.slot f o 0
                (λ q l z. a.standing.stood q l) (λ q l z. a.standing.waits q l) (λ e d. clash d undecided_new)
                (λ e d.
                record {
                  untaken = λ c l. refl;
                  blank = λ i l. refl;
                  met_taken = met_before H a;
                  met_lower = λ i c h l y. omega (arith, a.numbered.given i h);
                  unlike = λ i h y. absurd (omega (arith, a.numbered.given i h, y));
                });
            open_untaken = λ u i c h l e z. moved (a.open_untaken u i c h l e z);
            ended_untaken = λ d. clash d (not_down m.phase is_up_lem);
            ended_real = λ d. clash d (not_down m.phase is_up_lem);
          }
        where
          moved : {i : ℕ} → StandsFor L m.slot r.at i → StandsFor L (put m.slot f o) (put r.at f 0) i
          moved {i} s =
              let ne : ¬ (s.p ≡ f) = other s.p s.is_open_lem in
              record {
                p = s.p;
                is_slot = s.is_slot;
                is_open_lem = rw (put_other m.slot f o s.p ne) s.is_open_lem;
                is_decided = rw (put_other m.slot f o s.p ne) s.is_decided;
                is_at = rw (put_other r.at f 0 s.p ne) s.is_at;
              }
