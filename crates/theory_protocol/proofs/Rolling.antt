-- The invariant in phase rolling, where the journal is frozen: fix brings it, a roll that is not the last keeps it, and the last roll begins a session. Assumes nothing.
use Prim.Native.Nat.{ℕ, zero, suc, ◌+◌, ◌≤◌, ◌<◌, zero-le}
use mathlib.Core.Path.{◌≡◌, refl, sym, ◌∙◌, ap, ap₂}
use mathlib.Core.Bool.{Bool, true, false, not, ◌&&◌, ◌||◌, cond}
use mathlib.Core.Logic.{by_cases, ⊎_elim}
use mathlib.Core.List.{List, [], ◌∷◌, ◌++◌}
use native.Mathlib.Nat.{le_refl, le_trans, le_step, le_antisymm, not-suc-le-zero}
use native.Mathlib.Decide.{dec_lt, ℕ_discrete}
use native.Mathlib.Omega.{arith}
use lib.Dec.{eqb, ltb}
use lib.ListN.{length}
use borrow.Author.Tests.{le-leb, lt-ltb, le-ltb, eq-eqb, ne_eqb}
use Rattle.base_laws.specs.Below.{selected}
use Rattle.base_laws.proofs.Logic.{test, clash, fails, and_intro, or_left, or_right, or_elim, not_true, not_intro, cond_case}
use Rattle.base_laws.proofs.Below.{any_intro, all_at, all_intro}
use Rattle.theory_history.specs.Change.{CardSet, History, Numbers, touches, writers, made, history_of}
use Rattle.theory_history.specs.Vector.{Vector, no_entries}
use Rattle.theory_history.proofs.Greatest.{greatest_none}
use Rattle.theory_history.proofs.Appending.{Agree}
use Rattle.theory_history.proofs.Lines.{line_is_lem}
use Rattle.theory_protocol.specs.Model.{Limits, is_down, is_rolling, Model, no_cards, is_open, within, with_card}
use Rattle.theory_protocol.specs.Valid.{card_valid, slot_valid, entries_valid, valid}
use Rattle.theory_protocol.specs.Edit.{put, fall, fix, lower, renew, edited_all}
use Rattle.theory_protocol.specs.Plan.{CardRow}
use Rattle.theory_protocol.specs.Calls.{recovery_line, lines, card_rows}
use Rattle.theory_protocol.specs.Journal.{Journal, Noted, with_undecided, Fixing, unfixed, fixing, line_in, note_fix}
use Rattle.theory_protocol.proofs.Taking.{Framed, put_same, put_other, put_case}
use Rattle.theory_protocol.proofs.Intact.{Intact, line_at, line_same, intact_same, intact_lower}
use Rattle.theory_protocol.proofs.Running.{Numbered, About, Carded, Running}
use Rattle.theory_protocol.proofs.Stores.{intact, line_right, lines_right, absent_still}
use Rattle.theory_protocol.proofs.Writes.{Writes, writes_valid}
use Rattle.theory_protocol.proofs.Validity.{tracks_valid, frames_valid_lem}

-- what holds of a history that has the journal's changes
pub record AboutLine (L : Limits) (m : Model) (start : Numbers) (n : ℕ) (stored line : Numbers) (H : History) : Type 0 where
  pub line_right : (c : ℕ) → c < L.width → line c ≡ line_at L.width H start n stored c
  pub intact : Intact L.width H start n stored m.numbers.base m.numbers.stored m.numbers.reached m.memory.frame
  pub framed : Framed L.width H start n m.numbers.base m.numbers.reached m.memory.change m.memory.frame
  pub latest : ℕ
  pub count_given : latest ≤ L.greatest_number
  pub numbered : Numbered L.width H n latest
  pub bounded : (c : ℕ) → c < L.width → start c + writers H c n ≤ L.greatest_state
  pub there : (i c : ℕ) → i < n → c < L.width → touches (H i) c ≡ true → m.present c ≡ true

pub record Rolling (L : Limits) (m : Model) (j : Journal) : Type 0 where
  pub is_rolling_lem : is_rolling m.phase ≡ true
  pub session_given : 0 < m.session
  pub session_left : m.session < L.greatest_number
  pub carded : Carded L m.present
  pub stored_held : (c : ℕ) → c < L.width → m.numbers.stored c ≤ m.numbers.held c
  pub held_reached : (c : ℕ) → c < L.width → m.numbers.held c ≤ m.numbers.reached c
  pub in_hand_lem : (c : ℕ) → c < L.width → m.numbers.reached c ≤ m.numbers.base c + L.in_hand
  pub entries : (c : ℕ) → c < L.width
      → (entries_valid L (λ i. m.present c && m.present i) (m.memory.last c) ≡ true) × (entries_valid L (λ i. m.present c && m.present i) (m.memory.pending c) ≡ true)
  pub none_open : (p : ℕ) → p < L.slots → is_open (m.slot p) ≡ false
  -- a card already rolled has all four numbers at the line, another its stored number
  pub lowered : (c : ℕ) → c < L.width → m.rolled c ≡ true → (m.numbers.base c ≡ m.line c) × (m.numbers.stored c ≡ m.line c) × (m.numbers.held c ≡ m.line c) × (m.numbers.reached c ≡ m.line c)
  pub kept : (c : ℕ) → c < L.width → m.present c ≡ true → m.rolled c ≡ false → m.numbers.stored c ≡ j.stored c
  pub some_left : within L m.present m.rolled ≡ false
  pub about : (H : History) → Agree (history_of j.history) H (length j.history) → AboutLine L m j.start (length j.history) j.stored m.line H

-- the journal has noted that line, and marked those cards
pub record LineNoted (L : Limits) (m : Model) (j : Journal) : Type 0 where
  pub line : Numbers
  pub marked : CardSet
  pub is_noted : j.fix ≡ fixing line marked
  pub line_is_lem : (c : ℕ) → c < L.width → line c ≡ m.line c
  pub marked_is : (c : ℕ) → c < L.width → m.present c ≡ true → marked c ≡ m.rolled c

module _ (L : Limits) (m : Model) (j : Journal) (r : Rolling L m j) where
  abbrev H₀ : History
  H₀ = history_of j.history

  about₀ : AboutLine L m j.start (length j.history) j.stored m.line H₀
  about₀ = r.about H₀ (λ i h. refl)

  base_line : (c : ℕ) → c < L.width → m.numbers.base c ≤ m.line c
  base_line c l = rw (about₀.line_right c l) (about₀.intact.base_line c l)

  line_stored : (c : ℕ) → c < L.width → m.line c ≤ m.numbers.stored c
  line_stored c l = rw (about₀.line_right c l) (about₀.intact.line_stored c l)

  line_bounded : (c : ℕ) → c < L.width → m.line c ≤ L.greatest_state
  line_bounded c l = le_trans (line_stored c l) (le_trans (about₀.intact.stored_reached c l) (le_trans (about₀.intact.reached_top c l) (about₀.bounded c l)))

  -- a cabinet that rolls is never refused with 28
  pub rolling_valid : Writes L m → valid L m ≡ true
  rolling_valid w =
      and_intro
      (and_intro
      (and_intro
      (and_intro (and_intro (not_intro (ne_eqb m.session 0 (λ (z : m.session ≡ 0). absurd (omega (arith, r.session_given, z)))))
      (not_intro (ap₂ (λ (a b : Bool). a && b) r.is_rolling_lem (ne_eqb m.session L.greatest_number (λ (z : m.session ≡ L.greatest_number). absurd (omega (arith, r.session_left, z)))))))
      (and_intro (any_intro L.width m.present r.carded.one r.carded.is_card_lem r.carded.is_there) (not_intro r.carded.none_beyond)))
      (all_intro L.width (card_valid L m) card))
      (all_intro L.slots (λ p. slot_valid L m (m.slot p)) (λ p l. or_left _ (not_intro (r.none_open p l)))))
      (writes_valid L m w)
    where
      card : (c : ℕ) → c < L.width → card_valid L m c ≡ true
      card c l =
          and_intro (and_intro (r.entries c l).0 (r.entries c l).1)
          (or_right (not (m.present c))
          (and_intro
          (and_intro
          (and_intro (and_intro (and_intro (and_intro (le-leb (m.numbers.base c) (m.numbers.stored c) (le_trans (base_line c l) (line_stored c l))) (le-leb (m.numbers.stored c) (m.numbers.held c) (r.stored_held c l)))
          (le-leb (m.numbers.held c) (m.numbers.reached c) (r.held_reached c l))) (le-leb (m.numbers.reached c) (m.numbers.base c + L.in_hand) (r.in_hand_lem c l)))
          (le-leb (m.numbers.reached c) L.greatest_state (le_trans (about₀.intact.reached_top c l) (about₀.bounded c l))))
          (or_right (not (is_rolling m.phase)) (and_intro (le-leb (m.numbers.base c) (m.line c) (base_line c l)) (le-leb (m.line c) (m.numbers.stored c) (line_stored c l)))))
          (frames_valid_lem L m j.start (length j.history) H₀ about₀.there about₀.bounded about₀.framed about₀.latest about₀.numbered c l (about₀.intact.from_start c l) (about₀.intact.reached_top c l))))

-- ---- fix
-- the line by the records of some cards
line_in_append : (xs ys : List CardRow) (start : Numbers) (c : ℕ) → line_in (xs ++ ys) start c ≡ line_in xs (line_in ys start) c
line_in_append [] ys start c = refl
line_in_append (x ∷ xs) ys start c = ap (λ (y : ℕ). cond (eqb x.card c) x.line y) (line_in_append xs ys start c)

pub line_in_selected : (n : ℕ) (present : CardSet) (stored line start : Numbers) (c : ℕ)
    → line_in (selected n present (λ d. record { card = d; stored = stored d; line = line d })) start c ≡ cond (ltb c n && present c) (line c) (start c)
line_in_selected zero present stored line start c = rw (le-ltb c 0 zero-le)
line_in_selected (suc n) present stored line start c =
    line_in_append (selected n present (λ d. record { card = d; stored = stored d; line = line d })) (cond (present n) (record { card = n; stored = stored n; line = line n } ∷ []) []) start c
    ∙ line_in_selected n present stored line (line_in (cond (present n) (record { card = n; stored = stored n; line = line n } ∷ []) []) start) c
    ∙ step
  where
    last : (b : Bool) → line_in (cond b (record { card = n; stored = stored n; line = line n } ∷ []) []) start n ≡ cond (true && b) (line n) (start n)
    last true = rw (eq-eqb n n refl)
    last false = refl

    other : (b : Bool) → ¬ (c ≡ n) → line_in (cond b (record { card = n; stored = stored n; line = line n } ∷ []) []) start c ≡ start c
    other true q = rw (ne_eqb n c (λ (y : n ≡ c). q (sym y)))
    other false q = refl

    step : cond (ltb c n && present c) (line c) (line_in (cond (present n) (record { card = n; stored = stored n; line = line n } ∷ []) []) start c) ≡ cond (ltb c (suc n) && present c) (line c) (start c)
    step =
        by_cases (dec_lt c n) (λ (z : c < n). rw (lt-ltb c n z, lt-ltb c (suc n) (le_step z), other (present n) (λ (q : c ≡ n). absurd (omega arith))))
        (λ z. by_cases (ℕ_discrete c n) (λ (q : c ≡ n). rw (le-ltb c n (omega (arith, z)), lt-ltb c (suc n) (omega arith), q) (last (present n)))
        (λ q. rw (le-ltb c n (omega (arith, z)), le-ltb c (suc n) (omega (arith, z, q))) (other (present n) q)))

module _ (L : Limits) (m : Model) (j : Journal) (r : Running L m j) where
  abbrev H₁ : History
  H₁ = history_of j.history

  about₁ : About L m j.start (length j.history) r.took r.at H₁
  about₁ = r.about H₁ (λ i h. refl)

  same_stored : (c : ℕ) → c < L.width → m.numbers.stored c ≡ j.stored c
  same_stored c l = sym (r.stored_is c l)

  pub fix_rolls : is_down m.phase ≡ true → m.session < L.greatest_number → Rolling L (edited_all L (fix (lines L m) ∷ []) m) (note_fix j (card_rows L m))
  fix_rolls is_down_lem left =
      record {
        is_rolling_lem = refl;
        session_given = r.session_given;
        session_left = left;
        carded = r.carded;
        stored_held = r.ranges.stored_held;
        held_reached = r.ranges.held_reached;
        in_hand_lem = r.ranges.in_hand_lem;
        entries = tracks_valid L m j r;
        none_open = r.slots_down is_down_lem;
        lowered = λ c l e. clash e refl;
        kept = λ c l here e. same_stored c l;
        some_left =
            fails (within L m.present no_cards)
            (λ e. ⊎_elim (λ (z : not (m.present r.carded.one) ≡ true). clash r.carded.is_there (not_true (m.present r.carded.one) z)) (λ (z : false ≡ true). clash z refl)
            (or_elim (not (m.present r.carded.one)) false (all_at L.width (λ c. not (m.present c) || false) e r.carded.one r.carded.is_card_lem)));
        about = λ H agree. new H (r.about H agree);
      }
    where
      new : (H : History) → About L m j.start (length j.history) r.took r.at H
          → AboutLine L (edited_all L (fix (lines L m) ∷ []) m) j.start (length j.history) j.stored (lines L m) H
      new H a =
          record {
            line_right = λ c l. lines_right L m j r H a c l ∙ line_same L.width H j.start (length j.history) m.numbers.stored j.stored same_stored c l;
            intact = intact_same L.width H j.start (length j.history) same_stored (intact L m j r H a);
            framed = a.framed;
            latest = m.latest;
            count_given = r.count_given;
            numbered = a.numbered;
            bounded = a.bounded;
            there = a.there;
          }

  -- the line that the journal notes is the line fixed
  pub fix_notes : LineNoted L (edited_all L (fix (lines L m) ∷ []) m) (note_fix j (card_rows L m))
  fix_notes =
      record {
        line = line_in (card_rows L m) j.start;
        marked = no_cards;
        is_noted = refl;
        line_is_lem = λ c l. line_in_selected L.width m.present m.numbers.stored (recovery_line L m) j.start c ∙ same c l;
        marked_is = λ c l here. refl;
      }
    where
      same : (c : ℕ) → c < L.width → cond (ltb c L.width && m.present c) (recovery_line L m c) (j.start c) ≡ lines L m c
      same c l =
          test (m.present c) (λ e. rw (lt-ltb c L.width l, e))
          (λ e. rw (lt-ltb c L.width l, e)
          (le_antisymm (r.ranges.from_start c l)
          (le_trans (r.ranges.base_stored c l) (le_trans (r.ranges.stored_held c l) (le_trans (r.ranges.held_reached c l)
          (omega (arith, about₁.levels.high c l, absent_still L m j.start (length j.history) H₁ about₁.there c l e)))))))

-- ---- rolls, and losses while rolling
module _ (L : Limits) (m : Model) (j : Journal) (r : Rolling L m j) where
  pub lose_rolls : (cards : CardSet) (u : ℕ → Noted) → Rolling L (edited_all L (fall cards ∷ []) m) (with_undecided j u)
  lose_rolls cards u =
      record {
        is_rolling_lem = r.is_rolling_lem;
        session_given = r.session_given;
        session_left = r.session_left;
        carded = r.carded;
        stored_held = λ c l. cond_case (λ x. m.numbers.stored c ≤ x) (cards c) (λ e. le_refl (m.numbers.stored c)) (λ e. r.stored_held c l);
        held_reached = λ c l. cond_case (λ x. x ≤ m.numbers.reached c) (cards c) (λ e. le_trans (r.stored_held c l) (r.held_reached c l)) (λ e. r.held_reached c l);
        in_hand_lem = r.in_hand_lem;
        entries = r.entries;
        none_open = r.none_open;
        lowered = λ c l e. let q = r.lowered c l e in
            (q.0, q.1, cond_case (λ x. x ≡ m.line c) (cards c) (λ z. q.1) (λ z. q.2), q.3);
        kept = r.kept;
        some_left = r.some_left;
        about = λ H agree. let a : AboutLine L m j.start (length j.history) j.stored m.line H = r.about H agree in
            record { line_right = a.line_right; intact = a.intact; framed = a.framed; latest = a.latest; count_given = a.count_given; numbered = a.numbered; bounded = a.bounded; there = a.there };
      }

  module _ (c : ℕ) (l : c < L.width) where
    -- the numbers of a card that goes to its line
    abbrev low : Numbers → Numbers
    low f = put f c (m.line c)

    low_le : (f g : Numbers) → ((d : ℕ) → d < L.width → f d ≤ g d) → (d : ℕ) → d < L.width → low f d ≤ low g d
    low_le f g h d ld =
        by_cases (ℕ_discrete d c) (λ (q : d ≡ c). rw (q, put_same f c (m.line c), put_same g c (m.line c)) (le_refl (m.line c)))
        (λ q. rw (put_other f c (m.line c) d q, put_other g c (m.line c) d q) (h d ld))

    -- a card that goes to its line has it at all four numbers
    now_lowered : (d : ℕ) → d < L.width → with_card m.rolled c d ≡ true
        → (low m.numbers.base d ≡ m.line d) × (low m.numbers.stored d ≡ m.line d) × (low m.numbers.held d ≡ m.line d) × (low m.numbers.reached d ≡ m.line d)
    now_lowered d ld e =
        by_cases (ℕ_discrete d c)
        (λ (q : d ≡ c). rw (q, put_same m.numbers.base c (m.line c), put_same m.numbers.stored c (m.line c), put_same m.numbers.held c (m.line c), put_same m.numbers.reached c (m.line c)) (refl, refl, refl, refl))
        (λ q. rw (put_other m.numbers.base c (m.line c) d q, put_other m.numbers.stored c (m.line c) d q, put_other m.numbers.held c (m.line c) d q, put_other m.numbers.reached c (m.line c) d q)
        (r.lowered d ld (rw (ne_eqb d c q) at e)))

    intact_lowered : (H : History) → AboutLine L m j.start (length j.history) j.stored m.line H
        → Intact L.width H j.start (length j.history) j.stored (low m.numbers.base) (low m.numbers.stored) (low m.numbers.reached) (put m.memory.frame c (λ x. no_entries))
    intact_lowered H a =
        intact_lower L.width H j.start (length j.history) a.intact
        (λ d ld. put_case (λ y x. m.numbers.base y ≤ x) m.numbers.base c (m.line c) d (λ (q : d ≡ c). rw q (base_line L m j r c l)) (λ q. le_refl (m.numbers.base d)))
        (λ d ld. put_case (λ y x. x ≤ line_at L.width H j.start (length j.history) j.stored y) m.numbers.base c (m.line c) d
        (λ (q : d ≡ c). rw q (rw (a.line_right c l) (le_refl _))) (λ q. a.intact.base_line d ld))
        (λ d ld. put_case (λ y x. line_at L.width H j.start (length j.history) j.stored y ≤ x) m.numbers.stored c (m.line c) d
        (λ (q : d ≡ c). rw q (rw (a.line_right c l) (le_refl _))) (λ q. a.intact.line_stored d ld))
        (λ d ld. put_case (λ y x. x ≤ m.numbers.stored y) m.numbers.stored c (m.line c) d (λ (q : d ≡ c). rw q (line_stored L m j r c l)) (λ q. le_refl (m.numbers.stored d)))
        (low_le m.numbers.stored m.numbers.reached a.intact.stored_reached)
        (λ d ld. put_case (λ y x. x ≤ m.numbers.reached y) m.numbers.reached c (m.line c) d (λ (q : d ≡ c). rw q (le_trans (line_stored L m j r c l) (a.intact.stored_reached c l))) (λ q. le_refl (m.numbers.reached d)))
        (λ d x i ld li y z. by_cases (ℕ_discrete d c)
        (λ (q : d ≡ c). empty x (rw (q, put_same m.numbers.base c (m.line c)) at y) (rw (q, put_same m.numbers.reached c (m.line c)) at z))
        (λ q. ap (λ (f : ℕ → Vector). f x i) (put_other m.memory.frame c (λ x. no_entries) d q)))
      where
        empty : {A : Type 0} (x : ℕ) → m.line c < x → x ≤ m.line c → A
        empty x y z = absurd (omega arith)

    framed_lowered : (H : History) → AboutLine L m j.start (length j.history) j.stored m.line H
        → Framed L.width H j.start (length j.history) (low m.numbers.base) (low m.numbers.reached) (put m.memory.change c (λ x. 0)) (put m.memory.frame c (λ x. no_entries))
    framed_lowered H a =
        record {
          number_is = λ i d h ld e y z. by_cases (ℕ_discrete d c) (λ (q : d ≡ c). empty i d q y z)
              (λ q. ap (λ (f : ℕ → ℕ). f (made H j.start i d)) (put_other m.memory.change c (λ x. 0) d q)
              ∙ a.framed.number_is i d h ld e (rw (put_other m.numbers.base c (m.line c) d q) at y) (rw (put_other m.numbers.reached c (m.line c) d q) at z));
          vector_is_lem = λ i d k h ld lk e y z. by_cases (ℕ_discrete d c) (λ (q : d ≡ c). empty i d q y z)
              (λ q. ap (λ (f : ℕ → Vector). f (made H j.start i d) k) (put_other m.memory.frame c (λ x. no_entries) d q)
              ∙ a.framed.vector_is_lem i d k h ld lk e (rw (put_other m.numbers.base c (m.line c) d q) at y) (rw (put_other m.numbers.reached c (m.line c) d q) at z));
        }
      where
        empty : {A : Type 0} (i d : ℕ) → d ≡ c → low m.numbers.base d < made H j.start i d → made H j.start i d ≤ low m.numbers.reached d → A
        empty i d q y z =
            let b : low m.numbers.base d ≡ m.line c = ap (low m.numbers.base) q ∙ put_same m.numbers.base c (m.line c) in
            let t : low m.numbers.reached d ≡ m.line c = ap (low m.numbers.reached) q ∙ put_same m.numbers.reached c (m.line c) in
            absurd (omega arith)

    pub roll_rolls : (f : Fixing) → within L m.present (with_card m.rolled c) ≡ false
        → Rolling L (edited_all L (lower c ∷ []) m) (record { start = j.start; stored = j.stored; undecided = j.undecided; history = j.history; fix = f })
    roll_rolls f left =
        record {
          is_rolling_lem = r.is_rolling_lem;
          session_given = r.session_given;
          session_left = r.session_left;
          carded = r.carded;
          stored_held = low_le m.numbers.stored m.numbers.held r.stored_held;
          held_reached = low_le m.numbers.held m.numbers.reached r.held_reached;
          in_hand_lem = λ d ld. by_cases (ℕ_discrete d c) (λ (q : d ≡ c). rw (q, put_same m.numbers.base c (m.line c), put_same m.numbers.reached c (m.line c)) (omega arith))
              (λ q. rw (put_other m.numbers.base c (m.line c) d q, put_other m.numbers.reached c (m.line c) d q) (r.in_hand_lem d ld));
          entries = r.entries;
          none_open = r.none_open;
          lowered = now_lowered;
          kept = λ d ld here e. let q : ¬ (d ≡ c) = λ (y : d ≡ c). clash (or_left (m.rolled d) (eq-eqb d c y)) e in
              put_other m.numbers.stored c (m.line c) d q ∙ r.kept d ld here (fails (m.rolled d) (λ y. clash (or_right (eqb d c) y) e));
          some_left = left;
          about = λ H agree. let a : AboutLine L m j.start (length j.history) j.stored m.line H = r.about H agree in
              record { line_right = a.line_right; intact = intact_lowered H a; framed = framed_lowered H a; latest = a.latest; count_given = a.count_given; numbered = a.numbered; bounded = a.bounded; there = a.there };
        }

    -- ---- the last roll: a session begins at the line
    module _ (k : LineNoted L m j) (all : within L m.present (with_card m.rolled c) ≡ true) where
      abbrev renewed : Model
      renewed = edited_all L (lower c ∷ renew ∷ []) m

      abbrev begun : Journal
      begun = record { start = k.line; stored = k.line; undecided = j.undecided; history = []; fix = unfixed }

      -- a card that is not there stands at its line too
      absent_line : (d : ℕ) → d < L.width → m.present d ≡ false → (m.numbers.base d ≡ m.line d) × (m.numbers.stored d ≡ m.line d) × (m.numbers.held d ≡ m.line d) × (m.numbers.reached d ≡ m.line d)
      absent_line d ld e =
          let a : AboutLine L m j.start (length j.history) j.stored m.line (history_of j.history) = about₀ L m j r in
          let z : writers (history_of j.history) d (length j.history) ≡ 0 = absent_still L m j.start (length j.history) (history_of j.history) a.there d ld e in
          let b1 = base_line L m j r d ld in
          let b2 = line_stored L m j r d ld in
          let b3 = r.stored_held d ld in
          let b4 = r.held_reached d ld in
          let b5 = a.intact.reached_top d ld in
          let b6 = a.intact.from_start d ld in
          (omega arith, omega arith, omega arith, omega arith)

      all_lowered : (d : ℕ) → d < L.width → (low m.numbers.base d ≡ k.line d) × (low m.numbers.stored d ≡ k.line d) × (low m.numbers.held d ≡ k.line d) × (low m.numbers.reached d ≡ k.line d)
      all_lowered d ld =
          rw (k.line_is_lem d ld)
          (test (with_card m.rolled c d) (now_lowered d ld)
          (λ e. let q : ¬ (d ≡ c) = λ (y : d ≡ c). clash (or_left (m.rolled d) (eq-eqb d c y)) e in
          rw (put_other m.numbers.base c (m.line c) d q, put_other m.numbers.stored c (m.line c) d q, put_other m.numbers.held c (m.line c) d q, put_other m.numbers.reached c (m.line c) d q)
          (absent_line d ld
          (⊎_elim (λ (y : not (m.present d) ≡ true). not_true (m.present d) y) (λ (y : with_card m.rolled c d ≡ true). clash y e)
          (or_elim (not (m.present d)) (with_card m.rolled c d) (all_at L.width (λ x. not (m.present x) || with_card m.rolled c x) all d ld))))))

      line_le : (d : ℕ) → d < L.width → k.line d ≤ L.greatest_state
      line_le d ld = rw (k.line_is_lem d ld) (line_bounded L m j r d ld)

      pub renew_runs : Running L renewed begun
      renew_runs =
          record {
            took = λ i d. false;
            at = λ p. 0;
            not_rolling = refl;
            session_given = omega arith;
            session_fits = r.session_left;
            count_given = zero-le;
            carded = r.carded;
            ranges =
                record {
                  from_start = λ d ld. omega (arith, (all_lowered d ld).0);
                  base_stored = λ d ld. omega (arith, (all_lowered d ld).0, (all_lowered d ld).1);
                  stored_held = λ d ld. omega (arith, (all_lowered d ld).1, (all_lowered d ld).2);
                  held_reached = λ d ld. omega (arith, (all_lowered d ld).2, (all_lowered d ld).3);
                  in_hand_lem = λ d ld. omega (arith, (all_lowered d ld).0, (all_lowered d ld).3);
                  all_held = λ u d ld. (all_lowered d ld).2 ∙ sym (all_lowered d ld).3;
                };
            stored_is = λ d ld. sym (all_lowered d ld).1;
            not_fixed = refl;
            slots_open =
                record {
                  opened = λ p lp e. clash e (r.none_open p lp);
                  noted = λ p lp e. clash e (r.none_open p lp);
                  apart = λ p q lp lq d e. clash e (r.none_open p lp);
                  strangers = λ p q d lp lq ld ne e. clash e (r.none_open p lp);
                };
            slots_down = λ d p lp. r.none_open p lp;
            about = λ H a.
                record {
                  orderly = record { decided_only = λ i d t. clash t refl; earlier_taken = λ i q d x y ld e. absurd (not-suc-le-zero y) };
                  levels =
                      record {
                        low = λ d ld. omega (arith, (all_lowered d ld).3);
                        high = λ d ld. omega (arith, (all_lowered d ld).3);
                        up_to = λ i d h ld e t. absurd (not-suc-le-zero h);
                        taken = λ i d h ld e z. absurd (not-suc-le-zero h);
                      };
                  tracks = record { last_is = λ d i ld li. greatest_none i (λ t b. not-suc-le-zero b.1); pending_is = λ d i ld li. greatest_none i (λ t b. not-suc-le-zero b.1) };
                  framed = record { number_is = λ i d h ld e x y. absurd (not-suc-le-zero h); vector_is_lem = λ i d q h ld lq e x y. absurd (not-suc-le-zero h) };
                  based = record { cut = λ i d q h ld lq e z. absurd (not-suc-le-zero h) };
                  numbered = record { positive = λ i h. absurd (not-suc-le-zero h); given = λ i h. absurd (not-suc-le-zero h); distinct = λ i q x y. absurd (not-suc-le-zero y); rising = λ i q d x y ld e. absurd (not-suc-le-zero y) };
                  bounded = λ d ld. omega (arith, line_le d ld);
                  there = λ i d h ld e. absurd (not-suc-le-zero h);
                  standing = record { stood = λ p lp e. clash e (r.none_open p lp); waits = λ p lp e. clash e (r.none_open p lp) };
                  open_untaken = λ u i d h ld e t. absurd (not-suc-le-zero h);
                  ended_untaken = λ d. clash d refl;
                  ended_real = λ d. clash d refl;
                };
          }
