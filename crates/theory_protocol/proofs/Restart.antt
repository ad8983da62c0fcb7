-- What a restarted cabinet has of the old one, running or rolling back, and that the invariant follows from that alone: the line that the journal notes is fixed, and the same cards have rolled. Assumes nothing.
use Rattle.std.specs.Prelude.{Ok, Err}
use Prim.Native.Nat.{ℕ, ◌+◌, ◌≤◌, ◌<◌}
use mathlib.Core.Path.{◌≡◌, refl, sym, ◌∙◌, ap, ap₂, subst}
use mathlib.Core.Bool.{Bool, true, false, not, ◌&&◌, ◌||◌, cond}
use mathlib.Core.Logic.{inr, by_cases, ⊎_elim}
use native.Mathlib.Nat.{le_refl, le_trans, le_of_eq}
use native.Mathlib.Decide.{dec_lt}
use native.Mathlib.Omega.{arith}
use lib.Dec.{leb, ltb}
use lib.ListN.{length}
use borrow.Author.Tests.{lt-ltb, le-ltb}
use Rattle.base_laws.proofs.Logic.{test, clash, fails, and_right, and_intro, or_elim, not_true}
use Rattle.base_laws.proofs.Below.{all_same, all_at, all_intro}
use Rattle.base_refusal.specs.declared.Refusal.TheVariants.{LimitReached}
use Rattle.theory_history.specs.Change.{CardSet, History, Numbers, writers, made, history_of}
use Rattle.theory_history.specs.Vector.{Vector, vector}
use Rattle.theory_history.specs.Line.{line_from}
use Rattle.theory_history.proofs.Writers.{Maker, maker}
use Rattle.theory_history.proofs.Precedence.{writes_touches, up_to_le}
use Rattle.theory_history.proofs.Vectors.{vector_greatest}
use Rattle.theory_history.proofs.Appending.{Agree}
use Rattle.theory_protocol.specs.Model.{Limits, is_rolling, Model, no_cards, has_rolled, is_open, within}
use Rattle.theory_protocol.specs.Valid.{entries_valid, valid}
use Rattle.theory_protocol.specs.Codec.{Codec}
use Rattle.theory_protocol.specs.Calls.{lines}
use Rattle.theory_protocol.specs.Journal.{Journal, Noted, struck, Fixing, fixing, greatest_line, note_restart_of, note_restart}
use Rattle.theory_protocol.proofs.Intact.{Intact, line_at, bridge, line_same, intact_same, intact_lower}
use Rattle.theory_protocol.proofs.Running.{About, Carded, Running}
use Rattle.theory_protocol.proofs.Stores.{intact, lines_right, absent_still}
use Rattle.theory_protocol.proofs.Writes.{Writes, none_writes}
use Rattle.theory_protocol.proofs.Validity.{running_valid, entry_valid, greatest_valid}
use Rattle.theory_protocol.proofs.Passed.{session_not_0}
use Rattle.theory_protocol.proofs.Rolling.{AboutLine, Rolling, LineNoted, rolling_valid}
use Rattle.theory_protocol.proofs.Invariant.{RollingBack, Invariant}

-- what the restarted cabinet m' has of the cabinet m: cards, bases, stored numbers, frames from base + 1 to stored, the cards rolled, the session; nothing is open
pub record Recalled (L : Limits) (m m' : Model) : Type 0 where
  pub rolls : is_rolling m'.phase ≡ true
  pub session : m'.session ≡ m.session
  pub cards : (c : ℕ) → m'.present c ≡ m.present c
  pub base : (c : ℕ) → c < L.width → m.present c ≡ true → m'.numbers.base c ≡ m.numbers.base c
  pub stored : (c : ℕ) → c < L.width → m.present c ≡ true → m'.numbers.stored c ≡ m.numbers.stored c
  -- a card that is not there stands at 0
  pub absent : (c : ℕ) → c < L.width → m.present c ≡ false → (m'.numbers.base c ≡ 0) × (m'.numbers.stored c ≡ 0)
  -- "Held and reached are the stored number"
  pub held : m'.numbers.held ≡ m'.numbers.stored
  pub reached : m'.numbers.reached ≡ m'.numbers.stored
  pub change : (c x : ℕ) → c < L.width → m.present c ≡ true → m.numbers.base c < x → x ≤ m.numbers.stored c → m'.memory.change c x ≡ m.memory.change c x
  pub frame : (c x i : ℕ) → c < L.width → i < L.width → m.present c ≡ true → m.present i ≡ true → m.numbers.base c < x → x ≤ m.numbers.stored c
      → m'.memory.frame c x i ≡ m.memory.frame c x i
  -- an entry of a card that is not there is none
  pub no_entry : (c x i : ℕ) → c < L.width → i < L.width → m.present c ≡ true → m.present i ≡ false → m.numbers.base c < x → x ≤ m.numbers.stored c → m'.memory.frame c x i ≡ 0
  -- "last and pending are those of the card's last frame or all none"
  pub last : (c i : ℕ) → m'.memory.last c i ≡ cond (ltb (m'.numbers.base c) (m'.numbers.stored c)) (m'.memory.frame c (m'.numbers.stored c) i) 0
  pub pending : m'.memory.pending ≡ m'.memory.last
  -- "no change is open"
  pub none_open : (p : ℕ) → p < L.slots → is_open (m'.slot p) ≡ false
  -- and no write is running
  pub none_writing : (c : ℕ) → m'.writing c ≡ 0
  -- "cards one session ahead latest as rolled"
  pub rolled : (c : ℕ) → c < L.width → m.present c ≡ true → m'.rolled c ≡ has_rolled m c
  pub none_rolled : (c : ℕ) → c < L.width → m.present c ≡ false → m'.rolled c ≡ false
  -- "with the line fixed"
  pub line : (c : ℕ) → c < L.width → m'.line c ≡ line_from L.width m'.numbers.stored (m'.memory.frame c) (m'.numbers.base c) (m'.numbers.stored c)

-- what is known of a cabinet, running or rolling back, whose sheets are read again: its line is the greatest choice of the journal's stored numbers
pub record Recallable (L : Limits) (m : Model) (j : Journal) : Type 0 where
  pub passes : valid L m ≡ true
  pub session_fits : m.session ≤ L.greatest_number
  pub session_left : is_rolling m.phase ≡ true → m.session < L.greatest_number
  pub carded : Carded L m.present
  pub in_hand_lem : (c : ℕ) → c < L.width → m.numbers.reached c ≤ m.numbers.base c + L.in_hand
  -- a card already rolled stands at the line, another at its stored number
  pub lowered : (c : ℕ) → c < L.width → has_rolled m c ≡ true → (m.numbers.base c ≡ greatest_line L j c) × (m.numbers.stored c ≡ greatest_line L j c)
  pub kept : (c : ℕ) → c < L.width → m.present c ≡ true → has_rolled m c ≡ false → m.numbers.stored c ≡ j.stored c
  pub some_left : within L m.present (has_rolled m) ≡ false
  pub about : (H : History) → Agree (history_of j.history) H (length j.history) → AboutLine L m j.start (length j.history) j.stored (greatest_line L j) H

-- a cabinet that rolls back
pub rolling_recallable : (L : Limits) (m : Model) (j : Journal) → Writes L m → Rolling L m j → Recallable L m j
rolling_recallable L m j w r =
    record {
      passes = rolling_valid L m j r w;
      session_fits = omega (arith, r.session_left);
      session_left = λ e. r.session_left;
      carded = r.carded;
      in_hand_lem = r.in_hand_lem;
      lowered = λ c l e. let q = r.lowered c l (and_right (is_rolling m.phase) (m.rolled c) e) in
          (q.0 ∙ at_line_lem c l, q.1 ∙ at_line_lem c l);
      kept = λ c l here e. r.kept c l here (sym (same c) ∙ e);
      some_left = all_same L.width (λ c. not (m.present c) || has_rolled m c) (λ c. not (m.present c) || m.rolled c) (λ c l. ap (λ (b : Bool). not (m.present c) || b) (same c)) ∙ r.some_left;
      about = λ H agree. let a : AboutLine L m j.start (length j.history) j.stored m.line H = r.about H agree in
          record {
            line_right = λ c l. sym (at_line_lem c l) ∙ a.line_right c l;
            intact = a.intact;
            framed = a.framed;
            latest = a.latest;
            count_given = a.count_given;
            numbered = a.numbered;
            bounded = a.bounded;
            there = a.there;
          };
    }
  where
    at_line_lem : (c : ℕ) → c < L.width → m.line c ≡ greatest_line L j c
    at_line_lem c l = (r.about (history_of j.history) (λ i h. refl)).line_right c l

    same : (c : ℕ) → has_rolled m c ≡ m.rolled c
    same c = ap (λ (b : Bool). b && m.rolled c) r.is_rolling_lem

-- a cabinet that runs, whatever the journal notes of its undecided changes and its line
pub running_recallable : (L : Limits) (m : Model) (j : Journal) (u : ℕ → Noted) (f : Fixing) → Writes L m → Running L m j
    → Recallable L m (record { start = j.start; stored = j.stored; undecided = u; history = j.history; fix = f })
running_recallable L m j u f w r =
    record {
      passes = running_valid L m j r w;
      session_fits = r.session_fits;
      session_left = λ e. clash e r.not_rolling;
      carded = r.carded;
      in_hand_lem = r.ranges.in_hand_lem;
      lowered = λ c l e. clash e (none_rolled c);
      kept = λ c l here e. same_stored c l;
      some_left =
          fails (within L m.present (has_rolled m))
          (λ e. ⊎_elim (λ (z : not (m.present r.carded.one) ≡ true). clash r.carded.is_there (not_true (m.present r.carded.one) z))
          (λ (z : has_rolled m r.carded.one ≡ true). clash z (none_rolled r.carded.one))
          (or_elim (not (m.present r.carded.one)) (has_rolled m r.carded.one) (all_at L.width (λ c. not (m.present c) || has_rolled m c) e r.carded.one r.carded.is_card_lem)));
      about = λ H agree. let a : About L m j.start (length j.history) r.took r.at H = r.about H agree in
          record {
            line_right = λ c l. sym (right (history_of j.history) (r.about (history_of j.history) (λ i h. refl)) c l) ∙ right H a c l;
            intact = intact_same L.width H j.start (length j.history) same_stored (intact L m j r H a);
            framed = a.framed;
            latest = m.latest;
            count_given = r.count_given;
            numbered = a.numbered;
            bounded = a.bounded;
            there = a.there;
          };
    }
  where
    none_rolled : (c : ℕ) → has_rolled m c ≡ false
    none_rolled c = ap (λ (b : Bool). b && m.rolled c) r.not_rolling

    same_stored : (c : ℕ) → c < L.width → m.numbers.stored c ≡ j.stored c
    same_stored c l = sym (r.stored_is c l)

    right : (H : History) → About L m j.start (length j.history) r.took r.at H → (c : ℕ) → c < L.width → lines L m c ≡ line_at L.width H j.start (length j.history) j.stored c
    right H a c l = lines_right L m j r H a c l ∙ line_same L.width H j.start (length j.history) m.numbers.stored j.stored same_stored c l

module _ (L : Limits) (n : CardSet) (m m' : Model) (j : Journal) (present_is : (c : ℕ) → m.present c ≡ n c) (absent_start : (c : ℕ) → c < L.width → n c ≡ false → j.start c ≡ 0)
    (r : Recallable L m j) (k : Recalled L m m') where
  abbrev H₀ : History
  H₀ = history_of j.history

  abbrev N : ℕ
  N = length j.history

  a₀ : AboutLine L m j.start N j.stored (greatest_line L j) H₀
  a₀ = r.about H₀ (λ i h. refl)

  -- a card that is not there stands at 0
  absent_numbers : (c : ℕ) → c < L.width → m.present c ≡ false → (m.numbers.base c ≡ 0) × (m.numbers.stored c ≡ 0)
  absent_numbers c l e =
      let z : writers H₀ c N ≡ 0 = absent_still L m j.start N H₀ a₀.there c l e in
      let s : j.start c ≡ 0 = absent_start c l (sym (present_is c) ∙ e) in
      let b1 = a₀.intact.base_line c l in
      let b2 = a₀.intact.line_stored c l in
      let b3 = a₀.intact.stored_reached c l in
      let b4 = a₀.intact.reached_top c l in
      (omega arith, omega arith)

  base_same : (c : ℕ) → c < L.width → m'.numbers.base c ≡ m.numbers.base c
  base_same c l = test (m.present c) (λ e. k.base c l e) (λ e. (k.absent c l e).0 ∙ sym (absent_numbers c l e).0)

  stored_same : (c : ℕ) → c < L.width → m'.numbers.stored c ≡ m.numbers.stored c
  stored_same c l = test (m.present c) (λ e. k.stored c l e) (λ e. (k.absent c l e).1 ∙ sym (absent_numbers c l e).1)

  -- a state that is stored is one of a card that is there
  stored_there : (c x : ℕ) → c < L.width → m.numbers.base c < x → x ≤ m.numbers.stored c → m.present c ≡ true
  stored_there c x l a b = test (m.present c) (λ e. e) (λ e. absurd (omega (arith, (absent_numbers c l e).1, b, a)))

  change_same : (c x : ℕ) → c < L.width → m.numbers.base c < x → x ≤ m.numbers.stored c → m'.memory.change c x ≡ m.memory.change c x
  change_same c x l a b = k.change c x l (stored_there c x l a b) a b

  -- an entry of a card that is not there is none
  entry_none : (c x i : ℕ) → c < L.width → i < L.width → m.present i ≡ false → m.numbers.base c < x → x ≤ m.numbers.stored c → m.memory.frame c x i ≡ 0
  entry_none c x i l li e a b =
      let t : Maker H₀ j.start N c x = maker H₀ j.start N c x (omega (arith, a₀.intact.from_start c l, a)) (omega (arith, b, a₀.intact.stored_reached c l, a₀.intact.reached_top c l)) in
      let q : m.memory.frame c x i ≡ vector L.width H₀ j.start t.at i =
      ap (λ (y : ℕ). m.memory.frame c y i) (sym t.makes) ∙ a₀.intact.vectors t.at c i t.in_history l li t.wrote (omega (arith, t.makes, a)) (omega (arith, t.makes, b, a₀.intact.stored_reached c l)) in
      by_cases (dec_lt 0 (vector L.width H₀ j.start t.at i))
      (λ z. clash (greatest_valid L m.present j.start N H₀ a₀.there a₀.bounded li (vector_greatest L.width H₀ j.start t.at i li) (λ y u. omega (arith, t.in_history, up_to_le u)) z).0 e)
      (λ z. omega (arith, q, z))

  frame_same : (c x i : ℕ) → c < L.width → i < L.width → m.numbers.base c < x → x ≤ m.numbers.stored c → m'.memory.frame c x i ≡ m.memory.frame c x i
  frame_same c x i l li a b =
      test (m.present i) (λ e. k.frame c x i l li (stored_there c x l a b) e a b)
      (λ e. k.no_entry c x i l li (stored_there c x l a b) e a b ∙ sym (entry_none c x i l li e a b))

  -- by stored numbers, which are those reached
  intact_stored : (H : History) → AboutLine L m j.start N j.stored (greatest_line L j) H
      → Intact L.width H j.start N j.stored m'.numbers.base m'.numbers.stored m'.numbers.stored m'.memory.frame
  intact_stored H a =
      intact_lower L.width H j.start N a.intact
      (λ c l. le_of_eq (sym (base_same c l)))
      (λ c l. rw (base_same c l) (a.intact.base_line c l))
      (λ c l. rw (stored_same c l) (a.intact.line_stored c l))
      (λ c l. le_of_eq (stored_same c l))
      (λ c l. le_refl (m'.numbers.stored c))
      (λ c l. rw (stored_same c l) (a.intact.stored_reached c l))
      (λ c x i l li y z. frame_same c x i l li (rw (base_same c l) at y) (rw (stored_same c l) at z))

  intact_again : (H : History) → AboutLine L m j.start N j.stored (greatest_line L j) H
      → Intact L.width H j.start N j.stored m'.numbers.base m'.numbers.stored m'.numbers.reached m'.memory.frame
  intact_again H a =
      subst (λ (q : Numbers). Intact L.width H j.start N j.stored m'.numbers.base m'.numbers.stored q m'.memory.frame) (sym k.reached) (intact_stored H a)

  -- the line is fixed again
  pub line_again : (c : ℕ) → c < L.width → m'.line c ≡ greatest_line L j c
  line_again c l = k.line c l ∙ bridge L.width H₀ j.start N (intact_stored H₀ a₀) c l

  held_is : (c : ℕ) → m'.numbers.held c ≡ m'.numbers.stored c
  held_is c = ap (λ (f : Numbers). f c) k.held

  reached_is : (c : ℕ) → m'.numbers.reached c ≡ m'.numbers.stored c
  reached_is c = ap (λ (f : Numbers). f c) k.reached

  entries_again : (c : ℕ) → c < L.width → entries_valid L (λ i. m'.present c && m'.present i) (m'.memory.last c) ≡ true
  entries_again c l =
      all_intro L.width (λ i. leb (m'.memory.last c i) (cond (m'.present c && m'.present i) L.greatest_state 0))
      (λ i li. entry_valid (m'.memory.last c i) L.greatest_state (m'.present c && m'.present i)
      (λ z. by_cases (dec_lt (m'.numbers.base c) (m'.numbers.stored c)) (λ h. of_maker i li h z) (λ h. absurd (nothing_there i h z))))
    where
      nothing_there : (i : ℕ) → ¬ (m'.numbers.base c < m'.numbers.stored c) → 0 < m'.memory.last c i → ⊥
      nothing_there i h z =
          let e : ltb (m'.numbers.base c) (m'.numbers.stored c) ≡ false = le-ltb (m'.numbers.base c) (m'.numbers.stored c) (omega (arith, h)) in
          let q : m'.memory.last c i ≡ 0 = k.last c i ∙ ap (λ (b : Bool). cond b (m'.memory.frame c (m'.numbers.stored c) i) 0) e in
          omega (arith, q, z)

      of_maker : (i : ℕ) → i < L.width → m'.numbers.base c < m'.numbers.stored c → 0 < m'.memory.last c i → (m'.present c && m'.present i ≡ true) × (m'.memory.last c i ≤ L.greatest_state)
      of_maker i li h z =
          let x : ℕ = m'.numbers.stored c in
          let t : Maker H₀ j.start N c x = maker H₀ j.start N c x (omega (arith, h, (intact_stored H₀ a₀).from_start c l)) ((intact_stored H₀ a₀).reached_top c l) in
          let q : m'.memory.last c i ≡ vector L.width H₀ j.start t.at i =
          k.last c i ∙ ap (λ (b : Bool). cond b (m'.memory.frame c x i) 0) (lt-ltb (m'.numbers.base c) (m'.numbers.stored c) h)
          ∙ ap (λ (y : ℕ). m'.memory.frame c y i) (sym t.makes) ∙ (intact_stored H₀ a₀).vectors t.at c i t.in_history l li t.wrote (omega (arith, t.makes, h)) (omega (arith, t.makes)) in
          let g : (m.present i ≡ true) × (vector L.width H₀ j.start t.at i ≤ L.greatest_state) =
          greatest_valid L m.present j.start N H₀ a₀.there a₀.bounded li (vector_greatest L.width H₀ j.start t.at i li) (λ y u. omega (arith, t.in_history, up_to_le u)) (omega (arith, q, z)) in
          (and_intro (k.cards c ∙ a₀.there t.at c t.in_history l (writes_touches (H₀ t.at) c t.wrote)) (k.cards i ∙ g.0), omega (arith, q, g.1))

  entries_pending : (c : ℕ) → c < L.width → entries_valid L (λ i. m'.present c && m'.present i) (m'.memory.pending c) ≡ true
  entries_pending c l = subst (λ (v : ℕ → Vector). entries_valid L (λ i. m'.present c && m'.present i) (v c) ≡ true) (sym k.pending) (entries_again c l)

  rolled_there : (c : ℕ) → c < L.width → m'.rolled c ≡ true → m.present c ≡ true
  rolled_there c l e = test (m.present c) (λ y. y) (λ y. clash e (k.none_rolled c l y))

  restart_rolls : m.session < L.greatest_number → Rolling L m' j
  restart_rolls left =
      record {
        is_rolling_lem = k.rolls;
        session_given = rw k.session (positive (session_not_0 L m r.passes));
        session_left = rw k.session left;
        carded =
            record {
              one = r.carded.one;
              is_card_lem = r.carded.is_card_lem;
              is_there = k.cards r.carded.one ∙ r.carded.is_there;
              none_beyond = k.cards L.width ∙ r.carded.none_beyond;
              some_session = r.carded.some_session;
            };
        stored_held = λ c l. le_of_eq (sym (held_is c));
        held_reached = λ c l. le_of_eq (held_is c ∙ sym (reached_is c));
        in_hand_lem = λ c l. omega (arith, reached_is c, base_same c l, stored_same c l, r.in_hand_lem c l, a₀.intact.stored_reached c l);
        entries = λ c l. (entries_again c l, entries_pending c l);
        none_open = k.none_open;
        lowered = λ c l e. let q = r.lowered c l (sym (k.rolled c l (rolled_there c l e)) ∙ e) in
            let b : m'.numbers.base c ≡ m'.line c = base_same c l ∙ q.0 ∙ sym (line_again c l) in
            let s : m'.numbers.stored c ≡ m'.line c = stored_same c l ∙ q.1 ∙ sym (line_again c l) in
            (b, s, held_is c ∙ s, reached_is c ∙ s);
        kept = λ c l here e. let h : m.present c ≡ true = sym (k.cards c) ∙ here in stored_same c l ∙ r.kept c l h (sym (k.rolled c l h) ∙ e);
        some_left = all_same L.width (λ c. not (m'.present c) || m'.rolled c) (λ c. not (m.present c) || has_rolled m c) left_same ∙ r.some_left;
        about = λ H agree. let a : AboutLine L m j.start N j.stored (greatest_line L j) H = r.about H agree in
            record {
              line_right = λ c l. line_again c l ∙ a.line_right c l;
              intact = intact_again H a;
              framed =
                  record {
                    number_is = λ i c h l e y z. let w : made H j.start i c ≤ m.numbers.stored c = omega (arith, z, reached_is c, stored_same c l) in
                        change_same c (made H j.start i c) l (rw (base_same c l) at y) w
                        ∙ a.framed.number_is i c h l e (rw (base_same c l) at y) (le_trans w (a.intact.stored_reached c l));
                    vector_is_lem = (intact_again H a).vectors;
                  };
              latest = a.latest;
              count_given = a.count_given;
              numbered = a.numbered;
              bounded = a.bounded;
              there = λ i c h l e. k.cards c ∙ a.there i c h l e;
            };
      }
    where
      positive : ¬ (m.session ≡ 0) → 0 < m.session
      positive z = omega (arith, z)

      left_same : (c : ℕ) → c < L.width → not (m'.present c) || m'.rolled c ≡ not (m.present c) || has_rolled m c
      left_same c l =
          test (m.present c) (λ e. ap₂ (λ (x y : Bool). not x || y) (k.cards c) (k.rolled c l e)) (λ e. rw (k.cards c ∙ e, e))

  -- the journal has noted that line, and marked those cards
  restart_notes : (line : Numbers) (marked : CardSet) → j.fix ≡ fixing line marked → ((c : ℕ) → c < L.width → line c ≡ greatest_line L j c) → ((c : ℕ) → c < L.width → m.present c ≡ true → marked c ≡ has_rolled m c) → LineNoted L m' j
  restart_notes line marked noted line_is_lem marked_is =
      record {
        line = line;
        marked = marked;
        is_noted = noted;
        line_is_lem = λ c l. line_is_lem c l ∙ sym (line_again c l);
        marked_is = λ c l here. let h : m.present c ≡ true = sym (k.cards c) ∙ here in marked_is c l h ∙ sym (k.rolled c l h);
      }

-- a cabinet restarted meets the invariant, with what the journal notes
pub restart_again : (L : Limits) (n : CardSet) (m m' : Model) (j : Journal) → Invariant L n m j → m.session < L.greatest_number → Recalled L m m' → Invariant L n m' (note_restart L j)
restart_again L n m m' j v left k = ⊎_elim ran rolled v.state
  where
    ran : Running L m j → Invariant L n m' (note_restart L j)
    ran r =
        rw r.not_fixed
        (record {
          present_is = λ c. k.cards c ∙ v.present_is c;
          absent_start = v.absent_start;
          state =
              inr
              (record {
                rolls = restart_rolls L n m m' fresh v.present_is v.absent_start q k left;
                notes = restart_notes L n m m' fresh v.present_is v.absent_start q k (greatest_line L j) no_cards refl (λ c l. refl) (λ c l here. sym (ap (λ (b : Bool). b && m.rolled c) r.not_rolling));
              });
          writes = none_writes L m' (λ c l here. k.none_writing c);
        })
      where
        fresh : Journal
        fresh = record { start = j.start; stored = j.stored; undecided = λ i. struck; history = j.history; fix = fixing (greatest_line L j) no_cards }

        q : Recallable L m (record { start = j.start; stored = j.stored; undecided = λ i. struck; history = j.history; fix = fixing (greatest_line L j) no_cards })
        q = running_recallable L m j (λ i. struck) (fixing (greatest_line L j) no_cards) v.writes r

    rolled : RollingBack L m j → Invariant L n m' (note_restart L j)
    rolled r =
        subst (Invariant L n m') (sym (ap (note_restart_of L j) r.notes.is_noted))
        (record {
          present_is = λ c. k.cards c ∙ v.present_is c;
          absent_start = v.absent_start;
          state =
              inr
              (record {
                rolls = restart_rolls L n m m' j v.present_is v.absent_start q k left;
                notes = restart_notes L n m m' j v.present_is v.absent_start q k r.notes.line r.notes.marked r.notes.is_noted
                    (λ c l. r.notes.line_is_lem c l ∙ (r.rolls.about (history_of j.history) (λ i h. refl)).line_right c l)
                    (λ c l here. r.notes.marked_is c l here ∙ sym (ap (λ (b : Bool). b && m.rolled c) r.rolls.is_rolling_lem));
              });
          writes = none_writes L m' (λ c l here. k.none_writing c);
        })
      where
        q : Recallable L m j
        q = rolling_recallable L m j v.writes r.rolls

-- a cabinet of a list
pub recallable : (L : Limits) (n : CardSet) (m : Model) (j : Journal) → Invariant L n m j → Recallable L m j
recallable L n m j v = ⊎_elim (λ (r : Running L m j). running_recallable L m j j.undecided j.fix v.writes r) (λ (r : RollingBack L m j). rolling_recallable L m j v.writes r.rolls) v.state

-- ---- what a list of calls asks of sheets
-- a cabinet's sheets, joined, are accepted, and what restarts from them has of it what it must
pub record Remade (C : Codec) (L : Limits) (m : Model) : Type 0 where
  pub accepts : C.verdict (C.joined L m) ≡ Ok tt
  pub recalled : Recalled L m (C.restarted L (C.joined L m))

pub record CodecLaw (C : Codec) (L : Limits) (n : CardSet) : Type 0 where
  -- the last state of a sheet is the stored one
  pub last_stored : (m : Model) (c : ℕ) → m.numbers.base c ≤ m.numbers.stored c → C.last L m c ≡ m.numbers.stored c
  -- the sheets of all cards say enough, where another session can follow
  pub remade : (m : Model) (j : Journal) → ((c : ℕ) → m.present c ≡ n c) → Recallable L m j → m.session < L.greatest_number → Remade C L m
  -- and are refused with 24 in the last session
  pub last_session : (m : Model) (j : Journal) → ((c : ℕ) → m.present c ≡ n c) → Recallable L m j → L.greatest_number ≤ m.session → C.verdict (C.joined L m) ≡ Err LimitReached
