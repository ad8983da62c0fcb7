-- The cabinet that restarts from an accepted read-out passes 28. Assumes nothing.
use Rattle.std.specs.Prelude.{Ok}
use Prim.Native.Nat.{ℕ, zero, suc, ◌+◌, ◌-◌, ◌≤◌, ◌<◌, zero-le}
use mathlib.Core.Path.{◌≡◌, refl, sym, ◌∙◌, ap, subst}
use mathlib.Core.Bool.{Bool, true, false, not, ◌&&◌, ◌||◌, cond}
use mathlib.Core.Logic.{by_cases}
use mathlib.Core.List.{List}
use native.Mathlib.Nat.{le_refl}
use native.Mathlib.Decide.{dec_lt}
use native.Mathlib.Omega.{arith}
use lib.Dec.{eqb, leb, ltb}
use lib.ListN.{length, get_or, get_or-eq_default}
use borrow.Author.Tests.{lt-ltb, le-leb, le-ltb, ltb-true, leb-true, eq-eqb, ne_eqb}
use Rattle.base_laws.specs.Below.{all_below}
use Rattle.base_laws.proofs.Logic.{test, and_left, and_right, and_intro, or_left, or_right, not_intro}
use Rattle.base_laws.proofs.Below.{all_intro, any_intro}
use Rattle.sheet_lines.specs.declared.Frame.{Frame}
use Rattle.sheet_lines.specs.Lines.{no_frame}
use Rattle.theory_history.specs.Line.{line_from}
use Rattle.theory_history.proofs.Climb.{line_climbed}
use Rattle.theory_protocol.specs.Model.{Model}
use Rattle.theory_protocol.specs.Valid.{valid, session_valid, cards_valid, numbers_valid, entries_valid, frame_valid, rises_valid, frames_valid, line_valid, card_valid, slot_valid}
use Rattle.sheet_lines.specs.Format.{formats}
use Rattle.sheet_pages.specs.Pages.{Page}
use Rattle.sheet_pages.specs.Ring.{no_page, page_at}
use Rattle.sheet_pages.specs.Whole.{Whole}
use Rattle.sheet_readout.specs.Joint.{lowest_session, joint_verdict, pages_read}
use Rattle.theory_protocol.proofs.Writes.{none_writes, writes_valid}
use Rattle.theory_codec.specs.Sheets.{page_stored, is_on, change_on, vector_on, stored_on, restarted}
use Rattle.cabinet_layout.specs.Shape.{limits16}
use Rattle.cabinet_layout.proofs.Limits.{width16, in_hand48, greatest60000, greatest_number32}
use Rattle.cabinet_readback.specs.Readback.{NeverRefused28}
use Rattle.sheet_readout.proofs.Accepted.{AcceptedPages, accepted_pages, joint_passed, lowest_some}
use Rattle.cabinet_readback.proofs.Shown.{stored_is, long, change_at_lem, vector_at_lem, passes}

module _ (ps : List Page) (w : Whole formats ps) (joint : joint_verdict ps ≡ Ok tt) where
  abbrev m : Model
  m = restarted limits16 ps

  abbrev n : ℕ
  n = length ps

  abbrev b : ℕ → ℕ
  b c = (page_at ps c).header.base

  abbrev t : ℕ → ℕ
  t c = page_stored (page_at ps c)

  abbrev frames : ℕ → List Frame
  frames c = (page_at ps c).frames

  session_passes : session_valid limits16 m ≡ true
  session_passes =
      and_intro (not_intro (ne_eqb (lowest_session ps) 0 (lowest_some ps w)))
      (not_intro (ne_eqb (lowest_session ps) limits16.greatest_number (λ z. (joint_passed ps joint).below (z ∙ greatest_number32))))

  cards_pass : cards_valid limits16 m ≡ true
  cards_pass =
      let o = w.some in
      let f : n ≤ 16 = w.few in
      and_intro (any_intro limits16.width m.present 0 (omega (arith, width16)) (lt-ltb 0 n o))
      (not_intro (le-ltb limits16.width n (omega (arith, width16))))

  -- a card beyond has no sheet
  no_page_lem : (c : ℕ) → n ≤ c → page_at ps c ≡ no_page
  no_page_lem c g = get_or-eq_default ps no_page g

  -- a state with a frame is one of a card that is there
  in_there : (c x : ℕ) → is_on (page_at ps c) x ≡ true → c < n
  in_there c x e =
      by_cases (dec_lt c n) (λ h. h)
      (λ h. let above = ltb-true (b c) x (and_left (ltb (b c) x) (leb x (t c)) e) in
      let top = leb-true x (t c) (and_right (ltb (b c) x) (leb x (t c)) e) in
      absurd (omega (arith, ap page_stored (no_page_lem c (omega (arith, h))), above, top)))

  -- a frame has no entry beyond those of the cards
  none_beyond : (c : ℕ) (h : c < n) (i : ℕ) (l : i < length (frames c)) (j : ℕ) → n ≤ j → get_or (get_or (frames c) i no_frame).entries j 0 ≡ 0
  none_beyond c h i l j g =
      let es : List ℕ = (get_or (frames c) i no_frame).entries in
      let q : length es ≤ j = omega (arith, long ps w c h i l) in
      get_or-eq_default es 0 q

  -- the entries of a state's vector are within the limits, and those of absent cards are none
  entry_le : (c x j : ℕ) → j < 16 → vector_on (page_at ps c) x j ≤ cond (m.present c && m.present j) limits16.greatest_state 0
  entry_le c x j k = test (is_on (page_at ps c) x) there none
    where
      none : is_on (page_at ps c) x ≡ false → vector_on (page_at ps c) x j ≤ cond (m.present c && m.present j) limits16.greatest_state 0
      none e = rw e zero-le

      there : is_on (page_at ps c) x ≡ true → vector_on (page_at ps c) x j ≤ cond (m.present c && m.present j) limits16.greatest_state 0
      there e =
          let h : c < n = in_there c x e in
          let above = ltb-true (b c) x (and_left (ltb (b c) x) (leb x (t c)) e) in
          let top = leb-true x (t c) (and_right (ltb (b c) x) (leb x (t c)) e) in
          let l : x - suc (b c) < length (frames c) = omega (arith, stored_is ps w c h, above, top) in
          let q : suc (b c + (x - suc (b c))) ≡ x = omega (arith, above) in
          rw (lt-ltb c n h)
          (subst (λ (y : ℕ). vector_on (page_at ps c) y j ≤ cond (ltb j n) limits16.greatest_state 0) q
          (subst (λ (y : ℕ). y ≤ cond (ltb j n) limits16.greatest_state 0) (sym (vector_at_lem ps w c h (x - suc (b c)) l j)) (bound h l)))
        where
          bound : (h : c < n) (l : x - suc (b c) < length (frames c)) → get_or (get_or (frames c) (x - suc (b c)) no_frame).entries j 0 ≤ cond (ltb j n) limits16.greatest_state 0
          bound h l =
              by_cases (dec_lt j n) (λ d. rw (lt-ltb j n d) (omega (arith, (passes ps w c h (x - suc (b c)) l).within j d, greatest60000)))
              (λ d. rw (none_beyond c h (x - suc (b c)) l j (omega (arith, d))) zero-le)

  vector_passes : (c x : ℕ) → entries_valid limits16 (λ j. m.present c && m.present j) (vector_on (page_at ps c) x) ≡ true
  vector_passes c x =
      all_intro limits16.width (λ j. leb (vector_on (page_at ps c) x j) (cond (m.present c && m.present j) limits16.greatest_state 0))
      (λ j k. le-leb (vector_on (page_at ps c) x j) (cond (m.present c && m.present j) limits16.greatest_state 0) (entry_le c x j (omega (arith, k, width16))))

  module _ (c : ℕ) (h : c < n) where
    there : m.present c ≡ true
    there = lt-ltb c n h

    count_of : t c - b c ≡ length (frames c)
    count_of = omega (arith, stored_is ps w c h)

    low_t : b c ≤ t c
    low_t = omega arith

    high_t : t c ≤ b c + 48
    high_t = omega (arith, stored_is ps w c h, (w.sheet c h).short)

    top_t : t c ≤ 60000
    top_t = omega (arith, stored_is ps w c h, (w.sheet c h).states)

    numbers_pass : numbers_valid limits16 m.numbers c ≡ true
    numbers_pass =
        and_intro
        (and_intro (and_intro (and_intro (le-leb (b c) (t c) low_t) (le-leb (t c) (t c) (le_refl (t c)))) (le-leb (t c) (t c) (le_refl (t c))))
        (le-leb (t c) (b c + limits16.in_hand) (omega (arith, high_t, in_hand48))))
        (le-leb (t c) limits16.greatest_state (omega (arith, top_t, greatest60000)))

    line_passes : line_valid m c ≡ true
    line_passes =
        let l : ℕ = line_from limits16.width ((stored_on ps)) (vector_on (page_at ps c)) (b c) (t c) in
        let k = line_climbed limits16.width ((stored_on ps)) (vector_on (page_at ps c)) (b c) (t c) low_t in
        and_intro (le-leb (b c) l k.from_base) (le-leb l (t c) k.to_top)

    frame_passes : (i : ℕ) → i < length (frames c) → frame_valid limits16 m c (suc (b c + i)) ≡ true
    frame_passes i l =
        let x : ℕ = suc (b c + i) in
        let f : n ≤ 16 = w.few in
        let p = passes ps w c h i l in
        let up = p.rising in
        and_intro
        (and_intro
        (not_intro (ne_eqb (change_on (page_at ps c) x) 0 (λ z. absurd (omega (arith, z, change_at_lem ps w c h i l, up)))))
        (eq-eqb (vector_on (page_at ps c) x c) x (vector_at_lem ps w c h i l c ∙ p.own)))
        (subst (λ (q : Bool). all_below limits16.width (λ j. leb (vector_on (page_at ps c) x j) (cond (q && m.present j) limits16.greatest_state 0)) ≡ true) there (vector_passes c x))

    rises_pass : (i : ℕ) → suc i < length (frames c) → rises_valid limits16 m.memory c (b c + suc i) ≡ true
    rises_pass i l =
        let l₀ : i < length (frames c) = omega arith in
        let q : suc (b c + i) ≡ b c + suc i = omega arith in
        let p = passes ps w c h (suc i) l in
        subst (λ (y : ℕ). ltb (change_on (page_at ps c) y) (change_on (page_at ps c) (suc (b c + suc i))) && all_below limits16.width (λ j. leb (vector_on (page_at ps c) y j) (vector_on (page_at ps c) (suc (b c + suc i)) j)) ≡ true) q
        (and_intro (lt-ltb (change_on (page_at ps c) (suc (b c + i))) (change_on (page_at ps c) (suc (b c + suc i))) (omega (arith, change_at_lem ps w c h i l₀, change_at_lem ps w c h (suc i) l, p.rising)))
        (all_intro limits16.width (λ j. leb (vector_on (page_at ps c) (suc (b c + i)) j) (vector_on (page_at ps c) (suc (b c + suc i)) j))
        (λ j k. le-leb (vector_on (page_at ps c) (suc (b c + i)) j) (vector_on (page_at ps c) (suc (b c + suc i)) j) (climbs j (omega (arith, k, width16)) l₀))))
      where
        climbs : (j : ℕ) → j < 16 → i < length (frames c) → vector_on (page_at ps c) (suc (b c + i)) j ≤ vector_on (page_at ps c) (suc (b c + suc i)) j
        climbs j k l₀ =
            by_cases (dec_lt j n) (λ d. omega (arith, vector_at_lem ps w c h i l₀ j, vector_at_lem ps w c h (suc i) l j, (passes ps w c h (suc i) l).climbing j d))
            (λ d. omega (arith, vector_at_lem ps w c h i l₀ j, none_beyond c h i l₀ j (omega (arith, d))))

    frames_pass : frames_valid limits16 m c ≡ true
    frames_pass =
        all_intro (t c - b c) (λ k. frame_valid limits16 m c (suc (b c + k)) && (eqb k 0 || rises_valid limits16 m.memory c (b c + k)))
        (λ i l. and_intro (frame_passes i (omega (arith, l, count_of))) (next i (omega (arith, l, count_of))))
      where
        next : (i : ℕ) → i < length (frames c) → eqb i 0 || rises_valid limits16 m.memory c (b c + i) ≡ true
        next zero l = refl
        next (suc i) l = or_right (eqb (suc i) 0) (rises_pass i l)

  card_passes : (c : ℕ) → card_valid limits16 m c ≡ true
  card_passes c =
      and_intro (and_intro (vector_passes c (t c)) (vector_passes c (t c)))
      (by_cases (dec_lt c n) (λ h. or_right (not (m.present c)) (and_intro (and_intro (numbers_pass c h) (line_passes c h)) (frames_pass c h)))
      (λ h. or_left (numbers_valid limits16 m.numbers c && line_valid m c && frames_valid limits16 m c) (not_intro (le-ltb c n (omega (arith, h))))))

  passes_28 : valid limits16 m ≡ true
  passes_28 =
      and_intro
      (and_intro (and_intro (and_intro session_passes cards_pass) (all_intro limits16.width (card_valid limits16 m) (λ c h. card_passes c)))
      (all_intro limits16.slots (λ p. slot_valid limits16 m (m.slot p)) (λ p h. refl)))
      (writes_valid limits16 m (none_writes limits16 m (λ c l here. refl)))

pub never_refused_28 : NeverRefused28
never_refused_28 bytes e = let t : AcceptedPages bytes (pages_read bytes).pages = accepted_pages bytes e in passes_28 (pages_read bytes).pages t.whole t.joint
