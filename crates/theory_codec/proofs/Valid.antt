-- The sheet of a card of a cabinet that 28 lets pass is one that 7 and 9 let pass, in every phase. Assumes nothing.
use Prim.Native.Nat.{ℕ, suc, ◌+◌, ◌-◌, ◌^◌, ◌≤◌, ◌<◌, zero-le}
use mathlib.Core.Path.{◌≡◌, refl, sym, ◌∙◌, ap, subst}
use mathlib.Core.Bool.{true, not, ◌||◌, cond}
use mathlib.Core.Logic.{by_cases}
use mathlib.Core.List.{List}
use native.Mathlib.Nat.{le_trans}
use native.Mathlib.Decide.{ℕ_discrete}
use native.Mathlib.Omega.{arith}
use lib.Dec.{eqb, ltb}
use lib.ListN.{length, get_or, replicate}
use borrow.Author.Tests.{le-leb, lt-ltb, eq-eqb, ne_eqb}
use Rattle.base_laws.proofs.Logic.{and_intro, or_left, or_right, not_intro, cond_case}
use Rattle.base_laws.proofs.Below.{all_intro}
use Rattle.sheet_lines.specs.Format.{format, formats}
use Rattle.sheet_lines.specs.Lines.{frame_allowed, entries_allowed, entry_allowed, no_frame}
use Rattle.sheet_pages.specs.Pages.{Page, page_bytes}
use Rattle.sheet_pages.specs.Allowed.{frames_allowed, Formed}
use Rattle.sheet_pages.specs.Whole.{SheetOf}
use Rattle.sheet_pages.proofs.Lay.{zeros}
use Rattle.theory_protocol.specs.Model.{Limits, Model, has_rolled}
use Rattle.theory_protocol.specs.Valid.{valid}
use Rattle.theory_protocol.proofs.Passed.{FramePassed, RisesPassed, CardPassed, passed, session_not_0}
use Rattle.theory_codec.specs.Sheets.{card_count, sheet_session, sheet_frame, sheet_of}
use Rattle.theory_codec.specs.Claims.{SheetLimits}
use Rattle.theory_codec.proofs.Written.{frames_length, count_is, entry_written, length_entries}
use Rattle.sheet_pages.proofs.Length.{page_few}
use Rattle.theory_codec.proofs.Passing.{formed_all, frames_pass}

-- a sheet of n cards has few bytes
pub sheet_few : (n c : ℕ) (p : Page) → n ≤ 16 → SheetOf format n c p → length (page_bytes formats p) ≤ 3913
sheet_few n c p few s = page_few p (subst (λ (k : ℕ). Formed k p.frames) (sym s.cards) s.formed) (omega (arith, few, s.cards)) s.short

module _ (L : Limits) (limits : SheetLimits L) (n : ℕ) (m : Model) (few : n ≤ L.width) (present_is : (c : ℕ) → m.present c ≡ ltb c n) (s : valid L m ≡ true) (c : ℕ) (here : c < n) where
  width : c < L.width
  width = omega (arith, few, here)

  card : CardPassed L m c
  card = passed L m s c width (present_is c ∙ lt-ltb c n here)

  count_of : card_count L m ≡ n
  count_of = count_is L n m few present_is

  stored_top : m.numbers.stored c ≤ m.numbers.reached c
  stored_top = omega (arith, card.numbers.stored_held, card.numbers.held_reached)

  -- ---- 9
  module _ (x : ℕ) (above : m.numbers.base c < x) (inside : x ≤ m.numbers.stored c) where
    frame : FramePassed L m c x
    frame = card.frame x above (omega (arith, inside, stored_top))

    entry_le : (j : ℕ) → j < n → m.memory.frame c x j ≤ 60000
    entry_le j h =
        le_trans (frame.entry j (omega (arith, h, few)))
        (cond_case (λ (y : ℕ). y ≤ 60000) (m.present j) (λ z. omega (arith, limits.greatest_state)) (λ z. zero-le))

    own_test : (j state : ℕ) → state ≡ x → not (eqb j c) || eqb (m.memory.frame c x j) state ≡ true
    own_test j state is =
        by_cases (ℕ_discrete j c)
        (λ (q : j ≡ c). or_right (not (eqb j c)) (eq-eqb (m.memory.frame c x j) state (ap (m.memory.frame c x) q ∙ frame.own ∙ sym is)))
        (λ q. or_left (eqb (m.memory.frame c x j) state) (not_intro (ne_eqb j c q)))

    -- an entry that is not below p, the one before
    entry_test : (j state p : ℕ) → state ≡ x → j < n → p ≤ m.memory.frame c x j → entry_allowed format c state j p (get_or (sheet_frame L m c x).entries j 0) ≡ true
    entry_test j state p is h le =
        rw (entry_written L n m few present_is c x j h)
        (and_intro (le-leb p (m.memory.frame c x j) le)
        (and_intro (le-leb (m.memory.frame c x j) 60000 (entry_le j h)) (own_test j state is)))

    -- the frame behind another whose change and entries are not above
    frame_test : (state : ℕ) → state ≡ x → (change : ℕ) (entries : List ℕ) → change < m.memory.change c x → ((j : ℕ) → j < n → get_or entries j 0 ≤ m.memory.frame c x j)
        → frame_allowed format c (card_count L m) state (record { change = change; entries = entries }) state (sheet_frame L m c x) ≡ true
    unfolding frame_allowed entries_allowed
    frame_test state is change entries rises grows =
        and_intro (eq-eqb state state refl)
        (and_intro (lt-ltb change (m.memory.change c x) rises)
        (all_intro (card_count L m) _ (λ j h. let l : j < n = omega (arith, h, count_of) in entry_test j state (get_or entries j 0) is l (grows j l))))

  frame_pass : (i : ℕ) → i < m.numbers.stored c - m.numbers.base c
      → frame_allowed format c (card_count L m) (m.numbers.base c + 1 + i) (cond (eqb i 0) no_frame (sheet_frame L m c (suc (m.numbers.base c + (i - 1))))) (m.numbers.base c + 1 + i) (sheet_frame L m c (suc (m.numbers.base c + i))) ≡ true
  frame_pass i h = by_cases (ℕ_discrete i 0) first later
    where
      x : ℕ
      x = suc (m.numbers.base c + i)

      above : m.numbers.base c < suc (m.numbers.base c + i)
      above = omega arith

      inside : suc (m.numbers.base c + i) ≤ m.numbers.stored c
      inside = omega arith

      state_is : m.numbers.base c + 1 + i ≡ suc (m.numbers.base c + i)
      state_is = omega arith

      first : i ≡ 0 → frame_allowed format c (card_count L m) (m.numbers.base c + 1 + i) (cond (eqb i 0) no_frame (sheet_frame L m c (suc (m.numbers.base c + (i - 1))))) (m.numbers.base c + 1 + i) (sheet_frame L m c (suc (m.numbers.base c + i))) ≡ true
      first q =
          rw (eq-eqb i 0 q)
          (frame_test (suc (m.numbers.base c + i)) above inside (m.numbers.base c + 1 + i) state_is 0 (replicate 16 0)
          (by_cases (ℕ_discrete (m.memory.change c (suc (m.numbers.base c + i))) 0) (λ z. absurd ((frame (suc (m.numbers.base c + i)) above inside).numbered z)) (λ z. omega (arith, z)))
          (λ j l. rw (zeros 16 j) zero-le))

      later : ¬ (i ≡ 0) → frame_allowed format c (card_count L m) (m.numbers.base c + 1 + i) (cond (eqb i 0) no_frame (sheet_frame L m c (suc (m.numbers.base c + (i - 1))))) (m.numbers.base c + 1 + i) (sheet_frame L m c (suc (m.numbers.base c + i))) ≡ true
      later q =
          let y : suc (m.numbers.base c + (i - 1)) ≡ m.numbers.base c + i = omega (arith, q) in
          let up : RisesPassed L m c (m.numbers.base c + i) = card.rises (m.numbers.base c + i) (omega (arith, q)) (omega (arith, inside, stored_top)) in
          rw (ne_eqb i 0 q, y)
          (frame_test (suc (m.numbers.base c + i)) above inside (m.numbers.base c + 1 + i) state_is (m.memory.change c (m.numbers.base c + i)) (sheet_frame L m c (m.numbers.base c + i)).entries
          up.changes
          (λ j l. rw (entry_written L n m few present_is c (m.numbers.base c + i) j l) (up.entries j (omega (arith, l, few)))))

  -- ---- 7 and 9, where the numbers fit their digits
  module _ (session : sheet_session m c < 16 ^ 8) (changes : (x : ℕ) → m.numbers.base c < x → x ≤ m.numbers.stored c → m.memory.change c x < 16 ^ 8) where
    session_some : ¬ (sheet_session m c ≡ 0)
    session_some = cond_case (λ (k : ℕ). ¬ (k ≡ 0)) (has_rolled m c) (λ e z. omega (arith, z)) (λ e. session_not_0 L m s)

    formed : Formed (card_count L m) (sheet_of L m c).frames
    formed =
        formed_all (card_count L m) (m.numbers.stored c - m.numbers.base c) (λ k. sheet_frame L m c (suc (m.numbers.base c + k)))
        (λ i h. (length_entries L n m few present_is c (suc (m.numbers.base c + i)) ∙ sym count_of, changes (suc (m.numbers.base c + i)) (omega arith) (omega arith)))

    pub sheet_of_lem : SheetOf format n c (sheet_of L m c)
    sheet_of_lem =
        record {
          session_some = session_some;
          session = session;
          card = refl;
          cards = count_of;
          count = sym (frames_length L m c);
          short = omega (arith, frames_length L m c, card.numbers.in_hand_lem, stored_top, limits.in_hand);
          states = omega (arith, frames_length L m c, card.numbers.base_stored, stored_top, card.numbers.within, limits.greatest_state);
          formed = subst (λ (k : ℕ). Formed k (sheet_of L m c).frames) count_of formed;
          frames =
              subst (λ (k : ℕ). frames_allowed format c k (m.numbers.base c + 1) no_frame (sheet_of L m c).frames ≡ true) count_of
              (frames_pass c (card_count L m) (m.numbers.stored c - m.numbers.base c) (m.numbers.base c + 1) no_frame (λ k. sheet_frame L m c (suc (m.numbers.base c + k))) frame_pass);
        }
