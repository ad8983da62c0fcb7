-- The sheet that the ring holds for a card's header is the model's sheet. Assumes nothing.
use Prim.Native.Nat.{ℕ, suc, ◌+◌, ◌*◌, ◌-◌, ◌<◌}
use mathlib.Core.Path.{◌≡◌, refl, sym, ◌∙◌, ap}
use mathlib.Core.Bool.{true, ◌&&◌}
use mathlib.Core.List.{List}
use native.Mathlib.Omega.{arith}
use lib.ListN.{get_or}
use borrow.Author.Tests.{le-leb, lt-ltb, eq-eqb, ne_eqb}
use Rattle.base_limits.specs.Ring.{ring_place}
use Rattle.base_laws.specs.Below.{tabulate}
use Rattle.base_laws.proofs.Logic.{and_intro, cond_case, cond_true, not_intro}
use Rattle.base_laws.proofs.Fill.{tabulate_same}
use Rattle.base_bits.specs.Member.{member}
use Rattle.sheet_lines.specs.declared.Header.{Header}
use Rattle.sheet_lines.specs.Format.{format}
use Rattle.sheet_lines.specs.Lines.{header_allowed}
use Rattle.sheet_pages.specs.Ring.{ring_page, ring_frame as frame_at}
use Rattle.theory_protocol.specs.Model.{Model, is_rolling}
use Rattle.theory_codec.specs.Sheets.{card_count, sheet_frame, sheet_of}
use Rattle.theory_codec.proofs.Written.{count_is}
use Rattle.cabinet_layout.specs.declared.Head.{Head}
use Rattle.cabinet_layout.specs.Shape.{limits16, phase_of, at, ring_change, ring_frame, in_hand, change_in_hand, frame_in_hand, truncate}
use Rattle.cabinet_layout.proofs.Limits.{width16}
use Rattle.theory_history.specs.Vector.{no_entries}
use Rattle.theory_history.specs.Vector as history
use Rattle.cabinet_sheet_header.specs.Told.{session_for, card_header}
use Rattle.cabinet_sheet.specs.Card.{Within, sheet_model}

-- ---- a frame in hand is what stands in the ring
module _ (entries changes base top : List ℕ) (c x : ℕ) (e : in_hand base top c x ≡ true) where
  change_held : change_in_hand changes base top c x ≡ ring_change changes c x
  change_held = cond_true (ring_change changes c x) 0 e

  frame_held : (j : ℕ) → j < 16 → frame_in_hand entries base top c x j ≡ ring_frame entries c x j
  frame_held j h =
      ap (λ (v : history.Vector). v j) (cond_true (truncate (ring_frame entries c x)) no_entries e)
      ∙ cond_true (ring_frame entries c x j) 0 (lt-ltb j limits16.width (omega (arith, width16)))

module _ (entries changes : List ℕ) (h : Head) (rolled : ℕ) (base stored : List ℕ) (c : ℕ) (w : Within h base stored c) (there : c < h.cards) where
  abbrev m : Model
  m = sheet_model entries changes h rolled base stored

  abbrev hd : Header
  hd = card_header h rolled (at base c) (at stored c) c

  count_of : card_count limits16 m ≡ h.cards
  count_of = count_is limits16 h.cards m (let f = w.cards in omega (arith, width16)) (λ k. refl)

  held : (i : ℕ) → i < at stored c - at base c → in_hand base stored c (suc (at base c + i)) ≡ true
  held i l = and_intro (lt-ltb (at base c) (suc (at base c + i)) (omega arith)) (le-leb (suc (at base c + i)) (at stored c) (omega arith))

  entries_same : (i : ℕ) → i < at stored c - at base c → (frame_at changes entries h.cards c (suc (at base c + i))).entries ≡ (sheet_frame limits16 m c (suc (at base c + i))).entries
  entries_same i l =
      let x = suc (at base c + i) in
      let f = w.cards in
      tabulate_same h.cards (λ j. get_or entries (ring_place c x * 16 + j) 0) (frame_in_hand entries base stored c x) (λ j lj. sym (frame_held entries changes base stored c x (held i l) j (omega arith)))
      ∙ ap (λ (n : ℕ). tabulate n (frame_in_hand entries base stored c x)) (sym count_of)

  pub page_is : ring_page changes entries hd ≡ sheet_of limits16 m c
  page_is =
      λ k. record {
        header = record { session = session_for h rolled c; card = c; cards = sym count_of k; base = at base c; count = at stored c - at base c };
        frames =
            tabulate_same (at stored c - at base c) (λ i. frame_at changes entries h.cards c (suc (at base c + i))) (λ i. sheet_frame limits16 m c (suc (at base c + i)))
            (λ i l n. record { change = sym (change_held entries changes base stored c (suc (at base c + i)) (held i l)) n; entries = entries_same i l n }) k;
      }

  session_there : session_for h rolled c ≡ 0 → ⊥
  session_there = cond_case (λ (x : ℕ). x ≡ 0 → ⊥) (is_rolling (phase_of h.phase) && member rolled c) (λ t e. absurd (omega arith)) (λ t. w.session)

  -- refusal 7 lets its header pass
  pub header_passes : header_allowed format c 0 hd ≡ true
  unfolding header_allowed
  header_passes =
      and_intro (not_intro (ne_eqb (session_for h rolled c) 0 session_there))
      (and_intro (eq-eqb c c refl)
      (and_intro (lt-ltb c h.cards there)
      (and_intro (le-leb h.cards 16 w.cards)
      (and_intro refl
      (and_intro (le-leb (at stored c - at base c) 48 (let f = w.high there in omega arith))
      (le-leb (at base c + (at stored c - at base c)) 60000 (let f = w.low there in let g = w.top there in omega arith)))))))
