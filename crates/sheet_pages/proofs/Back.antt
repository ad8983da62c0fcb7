-- A sheet laid into a read-out is the sheet that its ring then holds for the card. Assumes nothing.
use Prim.Native.Nat.{ℕ, zero, suc, ◌+◌, ◌*◌, ◌≤◌, ◌<◌}
use mathlib.Core.Path.{◌≡◌, sym, ◌∙◌, ap}
use mathlib.Core.List.{List, [], ◌∷◌}
use native.Mathlib.Nat.{not-suc-le-zero, le_of_suc-le-suc}
use native.Mathlib.Omega.{arith}
use lib.ListN.{length, get_or}
use lib.Seq.{get_or-set_same}
use Rattle.base_limits.specs.Ring.{ring_place}
use Rattle.base_laws.specs.Below.{tabulate}
use Rattle.base_laws.proofs.Fill.{tabulate_ext}
use Rattle.sheet_lines.specs.declared.Header.{Header}
use Rattle.sheet_lines.specs.declared.Frame.{Frame}
use Rattle.sheet_lines.specs.Format.{formats}
use Rattle.sheet_lines.specs.Lines.{cards_of, format_for, no_frame}
use Rattle.sheet_lines.proofs.Judged.{padded_at}
use Rattle.sheet_lines.proofs.Passed.{header_limits}
use Rattle.sheet_pages.specs.declared.Readout.{Readout}
use Rattle.sheet_pages.specs.Pages.{Page}
use Rattle.sheet_pages.specs.Allowed.{Formed, Allowed}
use Rattle.sheet_pages.specs.Walk.{no_readout, lay_header, lay_page}
use Rattle.sheet_pages.specs.Ring.{ring_frame, ring_page, header_of, page_of}
use Rattle.sheet_pages.proofs.Lay.{Sized, none_sized, header_sized, frames_heads, counts_own, changes_own, entries_own, zeros}

-- each frame has an entry for each card
formed_at : (n : ℕ) (frs : List Frame) → Formed n frs → (k : ℕ) → k < length frs → length (get_or frs k no_frame).entries ≡ n
formed_at n [] m k h = absurd (not-suc-le-zero h)
formed_at n (fr ∷ frs) m zero h = m.0
formed_at n (fr ∷ frs) m (suc k) h = formed_at n frs m.2 k (le_of_suc-le-suc h)

-- a read-out that has no frame of the card yet
module _ (p : Page) (r : Readout) (s : Sized r) (is_card_lem : p.header.card < 16) (none : get_or r.counts p.header.card 0 ≡ 0) (few : length p.frames ≤ 48) (whole : p.header.count ≡ length p.frames) where
  abbrev h : Header
  h = p.header

  abbrev c : ℕ
  c = p.header.card

  abbrev laid_page : Readout
  laid_page = lay_page p r

  sized : Sized (lay_header h r)
  sized = header_sized h r s

  heads : (laid_page.sessions ≡ (lay_header h r).sessions) × (laid_page.bases ≡ (lay_header h r).bases) × (laid_page.cards ≡ h.cards)
  heads = frames_heads c is_card_lem (h.base + 1) 0 p.frames (lay_header h r)

  room : (l : List ℕ) → length l ≡ 16 → c < length l
  room l e = omega arith

  session_is : get_or laid_page.sessions c 0 ≡ h.session
  session_is = ap (λ (l : List ℕ). get_or l c 0) heads.0 ∙ get_or-set_same r.sessions c h.session 0 (room r.sessions s.sessions)

  base_is : get_or laid_page.bases c 0 ≡ h.base
  base_is = ap (λ (l : List ℕ). get_or l c 0) heads.1 ∙ get_or-set_same r.bases c h.base 0 (room r.bases s.bases)

  count_is : get_or laid_page.counts c 0 ≡ h.count
  count_is = counts_own c is_card_lem (h.base + 1) 0 p.frames (lay_header h r) sized none ∙ back
    where
      back : 0 + length p.frames ≡ h.count
      back = omega arith

  pub header_held : header_of laid_page c ≡ h
  header_held = λ i. record { session = session_is i; card = c; cards = heads.2 i; base = base_is i; count = count_is i }

  module _ (n : ℕ) (within : n ≤ 16) (formed : Formed n p.frames) where
    frame_held : (k : ℕ) → k < length p.frames → get_or p.frames k no_frame ≡ ring_frame laid_page.changes laid_page.entries n c (suc (h.base + k))
    frame_held k l =
        let z : h.base + 1 + k ≡ suc (h.base + k) = omega arith in
        let es = (get_or p.frames k no_frame).entries in
        let long : length es ≡ n = formed_at n p.frames formed k l in
        let short : length es ≤ 16 = omega arith in
        let change : (get_or p.frames k no_frame).change ≡ get_or laid_page.changes (ring_place c (suc (h.base + k))) 0 = rw (← z) (sym (changes_own c is_card_lem (h.base + 1) 0 p.frames (lay_header h r) sized few k no_frame l)) in
        let entries : es ≡ tabulate n (λ j. get_or laid_page.entries (ring_place c (suc (h.base + k)) * 16 + j) 0) =
        tabulate_ext 0 n (λ j. get_or laid_page.entries (ring_place c (suc (h.base + k)) * 16 + j) 0) es long
        (λ j b. sym (padded_at es short j) ∙ rw (← z) (sym (entries_own c is_card_lem (h.base + 1) 0 p.frames (lay_header h r) sized few k j no_frame l (omega arith)))) in
        λ i. record { change = change i; entries = entries i }

    frames_held : tabulate h.count (λ k. ring_frame laid_page.changes laid_page.entries n c (suc (h.base + k))) ≡ p.frames
    frames_held =
        sym (tabulate_ext no_frame h.count (λ k. ring_frame laid_page.changes laid_page.entries n c (suc (h.base + k))) p.frames (sym whole) (λ k l. frame_held k (omega arith)))

  pub page_held : cards_of (format_for formats h) h ≤ 16 → Formed (cards_of (format_for formats h) h) p.frames → page_of laid_page c ≡ p
  page_held within formed =
      ap (ring_page laid_page.changes laid_page.entries) header_held
      ∙ (λ i. record { header = h; frames = frames_held (cards_of (format_for formats h) h) within formed i })

-- a sheet within the limits, laid into the read-out of zeros
pub page_back : (due : ℕ) (p : Page) → Allowed (format_for formats p.header) due 0 p → page_of (lay_page p no_readout) due ≡ p
page_back due p a =
    let w = header_limits (format_for formats p.header) due 0 p.header a.header in
    let is_card_lem : p.header.card < 16 = omega (arith, w.below, w.cards) in
    let few : length p.frames ≤ 48 = omega (arith, w.count, a.count) in
    ap (page_of (lay_page p no_readout)) (sym w.card) ∙ page_held p no_readout none_sized is_card_lem (zeros 16 p.header.card) few a.count w.cards a.formed
