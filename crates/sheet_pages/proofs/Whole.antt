-- The sheets of an accepted read-out by card, its frames one by one, and the read-out by value as a representation of its sheets. Assumes nothing.
use Rattle.std.specs.Prelude.{Ok}
use Prim.Native.Nat.{ℕ, zero, suc, ◌+◌, ◌*◌, ◌-◌, ◌≤◌, ◌<◌}
use mathlib.Core.Path.{◌≡◌, refl, sym, ◌∙◌, ap, subst}
use mathlib.Core.Bool.{true, ◌||◌, ◌&&◌}
use mathlib.Core.Logic.{⊎_elim}
use mathlib.Core.List.{List, [], ◌∷◌}
use native.Mathlib.Nat.{le_refl, le_of_suc-le-suc, not-suc-le-zero}
use native.Mathlib.Omega.{arith}
use lib.Dec.{eqb, ltb}
use lib.ListN.{length, get_or}
use borrow.Author.Tests.{eqb-true, ltb-true, eq-eqb, ne_eqb, lt-ltb, le-leb}
use Rattle.base_limits.specs.Ring.{ring_place}
use Rattle.base_laws.specs.Below.{tabulate}
use Rattle.base_laws.proofs.Logic.{and_left, and_right, or_right, or_elim}
use Rattle.base_laws.proofs.Fill.{length_tabulate, get_d_tabulate, tabulate_ext}
use Rattle.sheet_lines.specs.declared.Frame.{Frame}
use Rattle.sheet_lines.specs.Format.{Format, Formats, format, formats}
use Rattle.sheet_lines.specs.Lines.{cards_of, format_for, frame_allowed, entries_allowed, no_frame}
use Rattle.sheet_lines.proofs.Passed.{header_limits}
use Rattle.sheet_lines.proofs.Judged.{header_tests, padded_at}
use Rattle.sheet_pages.specs.declared.Readout.{Readout}
use Rattle.sheet_pages.specs.Pages.{Page, pages_bytes, read_sheets}
use Rattle.sheet_pages.specs.Walk.{no_readout, lay_pages}
use Rattle.sheet_pages.specs.Allowed.{frames_allowed, Formed, Allowed, AllAllowed}
use Rattle.sheet_pages.specs.Ring.{ring_frame, header_of, page_of, pages_of, page_at, no_page}
use Rattle.sheet_pages.specs.Whole.{SheetOf, Whole}
use Rattle.sheet_pages.proofs.Round.{formats_valid, written_reads_back}
use Rattle.sheet_pages.proofs.Lay.{Holds, laid_holds}
use Rattle.sheet_pages.proofs.Read.{Lines-read, lines_read}

-- ---- by card

-- a sheet within the limits, of n cards
sheet_of_lem : (f : Format) (n c first : ℕ) (p : Page) → Allowed f c first p → cards_of f p.header ≡ n → SheetOf f n c p
sheet_of_lem f n c first p a e =
    let l = header_limits f c first p.header a.header in
    let q = a.count in
    record {
      session_some = l.session;
      session = a.session;
      card = l.card;
      cards = e;
      count = q;
      short = rw (← q) l.count;
      states = rw (← q) l.states;
      formed = subst (λ (k : ℕ). Formed k p.frames) e a.formed;
      frames =
          subst (λ (k : ℕ). frames_allowed f c k (p.header.base + 1) no_frame p.frames ≡ true) e
          (subst (λ (k : ℕ). frames_allowed f k (cards_of f p.header) (p.header.base + 1) no_frame p.frames ≡ true) l.card a.frames);
    }

-- a sheet behind the first has the first's number of cards
pub cards_agree : (n cards : ℕ) → (n ≡ 0 → ⊥) → (eqb n 0 || eqb cards n) ≡ true → cards ≡ n
cards_agree n cards h e = ⊎_elim (λ (z : eqb n 0 ≡ true). absurd (h (eqb-true n 0 z))) (λ (z : eqb cards n ≡ true). eqb-true cards n z) (or_elim (eqb n 0) (eqb cards n) e)

more_at :
    (F : Formats) (n due : ℕ) (ps : List Page) → (n ≡ 0 → ⊥) → AllAllowed F due n ps → (i c : ℕ) → i < length ps → c ≡ due + i → SheetOf (format_for F (page_at ps i).header) n c (page_at ps i)
more_at F n due [] h a i c l e = absurd (not-suc-le-zero l)
more_at F n due (p ∷ ps) h a zero c l e =
    let q : due ≡ c = omega arith in
    let f = format_for F p.header in
    sheet_of_lem f n c n p (subst (λ (k : ℕ). Allowed f k n p) q a.0) (cards_agree n (cards_of f p.header) h (header_limits f due n p.header a.0.header).agrees)
more_at F n due (p ∷ ps) h a (suc i) c l e = more_at F n (due + 1) ps h a.1 i c (le_of_suc-le-suc l) (e ∙ next)
  where
    next : due + suc i ≡ due + 1 + i
    next = omega arith

whole_of : (F : Formats) (ps : List Page) → Lines-read F ps → Whole F ps
whole_of F ps r = subst (Whole F) (sym r.all) whole
  where
    p : Page
    p = r.head

    f : Format
    f = format_for F r.head.header

    some : 1 ≤ cards_of (format_for F r.head.header) r.head.header
    some = let l = (header_limits (format_for F r.head.header) 0 0 r.head.header r.first.header).below in omega arith

    long : length (r.head ∷ r.tail) ≡ cards_of (format_for F r.head.header) r.head.header
    long = let s = some in let e = r.long in omega arith

    each : (c : ℕ) → c < length (r.head ∷ r.tail) → SheetOf (format_for F (page_at (r.head ∷ r.tail) c).header) (length (r.head ∷ r.tail)) c (page_at (r.head ∷ r.tail) c)
    each zero h = sheet_of_lem f (length (p ∷ r.tail)) 0 0 p r.first (sym long)
    each (suc i) h =
        subst (λ (n : ℕ). SheetOf (format_for F (page_at r.tail i).header) n (suc i) (page_at r.tail i)) (sym long)
        (more_at F (cards_of f p.header) 1 r.tail (λ z. let s = some in absurd (omega arith)) r.more i (suc i) (le_of_suc-le-suc h) (let e : suc i ≡ 1 + i = omega arith in e))

    whole : Whole F (r.head ∷ r.tail)
    whole = record { some = let s = some in rw long s; few = rw long (header_limits f 0 0 p.header r.first.header).cards; sheet = each }

-- the sheets of a read-out whose lines are accepted
pub whole_read : (F : Formats) (input : List ℕ) → (read_sheets F true 0 input).verdict ≡ Ok tt → Whole F (read_sheets F true 0 input).pages
whole_read F input e = whole_of F (read_sheets F true 0 input).pages (lines_read F input e)

-- ---- written, then read

-- a sheet of n cards is within the limits where it is due
pub allowed_of : (n c first : ℕ) (p : Page) → SheetOf format n c p → c < n → n ≤ 16 → (eqb first 0 || eqb n first) ≡ true → Allowed format c first p
allowed_of n c first p s l few e =
    record {
      header =
          sym
          (header_tests format c first p.header (sym s.cards) (ne_eqb p.header.session 0 s.session_some) (eq-eqb p.header.card c s.card) (lt-ltb p.header.card n (omega (arith, s.card))) (le-leb n 16 few) e
          (le-leb p.header.count 48 (omega (arith, s.count, s.short))) (le-leb (p.header.base + p.header.count) 60000 (omega (arith, s.count, s.states))));
      session = s.session;
      count = s.count;
      formed = subst (λ (k : ℕ). Formed k p.frames) (sym s.cards) s.formed;
      frames =
          subst (λ (k : ℕ). frames_allowed format k p.header.cards (p.header.base + 1) no_frame p.frames ≡ true) (sym s.card)
          (subst (λ (k : ℕ). frames_allowed format c k (p.header.base + 1) no_frame p.frames ≡ true) (sym s.cards) s.frames);
    }

all_allowed : (due first : ℕ) (ps : List Page) → ((i : ℕ) → i < length ps → Allowed format (due + i) first (page_at ps i)) → AllAllowed formats due first ps
all_allowed due first [] g = tt
all_allowed due first (p ∷ ps) g = (now, all_allowed (due + 1) first ps later)
  where
    now : Allowed format due first p
    now = let e : due + 0 ≡ due = omega arith in rw e at (g 0 (omega arith))

    later : (i : ℕ) → i < length ps → Allowed format (due + 1 + i) first (page_at ps i)
    later i h = let e : due + suc i ≡ due + 1 + i = omega arith in rw e at (g (suc i) (omega arith))

-- each sheet of a whole read-out is within the limits where it is due
pub whole_allowed : (ps : List Page) → Whole formats ps → AllAllowed formats 0 (length ps) ps
whole_allowed ps w = all_allowed 0 (length ps) ps each
  where
    each : (i : ℕ) → i < length ps → Allowed format (0 + i) (length ps) (page_at ps i)
    each i h =
        let e : i ≡ 0 + i = omega arith in
        subst (λ (x : ℕ). Allowed format x (length ps) (page_at ps i)) e (allowed_of (length ps) i (length ps) (page_at ps i) (w.sheet i h) h w.few (or_right (eqb (length ps) 0) (eq-eqb (length ps) (length ps) refl)))

-- the sheets of a whole read-out, written, read back
pub whole_back : (ps : List Page) → Whole formats ps → read_sheets formats true 0 (pages_bytes formats ps) ≡ record { pages = ps; verdict = Ok tt; rest = [] }
whole_back [] w = absurd (not-suc-le-zero w.some)
whole_back (p ∷ ps) w =
    written_reads_back formats formats_valid true 0 p ps (allowed_of (suc (length ps)) 0 0 p (w.sheet 0 w.some) w.some w.few refl)
    (subst (λ (n : ℕ). AllAllowed formats 1 n ps) (sym count) (all_allowed 1 (suc (length ps)) ps each)) others
  where
    count : p.header.cards ≡ suc (length ps)
    count = (w.sheet 0 w.some).cards

    others : p.header.cards - 1 ≡ length ps
    others = omega (arith, count)

    each : (i : ℕ) → i < length ps → Allowed format (1 + i) (suc (length ps)) (page_at ps i)
    each i h =
        let e : suc i ≡ 1 + i = omega arith in
        let l : suc i < suc (length ps) = omega arith in
        rw (← e) (allowed_of (suc (length ps)) (suc i) (suc (length ps)) (page_at ps i) (w.sheet (suc i) l) l w.few (or_right (eqb (suc (length ps)) 0) (eq-eqb (suc (length ps)) (suc (length ps)) refl)))

-- ---- frame by frame

-- the frame before frame i, and the one that stands before the first
abbrev pub frame_before : Frame → List Frame → ℕ → Frame
frame_before last frs zero = last
frame_before last frs (suc i) = get_or frs i no_frame

pub frames_at :
    (f : Format) (card n : ℕ) (frs : List Frame) (state : ℕ) (last : Frame) →
    frames_allowed f card n state last frs ≡ true →
    (i x : ℕ) →
    i < length frs →
    x ≡ state + i →
    frame_allowed f card n x (frame_before last frs i) x (get_or frs i no_frame) ≡ true
frames_at f card n [] state last e i x l q = absurd (not-suc-le-zero l)
frames_at f card n (fr ∷ frs) state last e zero x l q =
    let s : state ≡ x = omega arith in
    subst (λ (y : ℕ). frame_allowed f card n y last y fr ≡ true) s (and_left (frame_allowed f card n state last state fr) (frames_allowed f card n (state + 1) fr frs) e)
frames_at f card n (fr ∷ frs) state last e (suc i) x l q =
    later i (frames_at f card n frs (state + 1) fr (and_right (frame_allowed f card n state last state fr) (frames_allowed f card n (state + 1) fr frs) e) i x (le_of_suc-le-suc l) (q ∙ next))
  where
    next : state + suc i ≡ state + 1 + i
    next = omega arith

    later : (i : ℕ) → frame_allowed f card n x (frame_before fr frs i) x (get_or frs i no_frame) ≡ true → frame_allowed f card n x (get_or (fr ∷ frs) i no_frame) x (get_or frs i no_frame) ≡ true
    later zero g = g
    later (suc i) g = g

pub formed_at : (n : ℕ) (frs : List Frame) → Formed n frs → (i : ℕ) → i < length frs → length (get_or frs i no_frame).entries ≡ n
formed_at n [] f i l = absurd (not-suc-le-zero l)
formed_at n (fr ∷ frs) f zero l = f.0
formed_at n (fr ∷ frs) f (suc i) l = formed_at n frs f.2 i (le_of_suc-le-suc l)

-- change numbers rise from frame to frame
pub frames_rise : (f : Format) (n c : ℕ) (p : Page) → SheetOf f n c p → (i : ℕ) → i < length p.frames → (frame_before no_frame p.frames i).change < (get_or p.frames i no_frame).change
unfolding frame_allowed
frames_rise f n c p s i h =
    let last = frame_before no_frame p.frames i in
    let fr = get_or p.frames i no_frame in
    let x = p.header.base + 1 + i in
    let up = ltb last.change fr.change in
    let es = entries_allowed f c x n last.entries fr.entries in
    ltb-true last.change fr.change (and_left up es (and_right (eqb x x) (up && es) (frames_at f c n p.frames (p.header.base + 1) no_frame s.frames i x h refl)))

-- ---- the sheets that a read-out by value holds
module _ (r : Readout) (c : ℕ) (h : c < r.cards) where
  pub page_on : page_at (pages_of r) c ≡ page_of r c
  page_on = get_d_tabulate r.cards (page_of r) no_page c h

  pub count_on : length (page_at (pages_of r) c).frames ≡ get_or r.counts c 0
  count_on =
      ap (λ (p : Page). length p.frames) page_on
      ∙ length_tabulate (get_or r.counts c 0) (λ k. ring_frame r.changes r.entries r.cards c (suc (get_or r.bases c 0 + k)))

  pub frame_on_lem : (k : ℕ) → k < get_or r.counts c 0 → get_or (page_at (pages_of r) c).frames k no_frame ≡ ring_frame r.changes r.entries r.cards c (suc (get_or r.bases c 0 + k))
  frame_on_lem k l =
      ap (λ (p : Page). get_or p.frames k no_frame) page_on
      ∙ get_d_tabulate (get_or r.counts c 0) (λ k. ring_frame r.changes r.entries r.cards c (suc (get_or r.bases c 0 + k))) no_frame k l

-- ---- the read-out into which the sheets of a whole one are laid
module _ (ps : List Page) (w : Whole formats ps) where
  abbrev out : Readout
  out = lay_pages ps no_readout

  pages_are : ps ≡ tabulate (length ps) (page_at ps)
  pages_are = tabulate_ext no_page (length ps) (page_at ps) ps refl (λ k h. refl)

  -- it holds each sheet
  pub whole_holds : Holds (length ps) (page_at ps) (lay_pages ps no_readout)
  whole_holds =
      subst (λ (qs : List Page). Holds (length ps) (page_at ps) (lay_pages qs no_readout)) (sym pages_are)
      (laid_holds (page_at ps) (length ps) w.few (λ c h. (w.sheet c h).card) (λ c h. (w.sheet c h).short))

  -- the number of cards
  pub whole_cards : (lay_pages ps no_readout).cards ≡ length ps
  whole_cards = last (length ps) w.some whole_holds (λ c h. (w.sheet c h).cards)
    where
      last : (k : ℕ) {page : ℕ → Page} {r : Readout} → 1 ≤ k → Holds k page r → ((c : ℕ) → c < k → (page c).header.cards ≡ k) → r.cards ≡ k
      last zero s h g = absurd (not-suc-le-zero s)
      last (suc k) s h g = h.cards k refl ∙ g k (le_refl (suc k))

  module _ (c : ℕ) (h : c < length ps) where
    frame_back : (k : ℕ) → k < length (page_at ps c).frames → get_or (page_at ps c).frames k no_frame ≡ ring_frame out.changes out.entries out.cards c (suc (get_or out.bases c 0 + k))
    frame_back k l =
        λ i. record { change = change_is i; entries = entries_are i }
      where
        x_is : (page_at ps c).header.base + 1 + k ≡ suc (get_or (lay_pages ps no_readout).bases c 0 + k)
        x_is = let b : get_or (lay_pages ps no_readout).bases c 0 ≡ (page_at ps c).header.base = whole_holds.base c h in omega arith

        change_is : (get_or (page_at ps c).frames k no_frame).change ≡ get_or out.changes (ring_place c (suc (get_or out.bases c 0 + k))) 0
        change_is = sym (whole_holds.change c k no_frame h l) ∙ ap (λ (x : ℕ). get_or out.changes (ring_place c x) 0) x_is

        long : length (get_or (page_at ps c).frames k no_frame).entries ≡ length ps
        long = formed_at (length ps) (page_at ps c).frames (w.sheet c h).formed k l

        entry_is : (j : ℕ) → j < length ps → get_or (get_or (page_at ps c).frames k no_frame).entries j 0 ≡ get_or out.entries (ring_place c (suc (get_or out.bases c 0 + k)) * 16 + j) 0
        entry_is j g =
            let few : length ps ≤ 16 = w.few in
            let n = long in
            sym (padded_at (get_or (page_at ps c).frames k no_frame).entries (omega arith) j) ∙ sym (whole_holds.entry c k j no_frame h l (omega arith))
            ∙ ap (λ (x : ℕ). get_or out.entries (ring_place c x * 16 + j) 0) x_is

        entries_are : (get_or (page_at ps c).frames k no_frame).entries ≡ tabulate out.cards (λ j. get_or out.entries (ring_place c (suc (get_or out.bases c 0 + k)) * 16 + j) 0)
        entries_are =
            tabulate_ext 0 (length ps) (λ j. get_or out.entries (ring_place c (suc (get_or out.bases c 0 + k)) * 16 + j) 0) (get_or (page_at ps c).frames k no_frame).entries long entry_is
            ∙ ap (λ (n : ℕ). tabulate n (λ j. get_or out.entries (ring_place c (suc (get_or out.bases c 0 + k)) * 16 + j) 0)) (sym whole_cards)

    page_back : page_at ps c ≡ page_of (lay_pages ps no_readout) c
    page_back = λ i. record { header = header_is i; frames = frames_are i }
      where
        header_is : (page_at ps c).header ≡ header_of (lay_pages ps no_readout) c
        header_is =
            λ i.
            record {
              session = sym (whole_holds.session c h) i;
              card = (w.sheet c h).card i;
              cards = ((w.sheet c h).cards ∙ sym whole_cards) i;
              base = sym (whole_holds.base c h) i;
              count = ((w.sheet c h).count ∙ sym (whole_holds.count c h)) i;
            }

        frames_are : (page_at ps c).frames ≡ (page_of (lay_pages ps no_readout) c).frames
        frames_are =
            tabulate_ext no_frame (get_or out.counts c 0) (λ k. ring_frame out.changes out.entries out.cards c (suc (get_or out.bases c 0 + k))) (page_at ps c).frames (sym (whole_holds.count c h))
            (λ k g. frame_back k (let e : get_or out.counts c 0 ≡ length (page_at ps c).frames = whole_holds.count c h in omega arith))

  -- the read-out is a representation of its sheets
  pub pages_back : pages_of (lay_pages ps no_readout) ≡ ps
  pages_back =
      ap (λ (n : ℕ). tabulate n (page_of (lay_pages ps no_readout))) whole_cards
      ∙ sym (tabulate_ext no_page (length ps) (page_of (lay_pages ps no_readout)) ps refl page_back)
