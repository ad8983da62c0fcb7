-- What the readers of one sheet and of a read-out refuse: a byte altered, frames too few, a line of another sheet, older sheets. Assumes nothing.
use Rattle.std.specs.Prelude.{Ok, Err}
use Prim.Native.Nat.{ℕ, ◌+◌, ◌*◌, ◌-◌, ◌%◌, ◌≤◌, ◌<◌}
use mathlib.Core.Path.{◌≡◌, refl, sym, ◌∙◌, ap, subst}
use mathlib.Core.Bool.{Bool, true, false, cond}
use mathlib.Core.List.{List, [], ◌++◌}
use native.Mathlib.Omega.{arith}
use lib.Dec.{ltb}
use lib.ListN.{length, set, length-set, length-append}
use borrow.Author.Tests.{le-ltb}
use Rattle.base_refusal.specs.declared.Refusal.{Refusal}
use Rattle.base_refusal.specs.declared.Refusal.TheVariants.{BadCheck, TooLong}
use Rattle.base_refusal.specs.Reply.{Reply}
use Rattle.sheet_lines.specs.declared.Header.{Header}
use Rattle.sheet_lines.specs.declared.Frame.{Frame}
use Rattle.sheet_lines.specs.Format.{format, formats}
use Rattle.sheet_lines.specs.Lines.{cards_of, format_in, start_of, header_line, header_in, header_allowed, header_verdict, no_frame}
use Rattle.sheet_lines.proofs.Passed.{header_limits, header_passed}
use Rattle.sheet_lines.proofs.Starts.{formats_apart}
use Rattle.sheet_line_round.proofs.Round.{format_valid, formats_alike}
use Rattle.sheet_line_round.proofs.Carried.{eight, header_passing, frame_carried, length_other, header_carried}
use Rattle.sheet_pages.specs.Pages.{Page, frames_of, more_sheets, read_sheets}
use Rattle.sheet_pages.specs.Allowed.{Fewer, last_of, next_verdict, short_bytes}
use Rattle.sheet_pages.specs.Due.{FrameDue, FrameOf, line_at}
use Rattle.sheet_pages.specs.Walk.{no_readout}
use Rattle.sheet_pages.specs.Ring.{page_at}
use Rattle.sheet_pages.proofs.Round.{formats_valid, with_both, altered_refused, ends_there}
use Rattle.sheet_pages.proofs.Short.{first_short}
use Rattle.sheet_pages.proofs.Due.{due_refused, due_card, card_apart, carried_there, carried_card, carried_session, carried_refused, never_header}
use Rattle.sheet_pages.proofs.Stops.{stops}
use Rattle.sheet_pages.proofs.Whole.{whole_allowed}
use Rattle.sheet_pages.proofs.Standing.{frame_stands}
use Rattle.sheet_pages.proofs.Length.{readout_few}
use Rattle.sheet_readout.specs.Joint.{judged, lined, given, pages_read, readout_of}
use Rattle.sheet_readout.proofs.Accepted.{accepted_pages}
use Rattle.sheet_reader.specs.Single.{sheet_read_of}
use Rattle.sheet_round.specs.Claims.{AlteredSheetRefused, AlteredReadoutRefused, ShortSheetRefused, ShortReadoutRefused, StopsWhereDue, Next, ends, sheet, other, FewerRefused, FewerReadoutRefused, FramesStand, CarriedFrameRefused, CarriedFramePutIn, CarriedFrameInPlace, OtherSessionRefused, CarriedIntoSheetRefused, FrameForHeaderRefused, older, OlderSheetRefused, OlderReadoutRefused}
use Rattle.sheet_round.proofs.Sheets.{verdict_accepted}

-- ---- lines that are refused

lines_refused : (card : ℕ) (input : List ℕ) (r : Refusal) → ltb 65536 (length input) ≡ false → (read_sheets formats false card input).verdict ≡ Err r → sheet_read_of card input ≡ record { readout = no_readout; verdict = Err r }
unfolding sheet_read_of
lines_refused card input r l e = rw (l, e)

all_refused : (input : List ℕ) (r : Refusal) → ltb 65536 (length input) ≡ false → (read_sheets formats true 0 input).verdict ≡ Err r → readout_of input ≡ record { readout = no_readout; verdict = Err r }
unfolding pages_read
all_refused input r l e = rw (l, e)

-- ---- one altered byte

pub altered_sheet_refused : AlteredSheetRefused
unfolding sheet_read_of
altered_sheet_refused card input p b h o e =
    let a = verdict_accepted (ltb 65536 (length input)) (read_sheets formats false card input).verdict e in
    let w = altered_refused formats formats_alike false card input p b h o a.1 in
    (w.0, lines_refused card (set input p b) w.0 (ap (ltb 65536) (length-set input p b) ∙ a.0) w.1)

-- an accepted read-out is not too long, and its lines are accepted
lined_accepted : (long : Bool) (v : Reply) (ps : List Page) → (cond long (judged (Err TooLong) []) (lined v ps)).verdict ≡ Ok tt → (long ≡ false) × (v ≡ Ok tt)
lined_accepted true v ps e = let z : ◌≡◌ {A = ℕ} 0 1 = cc in absurd (omega arith)
lined_accepted false (Err x) ps e = let z : ◌≡◌ {A = ℕ} 0 1 = cc in absurd (omega arith)
lined_accepted false (Ok _) ps e = (refl, refl)

pub altered_readout_refused : AlteredReadoutRefused
unfolding pages_read
altered_readout_refused input p b h o e =
    let a = lined_accepted (ltb 65536 (length input)) (read_sheets formats true 0 input).verdict (read_sheets formats true 0 input).pages e in
    let w = altered_refused formats formats_alike true 0 input p b h o a.1 in
    (w.0, all_refused (set input p b) w.0 (ap (ltb 65536) (length-set input p b) ∙ a.0) w.1)

-- ---- frames too few

pub short_sheet_refused : ShortSheetRefused
short_sheet_refused card h frs rest r x v l = lines_refused card (short_bytes format h frs rest) r (le-ltb 65536 (length (short_bytes format h frs rest)) l) (first_short formats formats_valid false card h frs rest r x v)

pub short_readout_refused : ShortReadoutRefused
short_readout_refused n c front rest r d v l = all_refused (front ++ rest) r (le-ltb 65536 (length (front ++ rest)) l) (due_refused formats formats_valid n c front d rest r v)

pub stops_where_due : StopsWhereDue
stops_where_due = stops formats

-- whatever number of frames there is
next_refused : (h : Header) (frs : List Frame) (rest : List ℕ) (r : Refusal) → h.card < 16 → Next h.card h.cards rest r → next_verdict format h frs rest ≡ Err r
next_refused h frs rest r c ends = ends_there format (start_of format h) h.card h.cards (h.base + 1 + length frs) (last_of no_frame frs)
next_refused h frs rest r c (sheet not-two next more) =
    length_other format (start_of format h) (start_of format next) 20 h.card h.cards (h.base + 1 + length frs) (last_of no_frame frs) (header_line format next) more (header_passing format format_valid next) (λ (e : 4 + 8 + h.cards * 4 ≡ 20). not-two (omega arith))
next_refused h frs rest r c (other two next more small ne) =
    frame_carried format (start_of format h) (start_of format next) h.card h.cards (h.base + 1 + length frs) (last_of no_frame frs) (header_line format next) more (rw two (header_passing format format_valid next)) (eight format format_valid h.card h.session)
    (card_apart formats formats_apart h.cards next.cards h.card next.card h.session next.session (omega arith) small (λ (e : h.card ≡ next.card). ne (sym e)))

pub fewer_refused : FewerRefused
fewer_refused card h frs rest r x n l =
    let w = header_limits format card 0 h x.header in
    short_sheet_refused card h frs rest r x (next_refused h frs rest r (omega (arith, w.below, w.cards)) (subst (λ (k : ℕ). Next k h.cards rest r) (sym w.card) n)) l

pub fewer_readout_refused : FewerReadoutRefused
fewer_readout_refused n c front rest r d x l =
    let h = d.header in
    let w = header_limits format c n h d.fewer.header in
    short_readout_refused n c front rest r d
    (next_refused h d.frames rest r (omega (arith, w.below, w.cards)) (subst (λ (k : ℕ). Next h.card k rest r) (sym d.cards) (subst (λ (k : ℕ). Next k n rest r) (sym w.card) x))) l

-- ---- a frame of another sheet

-- the lines of an accepted read-out are accepted
lines_accepted : (input : List ℕ) → (readout_of input).verdict ≡ Ok tt → (read_sheets formats true 0 input).verdict ≡ Ok tt
unfolding pages_read
lines_accepted input e = (lined_accepted (ltb 65536 (length input)) (read_sheets formats true 0 input).verdict (read_sheets formats true 0 input).pages e).1

module _ (n d : ℕ) (input line : List ℕ) (e : (readout_of input).verdict ≡ Ok tt) (y : FrameOf formats n d input line) where
  accepted : (read_sheets formats true 0 (y.front ++ (line ++ y.behind))).verdict ≡ Ok tt
  accepted = rw y.bytes at (lines_accepted input e)

  line_few : length line ≤ 81
  line_few =
      let w = header_limits format d n y.due.header y.due.fewer.header in
      omega (arith, y.long, w.cards, y.due.cards)

  carried :
      (c : ℕ) (front rest : List ℕ) (x : FrameDue formats n c front) →
      (start_of format x.header ≡ start_of format y.due.header → ⊥) →
      length (front ++ (line ++ rest)) ≤ 65536 →
      readout_of (front ++ (line ++ rest)) ≡ record { readout = no_readout; verdict = Err BadCheck }
  carried c front rest x ne l =
      all_refused (front ++ (line ++ rest)) BadCheck (le-ltb 65536 (length (front ++ (line ++ rest))) l)
      (carried_refused formats formats_valid formats_apart n d y.front line y.behind y.due y.long accepted c front rest x refl ne)

  -- of another card
  other_card : (h : Header) (c : ℕ) → h.card ≡ c → c < n → (c ≡ d → ⊥) → start_of format h ≡ start_of format y.due.header → ⊥
  other_card h c q l ne = carried_card formats formats_valid formats_apart n d y.front line y.behind y.due y.long accepted h (omega arith) (λ (z : h.card ≡ d). ne (sym q ∙ z))

  from_other : (c : ℕ) (front rest : List ℕ) → FrameDue formats n c front → (c ≡ d → ⊥) → length (front ++ (line ++ rest)) ≤ 65536 → readout_of (front ++ (line ++ rest)) ≡ record { readout = no_readout; verdict = Err BadCheck }
  from_other c front rest x ne l = carried c front rest x (other_card x.header c (due_card formats formats_valid n c front x) x.behind.more ne) l

  into_sheet : (card : ℕ) (h : Header) (frs : List Frame) (rest : List ℕ) → n ≡ h.cards → Fewer format card 0 h frs → (card ≡ d → ⊥) → next_verdict format h frs (line ++ rest) ≡ Err BadCheck
  into_sheet card h frs rest q x ne =
      let w = header_limits format card 0 h x.header in
      carried_there formats formats_valid formats_apart n d y.front line y.behind y.due y.long accepted h frs rest (sym q) refl (other_card h card w.card (omega (arith, w.below, w.card)) ne)

pub frames_stand : FramesStand
frames_stand input d k e h j =
    let a = accepted_pages input e in
    let ps = (pages_read input).pages in
    subst (λ (bs : List ℕ). FrameOf formats (length ps) d bs (line_at format (page_at ps d) k)) a.bytes (frame_stands formats (length ps) d k ps refl (whole_allowed ps a.whole) h j)

pub carried_frame_refused : CarriedFrameRefused
carried_frame_refused n c d input line front rest e y x ne l = from_other n d input line e y c front rest x ne l

pub carried_frame_put_in : CarriedFramePutIn
carried_frame_put_in n c d input line front rest e y x q ne =
    from_other n d input line e y c front rest x ne
    (omega (arith, length-append front (line ++ rest), length-append line rest, length-append front rest, ap length q, line_few n d input line e y, readout_few input (lines_accepted input e)))

pub carried_frame_in_place : CarriedFrameInPlace
carried_frame_in_place n c d input line old e y o ne =
    from_other n d input line e y c o.front o.behind o.due ne
    (omega (arith, length-append o.front (line ++ o.behind), length-append line o.behind, length-append o.front (old ++ o.behind), length-append old o.behind, ap length o.bytes, o.long, y.long, readout_few input (lines_accepted input e)))

pub other_session_refused : OtherSessionRefused
other_session_refused n c d input line front rest e y x ne l =
    carried n d input line e y c front rest x (carried_session formats formats_valid formats_apart n d y.front line y.behind y.due y.long (accepted n d input line e y) x.header ne) l

pub carried_into_sheet_refused : CarriedIntoSheetRefused
carried_into_sheet_refused d input line card h frs rest e y x ne l = short_sheet_refused card h frs (line ++ rest) BadCheck x (into_sheet h.cards d input line e y card h frs rest refl x ne) l

-- what is not accepted is refused
not_accepted : (input : List ℕ) → ((read_sheets formats true 0 input).verdict ≡ Ok tt → ⊥) → (r : Refusal) × (readout_of input ≡ record { readout = no_readout; verdict = Err r })
unfolding pages_read
not_accepted input n = by (ltb 65536 (length input)) (read_sheets formats true 0 input).verdict (read_sheets formats true 0 input).pages n
  where
    by : (long : Bool) (v : Reply) (ps : List Page) → (v ≡ Ok tt → ⊥) → (r : Refusal) × (given (cond long (judged (Err TooLong) []) (lined v ps)) ≡ record { readout = no_readout; verdict = Err r })
    by true v ps m = (TooLong, refl)
    by false (Err x) ps m = (x, refl)
    by false (Ok _) ps m = absurd (m refl)

pub frame_for_header_refused : FrameForHeaderRefused
frame_for_header_refused n c d input line front rest e y x ne =
    not_accepted (front ++ (line ++ rest)) (never_header formats formats_valid formats_apart n d y.front line y.behind y.due y.long (accepted n d input line e y) c front rest x ne)

-- ---- older sheets

-- the first header's check fails
older_header : (all : Bool) (card : ℕ) (input : List ℕ) → (read_sheets older all card input).verdict ≡ Ok tt → (read_sheets formats all card input).verdict ≡ Err BadCheck
unfolding read_sheets header_in header_allowed
older_header all card input e =
    let f = format_in older input in
    let h = header_in f input in
    let fs = frames_of f h input in
    let a = with_both (header_verdict f card 0 input) fs.verdict h fs input (more_sheets older (cond all (cards_of f h - 1) 0) (card + 1) (cards_of f h) fs.rest) e in
    let p = header_passed f card 0 input a.0 in
    let w = header_limits f card 0 h p.allowed_is in
    let g : header_verdict format card 0 input ≡ Err BadCheck = header_carried format (record { first = 0; second = 0 }) card 0 input p.whole p.right_is (λ (z : (start_of format h).first % 256 ≡ 0). absurd (omega (arith, formats_apart.from_one h.cards h.card h.session (omega (arith, w.below, w.cards)), w.below, w.cards))) in
    rw g

pub older_sheet_refused : OlderSheetRefused
older_sheet_refused card input e l = lines_refused card input BadCheck (le-ltb 65536 (length input) l) (older_header false card input e)

pub older_readout_refused : OlderReadoutRefused
older_readout_refused input e l = all_refused input BadCheck (le-ltb 65536 (length input) l) (older_header true 0 input e)
