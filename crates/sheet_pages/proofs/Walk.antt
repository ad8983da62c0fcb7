-- The walk over sheets and frames: what is left of it at each place gives the whole. Assumes nothing.
use Rattle.std.specs.Prelude.{Ok, Err}
use Prim.Native.Nat.{ℕ, zero, suc, ◌+◌, ◌*◌, ◌-◌, ◌≤◌, ◌<◌, zero-le}
use mathlib.Core.Path.{◌≡◌, refl, sym, ◌∙◌, ap}
use mathlib.Core.Bool.{Bool, true, false, ◌||◌, cond}
use mathlib.Core.List.{List, []}
use mathlib.Core.Logic.{◌⊎◌, inl, inr, ⊎_elim}
use native.Mathlib.Omega.{arith}
use lib.Dec.{eqb}
use lib.ListN.{length, drop, set}
use lib.Seq.{sets, drop-drop}
use borrow.Author.Tests.{eq-eqb, ne_eqb, eqb-true}
use Rattle.base_limits.specs.Ring.{ring_place}
use Rattle.base_refusal.specs.declared.Refusal.{Refusal}
use Rattle.base_laws.proofs.Logic.{or_elim, cond_case}
use Rattle.sheet_digits.specs.declared.Sums.{Sums}
use Rattle.base_refusal.specs.Reply.{Reply}
use Rattle.sheet_lines.specs.declared.Header.{Header}
use Rattle.sheet_lines.specs.declared.Frame.{Frame}
use Rattle.sheet_lines.specs.Format.{Format, Formats}
use Rattle.sheet_lines.specs.Lines.{cards_of, format_in, header_digits, header_in, header_verdict, header_or, frame_digits, frame_in, frame_allowed, frame_verdict, frame_read_of, padded, no_frame}
use Rattle.sheet_lines.proofs.Passed.{header_within, Header-in-limits}
use Rattle.sheet_lines.proofs.Judged.{entries_same, padded_at, entries_count}
use Rattle.sheet_pages.specs.declared.Readout.{Readout}
use Rattle.sheet_pages.specs.declared.Reading.{Reading}
use Rattle.sheet_pages.specs.Pages.{Frames, with_frame, read_frames, frames_of, Sheets, with_sheet, ended, more_sheets, read_sheets}
use Rattle.sheet_pages.specs.Walk.{no_readout, lay_header, lay_frame, lay_frames, laid, read_up_to, answered, reading_in}

-- ---- answers told apart

-- a verdict accepts, or refuses with some refusal
pub accepts_or : (v : Reply) → (v ≡ Ok tt) ⊎ ((r : Refusal) × (v ≡ Err r))
accepts_or (Ok _) = inl refl
accepts_or (Err r) = inr (r, refl)

pub header_read_is : (v : Reply) (h g : Header) → header_or v h ≡ Ok g → (v ≡ Ok tt) × (h ≡ g)
header_read_is (Ok _) h g e = (refl, cc)
header_read_is (Err r) h g e = let z : ◌≡◌ {A = ℕ} 0 1 = cc in absurd (omega arith)

pub header_fault_is : (v : Reply) (h : Header) (r : Refusal) → header_or v h ≡ Err r → v ≡ Err r
header_fault_is (Ok _) h r e = let z : ◌≡◌ {A = ℕ} 0 1 = cc in absurd (omega arith)
header_fault_is (Err q) h r e = let i : q ≡ r = cc in ap Err i

pub frame_read_is : (v : Reply) (fr next : Frame) → frame_read_of v fr ≡ Ok next → (v ≡ Ok tt) × (fr.change ≡ next.change) × (next.entries ≡ padded fr.entries)
frame_read_is (Ok _) fr next e = (refl, cc, cc)
frame_read_is (Err r) fr next e = let z : ◌≡◌ {A = ℕ} 0 1 = cc in absurd (omega arith)

pub frame_fault_is : (v : Reply) (fr : Frame) (r : Refusal) → frame_read_of v fr ≡ Err r → v ≡ Err r
frame_fault_is (Ok _) fr r e = let z : ◌≡◌ {A = ℕ} 0 1 = cc in absurd (omega arith)
frame_fault_is (Err q) fr r e = let i : q ≡ r = cc in ap Err i

-- ---- what is left of the walk

-- the sheets left where `first` is the first sheet's number of cards, or 0 before it
abbrev pub going : Formats → Bool → ℕ → ℕ → ℕ → List ℕ → Sheets
going F all first left due input = cond (eqb first 0) (read_sheets F all due input) (more_sheets F left due first input)

-- frames laid from a state on, and what follows where they are accepted
abbrev pub laid_on : Reply → Readout → List ℕ → (List ℕ → Sheets) → Reading
laid_on (Ok _) r rest next = laid r (next rest)
laid_on (Err x) r rest next = record { readout = r; verdict = Err x }

abbrev pub laid_frames : ℕ → ℕ → ℕ → Readout → Frames → (List ℕ → Sheets) → Reading
laid_frames card state k r fs next = laid_on fs.verdict (lay_frames card state k fs.frames r) fs.rest next

-- a sheet whose header is accepted goes on with its frames
pub sheet_on :
    (v : Reply) (h : Header) (fs : Frames) (input : List ℕ) (r : Readout) (next : List ℕ → Sheets) →
    v ≡ Ok tt →
    laid r (with_sheet v fs.verdict h fs input (next fs.rest)) ≡ laid_frames h.card (h.base + 1) 0 (lay_header h r) fs next
sheet_on v h fs input r next e = rw e (by fs.verdict)
  where
    by : (w : Reply) → laid r (with_sheet (Ok tt) w h fs input (next fs.rest)) ≡ laid_on w (lay_frames h.card (h.base + 1) 0 fs.frames (lay_header h r)) fs.rest next
    by (Ok _) = refl
    by (Err x) = refl

-- a frame that is accepted goes on with the frames behind it
pub frame_on_lem :
    (card state k : ℕ) (r : Readout) (fr : Frame) (input : List ℕ) (fs : Frames) (next : List ℕ → Sheets) →
    laid_frames card state k r (with_frame (Ok tt) fr input fs) next ≡ laid_frames card (state + 1) (k + 1) (lay_frame card state k fr r) fs next
frame_on_lem card state k r fr input fs next = refl

-- the frame before, with its entries in an array
abbrev pub padded_frame : Frame → Frame
padded_frame fr = record { change = fr.change; entries = padded fr.entries }

verdict_padded :
    (f : Format) (start : Sums) (card n state : ℕ) (last : Frame) (input : List ℕ) → length last.entries ≤ 16 → frame_verdict f start card n state (padded_frame last) input ≡ frame_verdict f start card n state last input
unfolding frame_verdict frame_allowed
verdict_padded f start card n state last input h = rw (entries_same f card state n (padded last.entries) last.entries (frame_in f n input).entries (frame_in f n input).entries (padded_at last.entries h) (λ j. refl))

pub frames_padded :
    (f : Format) (start : Sums) (card n k state : ℕ) (last : Frame) (input : List ℕ) → length last.entries ≤ 16 → read_frames f start card n k state (padded_frame last) input ≡ read_frames f start card n k state last input
frames_padded f start card n zero state last input h = refl
frames_padded f start card n (suc k) state last input h = rw (verdict_padded f start card n state last input h)

-- ---- the records of the two loops

-- at the head of the loop over sheets
pub record Outer (F : Formats) (s : List ℕ) (card : ℕ) (all : Bool) (r : Readout) (at due first left : ℕ) : Type 0 where
  pub begun : first ≡ 0 → left ≡ 1
  pub goes_on : laid r (going F all first left due (drop at s)) ≡ read_up_to F all card s

-- at the head of the loop over frames
pub record Inner (F : Formats) (f : Format) (s : List ℕ) (card : ℕ) (all : Bool) (due left n base count session i : ℕ) (r : Readout) (at : ℕ) (last : Frame) (k : ℕ) : Type 0 where
  pub index : i ≡ due
  pub below : due < n
  pub cards : n ≤ 16
  pub some : 0 < left
  pub frames : count ≤ f.frames
  pub states : base + count ≤ f.states
  pub passed : k ≤ count
  pub goes_on :
      laid_frames due (base + 1 + k) k r (read_frames f (f.start due session) due n (count - k) (base + 1 + k) last (drop at s)) (more_sheets F (left - 1) (due + 1) n)
      ≡ read_up_to F all card s

-- a number is 0 or not
pub zero_or : (n : ℕ) → (n ≡ 0) ⊎ (n ≡ 0 → ⊥)
zero_or zero = inl refl
zero_or (suc n) = inr (λ e. omega arith)

-- a number of cards that agrees with the first sheet's is it
same_cards : (n first : ℕ) → (first ≡ 0 → ⊥) → (eqb first 0 || eqb n first) ≡ true → n ≡ first
same_cards n first z e = ⊎_elim (λ (p : eqb first 0 ≡ true). absurd (z (eqb-true first 0 p))) (λ (p : eqb n first ≡ true). eqb-true n first p) (or_elim (eqb first 0) (eqb n first) e)

pub lift_pos : (n : ℕ) → (n ≡ 0 → ⊥) → 0 < n
lift_pos n h = omega arith

-- ---- from place to place

pub outer_start : (F : Formats) (s : List ℕ) (card : ℕ) (all : Bool) → Outer F s card all no_readout 0 card 0 1
unfolding read_up_to
outer_start F s card all =
    record { begun = λ e. refl; goes_on = refl }

module _ {F : Formats} {s : List ℕ} {card : ℕ} {all : Bool} {r : Readout} {at due first left : ℕ} (o : Outer F s card all r at due first left) where
  -- what is left at the head of the loop, where this is the first sheet and where it is not
  first_on : first ≡ 0 → laid r (read_sheets F all due (drop at s)) ≡ read_up_to F all card s
  first_on e = rw (eq-eqb first 0 e) at o.goes_on

  more_on : (first ≡ 0 → ⊥) → laid r (more_sheets F left due first (drop at s)) ≡ read_up_to F all card s
  more_on e = rw (ne_eqb first 0 e) at o.goes_on

  pub outer_end : left ≡ 0 → {v : Reply} → v ≡ (ended (drop at s)).verdict → ◌≡◌ {A = Reading} (record { readout = r; verdict = v }) (read_up_to F all card s)
  outer_end e {v} q =
      let g : laid r (more_sheets F 0 due first (drop at s)) ≡ read_up_to F all card s = rw e at (more_on (λ z. omega (arith, o.begun z))) in
      rw q g

  abbrev picked : Format
  picked = format_in F (drop at s)

  fault_on : {x : Refusal} → 0 < left → header_verdict picked due first (drop at s) ≡ Err x → (first ≡ 0) ⊎ (first ≡ 0 → ⊥) → ◌≡◌ {A = Reading} (record { readout = r; verdict = Err x }) (read_up_to F all card s)
  unfolding read_sheets
  fault_on {x} l e (inl z) =
      let e' : header_verdict picked due 0 (drop at s) ≡ Err x = rw z at e in
      rw e' at (first_on z)
  fault_on {x} l e (inr z) =
      let q : left ≡ suc (left - 1) = omega arith in
      rw e at (rw q at (more_on z))

  pub outer_fault : {f : Format} {x : Refusal} → 0 < left → f ≡ picked → header_verdict f due first (drop at s) ≡ Err x → ◌≡◌ {A = Reading} (record { readout = r; verdict = Err x }) (read_up_to F all card s)
  outer_fault l p e = fault_on l (rw p at e) (zero_or first)

  -- the sheets left with this one, as the code counts them
  abbrev now_left : ℕ → ℕ
  now_left n = cond (eqb first 0) (cond all n left) left

  -- what is left, where a sheet is due, as one sheet and what follows it
  sheet_first : first ≡ 0 → left ≡ 1 → (n : ℕ) → cond all (n - 1) 0 ≡ now_left n - 1
  sheet_first e l n = rw (eq-eqb first 0 e) (by all)
    where
      by : (b : Bool) → cond b (n - 1) 0 ≡ cond b n left - 1
      by true = refl
      by false = rw l refl

  left_some : (n : ℕ) → 0 < n → 0 < left → 0 < now_left n
  left_some n h l = cond_case (λ (x : ℕ). 0 < x) (eqb first 0) (λ e. cond_case (λ (x : ℕ). 0 < x) all (λ e. h) (λ e. l)) (λ e. l)

  inner_on :
      (h : Header) →
      h ≡ header_in picked (drop at s) →
      header_verdict picked due first (drop at s) ≡ Ok tt →
      0 < left →
      (first ≡ 0) ⊎ (first ≡ 0 → ⊥) →
      laid_frames h.card (h.base + 1) 0 (lay_header h r) (frames_of picked h (drop at s)) (more_sheets F (now_left (cards_of picked h) - 1) (due + 1) (cards_of picked h)) ≡ read_up_to F all card s
  unfolding read_sheets
  inner_on h q e l (inl z) =
      let e' : header_verdict picked due 0 (drop at s) ≡ Ok tt = rw z at e in
      let g = header_in picked (drop at s) in
      rw (q, ← sheet_first z (o.begun z) (cards_of picked g))
      (sym (sheet_on (header_verdict picked due 0 (drop at s)) g (frames_of picked g (drop at s)) (drop at s) r (more_sheets F (cond all (cards_of picked g - 1) 0) (due + 1) (cards_of picked g)) e')
      ∙ first_on z)
  inner_on h q e l (inr z) =
      let g = header_in picked (drop at s) in
      let m : left ≡ suc (left - 1) = omega arith in
      let n : now_left (cards_of picked g) ≡ left = rw (ne_eqb first 0 z) refl in
      let c : cards_of picked g ≡ first = same_cards (cards_of picked g) first z (header_within picked due first (drop at s) e).agrees in
      rw (q, n)
      (ap (λ (x : ℕ). laid_frames g.card (g.base + 1) 0 (lay_header g r) (frames_of picked g (drop at s)) (more_sheets F (left - 1) (due + 1) x)) c
      ∙ sym (sheet_on (header_verdict picked due first (drop at s)) g (frames_of picked g (drop at s)) (drop at s) r (more_sheets F (left - 1) (due + 1) first) e)
      ∙ rw m at (more_on z))

  -- a header that is accepted leads to the loop over its frames
  pub outer_inner :
      {f : Format} (h : Header) {left' i n : ℕ} →
      0 < left →
      f.cards ≤ 16 →
      f ≡ picked →
      h ≡ header_in f (drop at s) →
      header_verdict f due first (drop at s) ≡ Ok tt →
      n ≡ cards_of f h →
      left' ≡ now_left n →
      i ≡ due →
      Inner F f s card all due left' n h.base h.count h.session i (lay_header (record { session = h.session; card = due; cards = h.cards; base = h.base; count = h.count }) r) (at + (header_digits f + 5)) no_frame 0
  outer_inner {f} h {left'} l few p q e y m i =
      let w : Header-in-limits f due first h = rw q (header_within f due first (drop at s) e) in
      let c : h.card ≡ due = w.card in
      let b : h.base + 1 + 0 ≡ h.base + 1 = omega arith in
      let k : h.count - 0 ≡ h.count = omega arith in
      record {
        index = i;
        below = rw (y, ← c) w.below;
        cards = rw y (omega (arith, w.cards));
        some = rw (m, y) (left_some (cards_of f h) (omega (arith, w.below)) l);
        frames = w.count;
        states = w.states;
        passed = zero-le;
        goes_on =
            rw (b, k, m, y, ← drop-drop (header_digits f + 5) at s)
            (ap (λ (x : ℕ). laid_frames x (h.base + 1) 0 (lay_header (record { session = h.session; card = x; cards = h.cards; base = h.base; count = h.count }) r) (read_frames f (f.start x h.session) x (cards_of f h) h.count (h.base + 1) no_frame (drop (header_digits f + 5) (drop at s))) (more_sheets F (now_left (cards_of f h) - 1) (due + 1) (cards_of f h))) (sym c)
            ∙ on_picked f p h q e);
      }
    where
      on_picked :
          (f : Format) →
          f ≡ picked →
          (h : Header) →
          h ≡ header_in f (drop at s) →
          header_verdict f due first (drop at s) ≡ Ok tt →
          laid_frames h.card (h.base + 1) 0 (lay_header h r) (frames_of f h (drop at s)) (more_sheets F (now_left (cards_of f h) - 1) (due + 1) (cards_of f h)) ≡ read_up_to F all card s
      on_picked f p h q e = rw p (inner_on h (rw p at q) (rw p at e) l (zero_or first))

module _ {F : Formats} {f : Format} {s : List ℕ} {card : ℕ} {all : Bool} {due left n base count session i : ℕ} {r : Readout} {at : ℕ} {last : Frame} {k : ℕ} (o : Inner F f s card all due left n base count session i r at last k) where
  abbrev frames_left : ℕ → ℕ → Frame → List ℕ → Frames
  frames_left m state before input = read_frames f (f.start due session) due n m state before input

  abbrev then_sheets : List ℕ → Sheets
  then_sheets = more_sheets F (left - 1) (due + 1) n

  -- one frame is due: its verdict decides
  frame_due : k < count → laid_frames due (base + 1 + k) k r (frames_left (suc (count - (k + 1))) (base + 1 + k) last (drop at s)) then_sheets ≡ read_up_to F all card s
  frame_due h = let m : count - k ≡ suc (count - (k + 1)) = omega arith in rw m at o.goes_on

  pub inner_fault : {x : Refusal} → k < count → frame_verdict f (f.start due session) due n (base + 1 + k) last (drop at s) ≡ Err x → ◌≡◌ {A = Reading} (record { readout = r; verdict = Err x }) (read_up_to F all card s)
  inner_fault h e = rw e at (frame_due h)

  -- behind the last frame the next sheet is due
  pub inner_end : count ≤ k → Outer F s card all r at (due + 1) n (left - 1)
  inner_end h =
      let m : count - k ≡ 0 = omega arith in
      let z : n ≡ 0 → ⊥ = λ (e : n ≡ 0). omega (arith, o.below) in
      record { begun = λ e. absurd (z e); goes_on = rw (ne_eqb n 0 z) (rw m at o.goes_on) }

  entries_within : length (frame_in f n (drop at s)).entries ≤ 16
  unfolding frame_in
  entries_within = rw (entries_count f n (drop (f.width + 8) (drop at s))) o.cards

  -- a frame that is accepted is taken in
  pub inner_step :
      (fr : Frame) →
      k < count →
      fr ≡ frame_in f n (drop at s) →
      frame_verdict f (f.start due session) due n (base + 1 + k) last (drop at s) ≡ Ok tt →
      Inner F f s card all due left n base count session i (lay_frame due (base + 1 + k) k fr r) (at + (frame_digits f n + 5)) (padded_frame fr) (k + 1)
  inner_step fr h q e =
      let b : base + 1 + (k + 1) ≡ base + 1 + k + 1 = omega arith in
      let input = drop at s in
      let l : length (frame_in f n input).entries ≤ 16 = entries_within in
      record {
        index = o.index;
        below = o.below;
        cards = o.cards;
        some = o.some;
        frames = o.frames;
        states = o.states;
        passed = omega arith;
        goes_on =
            rw (q, b, ← drop-drop (frame_digits f n + 5) at s, frames_padded f (f.start due session) due n (count - (k + 1)) (base + 1 + k + 1) (frame_in f n input) (drop (frame_digits f n + 5) input) l)
            (rw e at (frame_due h));
      }

  -- the same, with the frame and its place as the code has them
  pub inner_again :
      {change place : ℕ} {es stored : List ℕ} →
      k < count →
      frame_verdict f (f.start due session) due n (base + 1 + k) last (drop at s) ≡ Ok tt →
      (frame_in f n (drop at s)).change ≡ change →
      es ≡ padded (frame_in f n (drop at s)).entries →
      place ≡ ring_place due (base + 1 + k) →
      stored ≡ sets r.entries (place * 16) es →
      Inner F f s card all due left n base count session i
      (record { changes = set r.changes place change; entries = stored; sessions = r.sessions; bases = r.bases; counts = set r.counts i (k + 1); cards = r.cards })
      (at + (frame_digits f n + 5))
      (record { change = change; entries = es })
      (k + 1)
  inner_again h e p q l t = rw (t, q, ← p, l, o.index) (rw o.index at (inner_step (frame_in f n (drop at s)) h refl e))

-- the measure of the loop over sheets falls
pub sheets_fewer :
    (all : Bool) (first left n left' : ℕ) → left' ≡ cond (eqb first 0) (cond all n left) left → (first ≡ 0 → left ≡ 1) → 0 < left → 0 < n → n ≤ 16 → cond (eqb n 0) 17 (left' - 1) < cond (eqb first 0) 17 left
sheets_fewer all first left n left' e b l p q = rw (ne_eqb n 0 (λ (z : n ≡ 0). omega arith)) (by (zero_or first))
  where
    by : (first ≡ 0) ⊎ (first ≡ 0 → ⊥) → left' - 1 < cond (eqb first 0) 17 left
    by (inl z) =
        let m : left' ≡ cond all n left = e ∙ rw (eq-eqb first 0 z) in
        let c : cond all n left ≤ 16 = cond_case (λ (x : ℕ). x ≤ 16) all (λ t. q) (λ t. omega (arith, b z)) in
        rw (eq-eqb first 0 z) (omega arith)
    by (inr z) =
        let m : left' ≡ left = e ∙ rw (ne_eqb first 0 z) in
        rw (ne_eqb first 0 z) (omega arith)

-- ---- the answer, by the verdict

-- a reading by its parts
pub read_as : {r r' : Readout} {v v' : Reply} {g : Reading} → r ≡ r' → v ≡ v' → ◌≡◌ {A = Reading} (record { readout = r'; verdict = v' }) g → ◌≡◌ {A = Reading} (record { readout = r; verdict = v }) g
read_as p q e = (λ i. record { readout = p i; verdict = q i }) ∙ e

module _ (F : Formats) (all : Bool) (card : ℕ) (s : List ℕ) {r : Readout} {v : Reply} (e : ◌≡◌ {A = Reading} (record { readout = r; verdict = v }) (read_up_to F all card s)) where
  verdict_is : (read_sheets F all card s).verdict ≡ v
  unfolding read_up_to
  verdict_is = sym (ap (λ (x : Reading). x.verdict) e)

  pub kept : v ≡ Ok tt → ◌≡◌ {A = Reading} (record { readout = r; verdict = v }) (reading_in F all card s)
  unfolding read_up_to reading_in
  kept q = e ∙ rw (verdict_is, q)

  pub wiped : {x : Refusal} {g : Reading} → v ≡ Err x → g ≡ answered (Err x) [] → g ≡ reading_in F all card s
  unfolding read_up_to reading_in
  wiped q p = p ∙ rw (verdict_is, q)

-- an accepted answer is all that was read
pub accepted_is : (F : Formats) (all : Bool) (card : ℕ) (s : List ℕ) {g : Reading} → g ≡ reading_in F all card s → g.verdict ≡ Ok tt → g ≡ laid no_readout (read_sheets F all card s)
unfolding reading_in
accepted_is F all card s e v =
    let q : (read_sheets F all card s).verdict ≡ Ok tt = sym (ap (λ (x : Reading). x.verdict) e) ∙ v in
    e ∙ rw q
