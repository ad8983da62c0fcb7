-- Sheets and read-outs: written and read back, read and written again, one byte altered, frames too few; for any format, any number of entries and any width.
-- Assumes nothing.
use Rattle.std.specs.Prelude.{Ok, Err}
use Prim.Native.Nat.{ℕ, zero, suc, ◌+◌, ◌-◌, ◌≤◌, ◌<◌}
use mathlib.Core.Path.{◌≡◌, refl, sym, ◌∙◌, ap}
use mathlib.Core.Bool.{Bool, true, false, cond}
use mathlib.Core.List.{List, [], ◌∷◌, ◌++◌, append_assoc, append-nil}
use mathlib.Core.Logic.{◌⊎◌, inl, inr, ⊎_elim, by_cases}
use native.Mathlib.Nat.{suc-add, zero-add, add-zero}
use native.Mathlib.Decide.{dec_lt}
use native.Mathlib.Omega.{arith}
use lib.Dec.{eqb, eqb-suc-zero}
use lib.ListN.{length, drop, get_or, set, length-drop}
use lib.Seq.{get_or-drop, drop-set-add}
use Rattle.base_refusal.specs.declared.Refusal.{Refusal}
use Rattle.base_refusal.specs.declared.Refusal.TheVariants.{BadLine, BadCheck, BadFrame, EndOrMore}
use Rattle.base_laws.proofs.Logic.{and_left, and_right}
use Rattle.sheet_digits.specs.declared.Sums.{Sums}
use Rattle.sheet_digits.specs.Line.{shaped, checked, shape_of}
use Rattle.base_refusal.specs.Reply.{Reply}
use Rattle.sheet_lines.specs.declared.Header.{Header}
use Rattle.sheet_lines.specs.declared.Frame.{Frame}
use Rattle.sheet_lines.specs.Format.{Format, Formats, formats}
use Rattle.sheet_lines.specs.Lines.{cards_of, format_in, format_for, start_of, header_digits, header_line, header_in, header_verdict, frame_digits, frame_line, frame_in, state_in, judged, frame_allowed, frame_verdict, no_frame}
use Rattle.sheet_lines.proofs.Passed.{header_limits}
use Rattle.sheet_line_round.proofs.Round.{Valid, format_valid, header_back, header_rest, header_accepted, header_again, frame_back, frame_rest, frame_accepted, frame_again, told_again, told_untouched, Alike, header_altered, frame_altered, header_untouched, frame_untouched, header_room, frame_room}
use Rattle.sheet_pages.specs.Pages.{Page, frames_bytes, bytes_in, page_bytes, pages_bytes, Frames, with_frame, read_frames, frames_of, Sheets, with_sheet, sheet_in, read_sheet, ended, more_sheets, read_sheets}
use Rattle.sheet_pages.proofs.Walk.{accepts_or}
use Rattle.sheet_pages.specs.Allowed.{frames_allowed, Formed, Allowed, AllAllowed, last_of}

-- ---- written, then read

-- frames put before what was read
abbrev pub before : List Frame → Frames → Frames
before frs r = record { frames = frs ++ r.frames; verdict = r.verdict; rest = r.rest }

module _ (f : Format) (s : Valid f) (start : Sums) (p : start.first < 256) (q : start.second < 256) (card n : ℕ) where
  -- frames that are written read back, and the reading goes on behind them
  pub frames_back :
      (frs : List Frame) (k state : ℕ) (last : Frame) (rest : List ℕ) →
      frames_allowed f card n state last frs ≡ true →
      Formed n frs →
      state + length frs ≤ suc f.states →
      read_frames f start card n (length frs + k) state last (frames_bytes f start n state frs ++ rest) ≡ before frs (read_frames f start card n k (state + length frs) (last_of last frs) rest)
  frames_back [] k state last rest a m b = rw (zero-add k, add-zero state)
  frames_back (fr ∷ frs) k state last rest a m b =
      let x = frame_allowed f card n state last state fr in
      let a₀ = and_left x (frames_allowed f card n (state + 1) fr frs) a in
      let a₁ = and_right x (frames_allowed f card n (state + 1) fr frs) a in
      let tail = frames_bytes f start n (state + 1) frs ++ rest in
      let i : frames_bytes f start n state (fr ∷ frs) ++ rest ≡ frame_line f start n state fr ++ tail = append_assoc (frame_line f start n state fr) (frames_bytes f start n (state + 1) frs) rest in
      let c : state + suc (length frs) ≡ state + 1 + length frs = omega arith in
      let v = frame_accepted f s start p q card n state last fr tail a₀ m.0 m.1 (omega arith) in
      let g = frame_back f s start p q card n state last fr tail a₀ m.0 m.1 (omega arith) in
      let d = frame_rest f s start p q card n state last fr tail a₀ m.0 m.1 (omega arith) in
      rw (suc-add (length frs) k, i, v, g, d, c, frames_back frs k (state + 1) fr rest a₁ m.2 (omega arith))

-- the frames of a sheet within the limits
page_frames : (f : Format) → Valid f → (due first : ℕ) (p : Page) (rest : List ℕ) → Allowed f due first p → frames_of f p.header (bytes_in f p ++ rest) ≡ record { frames = p.frames; verdict = Ok tt; rest = rest }
page_frames f s due first p rest a =
    let h = p.header in
    let l = header_limits f due first h a.header in
    let body = frames_bytes f (start_of f h) (cards_of f h) (h.base + 1) p.frames in
    let i : bytes_in f p ++ rest ≡ header_line f h ++ (body ++ rest) = append_assoc (header_line f h) body rest in
    let c : h.count ≡ length p.frames + 0 = a.count ∙ sym (add-zero (length p.frames)) in
    let b = a.count in
    rw (i, header_rest f s due first h (body ++ rest) a.header a.session, c)
    (frames_back f s (start_of f h) (s.first h.card h.session) (s.second h.card h.session) h.card (cards_of f h) p.frames 0 (h.base + 1) no_frame rest a.frames a.formed (omega (arith, l.states))
    ∙ (λ i. record { frames = append-nil p.frames i; verdict = Ok tt; rest = rest }))

-- the header of a sheet within the limits, written and read
page_header : (f : Format) → Valid f → (due first : ℕ) (p : Page) (rest : List ℕ) → Allowed f due first p → (header_verdict f due first (bytes_in f p ++ rest) ≡ Ok tt) × (header_in f (bytes_in f p ++ rest) ≡ p.header)
page_header f s due first p rest a =
    let h = p.header in
    let body = frames_bytes f (start_of f h) (cards_of f h) (h.base + 1) p.frames in
    let i : bytes_in f p ++ rest ≡ header_line f h ++ (body ++ rest) = append_assoc (header_line f h) body rest in
    (rw i (header_accepted f s due first h (body ++ rest) a.header a.session), rw i (header_back f s due first h (body ++ rest) a.header a.session))

sheet_in_back :
    (f : Format) → Valid f → (due first : ℕ) (p : Page) (rest : List ℕ) (next : ℕ → List ℕ → Sheets) → Allowed f due first p → sheet_in f due first next (bytes_in f p ++ rest) ≡ with_sheet (Ok tt) (Ok tt) p.header (record { frames = p.frames; verdict = Ok tt; rest = rest }) (bytes_in f p ++ rest) (next (cards_of f p.header) rest)
sheet_in_back f s due first p rest next a =
    let e = page_header f s due first p rest a in
    rw (e.0, e.1, page_frames f s due first p rest a)

-- all formats are valid
abbrev pub AllValid : Formats → Type 0
AllValid F = (told : ℕ) → Valid (F told)

pub formats_valid : AllValid formats
formats_valid told = format_valid

-- a sheet within the limits reads back, and the reading goes on behind it
pub sheet_back :
    (F : Formats) → AllValid F → (due first : ℕ) (p : Page) (rest : List ℕ) (next : ℕ → List ℕ → Sheets) → Allowed (format_for F p.header) due first p → read_sheet F due first next (page_bytes F p ++ rest) ≡ with_sheet (Ok tt) (Ok tt) p.header (record { frames = p.frames; verdict = Ok tt; rest = rest }) (page_bytes F p ++ rest) (next (cards_of (format_for F p.header) p.header) rest)
sheet_back F s due first p rest next a =
    let f = format_for F p.header in
    let k = s p.header.cards in
    ap (λ (g : Format). sheet_in g due first next (page_bytes F p ++ rest)) (told_again F f (bytes_in f p ++ rest) (page_header f k due first p rest a).1) ∙ sheet_in_back f k due first p rest next a

more_back : (F : Formats) → AllValid F → (due first : ℕ) (ps : List Page) → AllAllowed F due first ps → more_sheets F (length ps) due first (pages_bytes F ps) ≡ record { pages = ps; verdict = Ok tt; rest = [] }
more_back F s due first [] a = refl
more_back F s due first (p ∷ ps) a =
    sheet_back F s due first p (pages_bytes F ps) (λ cards rest. more_sheets F (length ps) (due + 1) first rest) a.0 ∙ ap (with_sheet (Ok tt) (Ok tt) p.header (record { frames = p.frames; verdict = Ok tt; rest = pages_bytes F ps }) (page_bytes F p ++ pages_bytes F ps)) (more_back F s (due + 1) first ps a.1)

-- What is written reads back the same: a sheet (`all` false), and a read-out of as many sheets as its number of cards (`all` true).
pub written_reads_back :
    (F : Formats) → AllValid F → (all : Bool) (due : ℕ) (p : Page) (ps : List Page) →
    Allowed (format_for F p.header) due 0 p →
    AllAllowed F (due + 1) (cards_of (format_for F p.header) p.header) ps →
    cond all (cards_of (format_for F p.header) p.header - 1) 0 ≡ length ps →
    read_sheets F all due (pages_bytes F (p ∷ ps)) ≡ record { pages = p ∷ ps; verdict = Ok tt; rest = [] }
unfolding read_sheets
written_reads_back F s all due p ps a more e =
    sheet_back F s due 0 p (pages_bytes F ps) (λ cards rest. more_sheets F (cond all (cards - 1) 0) (due + 1) cards rest) a
    ∙ rw e (ap (with_sheet (Ok tt) (Ok tt) p.header (record { frames = p.frames; verdict = Ok tt; rest = pages_bytes F ps }) (page_bytes F p ++ pages_bytes F ps)) (more_back F s (due + 1) (cards_of (format_for F p.header) p.header) ps more))

-- ---- read, then written

pub with_accepted : (v : Reply) (fr : Frame) (input : List ℕ) (next : Frames) → (with_frame v fr input next).verdict ≡ Ok tt → (v ≡ Ok tt) × (next.verdict ≡ Ok tt)
with_accepted (Ok _) fr input next e = (refl, e)
with_accepted (Err r) fr input next e = let z : ◌≡◌ {A = ℕ} 0 1 = cc in absurd (omega arith)

pub with_both : (v w : Reply) (h : Header) (fs : Frames) (input : List ℕ) (next : Sheets) → (with_sheet v w h fs input next).verdict ≡ Ok tt → (v ≡ Ok tt) × (w ≡ Ok tt) × (next.verdict ≡ Ok tt)
with_both (Err r) w h fs input next e = let z : ◌≡◌ {A = ℕ} 0 1 = cc in absurd (omega arith)
with_both (Ok _) (Err r) h fs input next e = let z : ◌≡◌ {A = ℕ} 0 1 = cc in absurd (omega arith)
with_both (Ok _) (Ok _) h fs input next e = (refl, refl, e)

pub frames_again :
    (f : Format) (start : Sums) (card n k state : ℕ) (last : Frame) (input : List ℕ) →
    (read_frames f start card n k state last input).verdict ≡ Ok tt →
    frames_bytes f start n state (read_frames f start card n k state last input).frames ++ (read_frames f start card n k state last input).rest ≡ input
frames_again f start card n zero state last input e = refl
frames_again f start card n (suc k) state last input e =
    let fr = frame_in f n input in
    let more = drop (frame_digits f n + 5) input in
    let next = read_frames f start card n k (state + 1) fr more in
    let a = with_accepted (frame_verdict f start card n state last input) fr input next e in
    let bytes = frames_bytes f start n (state + 1) next.frames in
    rw a.0
    (append_assoc (frame_line f start n state fr) bytes next.rest
    ∙ ap (λ (x : List ℕ). frame_line f start n state fr ++ x) (frames_again f start card n k (state + 1) fr more a.1)
    ∙ frame_again f start card n state last input a.0)

sheet_again :
    (F : Formats) (due first : ℕ) (next : ℕ → List ℕ → Sheets) (input : List ℕ) →
    ((cards : ℕ) (rest : List ℕ) → (next cards rest).verdict ≡ Ok tt → pages_bytes F (next cards rest).pages ≡ rest) →
    (read_sheet F due first next input).verdict ≡ Ok tt →
    pages_bytes F (read_sheet F due first next input).pages ≡ input
sheet_again F due first next input g e =
    let f = format_in F input in
    let h = header_in f input in
    let fs = frames_of f h input in
    let a = with_both (header_verdict f due first input) fs.verdict h fs input (next (cards_of f h) fs.rest) e in
    let body = frames_bytes f (start_of f h) (cards_of f h) (h.base + 1) fs.frames in
    let k : format_for F h ≡ f = sym (told_again F f input refl) in
    let rest = pages_bytes F (next (cards_of f h) fs.rest).pages in
    rw (a.0, a.1)
    (ap (λ (x : Format). bytes_in x (record { header = h; frames = fs.frames }) ++ rest) k
    ∙ append_assoc (header_line f h) body rest
    ∙ ap (λ (x : List ℕ). header_line f h ++ (body ++ x)) (g (cards_of f h) fs.rest a.2)
    ∙ ap (λ (x : List ℕ). header_line f h ++ x) (frames_again f (start_of f h) h.card (cards_of f h) h.count (h.base + 1) no_frame (drop (header_digits f + 5) input) a.1)
    ∙ header_again f due first input a.0)

empty_end : (input : List ℕ) → (ended input).verdict ≡ Ok tt → [] ≡ input
empty_end [] e = refl
empty_end (b ∷ bs) e = let q : eqb (suc (length bs)) 0 ≡ false = eqb-suc-zero (length bs) in let z : ◌≡◌ {A = ℕ} 0 1 = cc (rw q at e) in absurd (omega arith)

more_again : (F : Formats) (k due first : ℕ) (input : List ℕ) → (more_sheets F k due first input).verdict ≡ Ok tt → pages_bytes F (more_sheets F k due first input).pages ≡ input
more_again F zero due first input e = empty_end input e
more_again F (suc k) due first input e = sheet_again F due first (λ cards rest. more_sheets F k (due + 1) first rest) input (λ cards rest. more_again F k (due + 1) first rest) e

-- Bytes that a reader accepts are the very bytes that are written of what was read: a sheet (`all` false), and a read-out (`all` true).
pub read_writes_again : (F : Formats) (all : Bool) (due : ℕ) (input : List ℕ) → (read_sheets F all due input).verdict ≡ Ok tt → pages_bytes F (read_sheets F all due input).pages ≡ input
unfolding read_sheets
read_writes_again F all due input e =
    sheet_again F due 0 (λ cards rest. more_sheets F (cond all (cards - 1) 0) (due + 1) cards rest) input (λ cards rest. more_again F (cond all (cards - 1) 0) (due + 1) cards rest) e

-- ---- one altered byte

-- a byte that differs from the one at its place
pub record Alters (input : List ℕ) (p b : ℕ) : Type 0 where
  pub inside : p < length input
  pub other : b ≡ get_or input p 0 → ⊥

-- behind the first k bytes
later : (input : List ℕ) (p b k : ℕ) → Alters input p b → k ≤ p → Alters (drop k input) (p - k) b
later input p b k a h =
    let e : k + (p - k) ≡ p = omega arith in
    record {
      inside = rw length-drop (omega (arith, a.inside));
      other = λ (q : b ≡ get_or (drop k input) (p - k) 0). a.other (q ∙ get_or-drop k input (p - k) 0 ∙ ap (λ (i : ℕ). get_or input i 0) e);
    }

drop_later : (input : List ℕ) (p b k : ℕ) → k ≤ p → drop k (set input p b) ≡ set (drop k input) (p - k) b
drop_later input p b k h =
    let e : p ≡ k + (p - k) = omega arith in
    ap (λ (i : ℕ). drop k (set input i b)) e ∙ drop-set-add k input (p - k) b

-- an alteration that frames do not notice is behind them
abbrev Passed-on : List ℕ → List ℕ → ℕ → Type 0
Passed-on rest rest' b = (p : ℕ) × Alters rest p b × (rest' ≡ set rest p b)

frames_altered :
    (f : Format) (start : Sums) (card n k state : ℕ) (last : Frame) (input : List ℕ) (p b : ℕ) →
    Alters input p b →
    (read_frames f start card n k state last input).verdict ≡ Ok tt →
    (read_frames f start card n k state last (set input p b)).verdict ≡ Ok tt →
    Passed-on (read_frames f start card n k state last input).rest (read_frames f start card n k state last (set input p b)).rest b
frames_altered f start card n zero state last input p b a e g = (p, a, refl)
frames_altered f start card n (suc k) state last input p b a e g =
    let l = frame_digits f n + 5 in
    let fr = frame_in f n input in
    let fr' = frame_in f n (set input p b) in
    let x = with_accepted (frame_verdict f start card n state last input) fr input (read_frames f start card n k (state + 1) fr (drop l input)) e in
    let y = with_accepted (frame_verdict f start card n state last (set input p b)) fr' (set input p b) (read_frames f start card n k (state + 1) fr' (drop l (set input p b))) g in
    by_cases (dec_lt p l) (λ h. absurd (a.other (frame_altered f start card n state last input p b h x.0 y.0)))
    (λ h.
    let z : l ≤ p = omega arith in
    let u = frame_untouched f n input p b z (frame_room f start card n state last input x.0) in
    let d = drop_later input p b l z in
    rw (x.0, y.0, u, d) (frames_altered f start card n k (state + 1) fr (drop l input) (p - l) b (later input p b l a z) x.1 (rw (u, d) at y.1)))

sheet_altered :
    (F : Formats) → Alike F → (due first : ℕ) (next : ℕ → List ℕ → Sheets) (input : List ℕ) (p b : ℕ) →
    ((cards : ℕ) (rest : List ℕ) (q : ℕ) → Alters rest q b → (next cards rest).verdict ≡ Ok tt → (next cards (set rest q b)).verdict ≡ Ok tt → ⊥) →
    Alters input p b →
    (read_sheet F due first next input).verdict ≡ Ok tt →
    (read_sheet F due first next (set input p b)).verdict ≡ Ok tt →
    ⊥
sheet_altered F t due first next input p b n a e g =
    let f = format_in F input in
    let f' = format_in F (set input p b) in
    let l = header_digits f + 5 in
    let h = header_in f input in
    let h' = header_in f' (set input p b) in
    let fs = frames_of f h input in
    let fs' = frames_of f' h' (set input p b) in
    let x = with_both (header_verdict f due first input) fs.verdict h fs input (next (cards_of f h) fs.rest) e in
    let y = with_both (header_verdict f' due first (set input p b)) fs'.verdict h' fs' (set input p b) (next (cards_of f' h') fs'.rest) g in
    by_cases (dec_lt p l) (λ q. a.other (header_altered F t due first input p b x.0 y.0 q))
    (λ q.
    let z : l ≤ p = omega arith in
    let k : f' ≡ f = told_untouched F input p b z in
    let u = header_untouched f input p b z (header_room f due first input x.0) in
    let d = drop_later input p b l z in
    let w = frames_altered f (start_of f h) h.card (cards_of f h) h.count (h.base + 1) no_frame (drop l input) (p - l) b (later input p b l a z) x.1 (rw (u, d) at (rw k at y.1)) in
    n (cards_of f h) fs.rest w.0 w.1 x.2 (rw w.2 at (rw (u, d) at (rw k at y.2))))

more_altered :
    (F : Formats) → Alike F → (k due first : ℕ) (input : List ℕ) (p b : ℕ) →
    Alters input p b →
    (more_sheets F k due first input).verdict ≡ Ok tt →
    (more_sheets F k due first (set input p b)).verdict ≡ Ok tt →
    ⊥
more_altered F t zero due first input p b a e g = let q : length input ≡ 0 = ap length (sym (empty_end input e)) in omega (arith, a.inside)
more_altered F t (suc k) due first input p b a e g =
    sheet_altered F t due first (λ cards rest. more_sheets F k (due + 1) first rest) input p b (λ cards rest q. more_altered F t k (due + 1) first rest q b) a e g

-- One altered byte in an accepted sheet (`all` false), or in an accepted read-out (`all` true), is refused, whichever byte, whatever it becomes.
pub altered_refused :
    (F : Formats) → Alike F → (all : Bool) (due : ℕ) (input : List ℕ) (p b : ℕ) →
    p < length input →
    (b ≡ get_or input p 0 → ⊥) →
    (read_sheets F all due input).verdict ≡ Ok tt →
    (r : Refusal) × ((read_sheets F all due (set input p b)).verdict ≡ Err r)
unfolding read_sheets
altered_refused F t all due input p b h o e =
    ⊎_elim
    (λ (g : (read_sheets F all due (set input p b)).verdict ≡ Ok tt).
    absurd (sheet_altered F t due 0 (λ cards rest. more_sheets F (cond all (cards - 1) 0) (due + 1) cards rest) input p b (λ cards rest q. more_altered F t (cond all (cards - 1) 0) (due + 1) cards rest q b) (record { inside = h; other = o }) e g))
    (λ (x : (r : Refusal) × ((read_sheets F all due (set input p b)).verdict ≡ Err r)). x) (accepts_or (read_sheets F all due (set input p b)).verdict)

-- ---- frames too few

-- Frames within the limits, with more declared: what stands where the next frame is due decides. The frames before it were read, and the verdict is that line's.
pub frames_short :
    (f : Format) (s : Valid f) (start : Sums) → start.first < 256 → start.second < 256 → (card n : ℕ) (frs : List Frame) (count state : ℕ) (last : Frame) (rest : List ℕ) {r : Refusal} →
    length frs < count →
    frames_allowed f card n state last frs ≡ true →
    Formed n frs →
    state + length frs ≤ suc f.states →
    frame_verdict f start card n (state + length frs) (last_of last frs) rest ≡ Err r →
    read_frames f start card n count state last (frames_bytes f start n state frs ++ rest) ≡ record { frames = frs; verdict = Err r; rest = rest }
frames_short f s start p q card n frs count state last rest {r} l a m b e =
    let k : count ≡ length frs + suc (count - length frs - 1) = omega arith in
    rw k (frames_back f s start p q card n frs (suc (count - length frs - 1)) state last rest a m b ∙ rw e (λ i. record { frames = append-nil frs i; verdict = Err r; rest = rest }))

-- where the input ends there, it is 8
pub ends_there : (f : Format) (start : Sums) (card n state : ℕ) (last : Frame) → frame_verdict f start card n state last [] ≡ Err EndOrMore
unfolding frame_verdict shape_of
ends_there f start card n state last = refl

-- else, where a line is refused, it is 5, 6 or 9
pub line_refused :
    (f : Format) (start : Sums) (card n state : ℕ) (last : Frame) (b : ℕ) (bs : List ℕ) (r : Refusal) →
    frame_verdict f start card n state last (b ∷ bs) ≡ Err r →
    (r ≡ BadLine) ⊎ ((r ≡ BadCheck) ⊎ (r ≡ BadFrame))
unfolding frame_verdict shape_of
line_refused f start card n state last b bs r e =
    judge (shaped (frame_digits f n) (b ∷ bs)) (checked start (frame_digits f n) (b ∷ bs)) (frame_allowed f card n state last (state_in f (b ∷ bs)) (frame_in f n (b ∷ bs))) e
  where
    judge : (x y z : Bool) → judged (cond x (Ok tt) (Err BadLine)) y z BadFrame ≡ Err r → (r ≡ BadLine) ⊎ ((r ≡ BadCheck) ⊎ (r ≡ BadFrame))
    judge false y z q = inl (cc)
    judge true false z q = inr (inl (cc))
    judge true true false q = inr (inr (cc))
    judge true true true q = let w : ◌≡◌ {A = ℕ} 0 1 = cc in absurd (omega arith)
