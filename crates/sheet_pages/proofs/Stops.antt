-- Wherever the reading of a read-out stops, a header or a frame is due there, or the last sheet is behind it; for any format. Assumes nothing.
use Rattle.std.specs.Prelude.{Ok, Err}
use Prim.Native.Nat.{ℕ, zero, suc, ◌+◌, ◌-◌, ◌<◌}
use mathlib.Core.Path.{◌≡◌, refl, sym, ◌∙◌, ap, subst}
use mathlib.Core.Bool.{true, cond}
use mathlib.Core.List.{List, [], ◌∷◌, ◌++◌, append_assoc}
use native.Mathlib.Nat.{add-zero}
use native.Mathlib.Omega.{arith}
use lib.Dec.{eqb-suc-zero}
use lib.ListN.{length, drop}
use Rattle.base_laws.proofs.Logic.{and_intro}
use Rattle.base_refusal.specs.declared.Refusal.{Refusal}
use Rattle.base_refusal.specs.Reply.{Reply}
use Rattle.sheet_digits.specs.declared.Sums.{Sums}
use Rattle.sheet_lines.specs.declared.Header.{Header}
use Rattle.sheet_lines.specs.declared.Frame.{Frame}
use Rattle.sheet_lines.specs.Format.{Format, Formats}
use Rattle.sheet_lines.specs.Lines.{cards_of, format_in, format_for, start_of, header_digits, header_line, header_in, header_verdict, frame_digits, frame_line, frame_in, frame_verdict, no_frame}
use Rattle.sheet_lines.proofs.Passed.{header_limits, header_passed}
use Rattle.sheet_line_round.proofs.Round.{told_again, header_again, frame_again, entries_all_lem, change_fits, session_fits, state_is}
use Rattle.sheet_pages.specs.Pages.{Page, frames_bytes, bytes_in, page_bytes, pages_bytes, Frames, with_frame, read_frames, frames_of, Sheets, with_sheet, read_sheet, ended, more_sheets, read_sheets}
use Rattle.sheet_pages.specs.Allowed.{frames_allowed, Formed, Allowed, AllAllowed, last_of, Fewer, next_verdict, short_bytes}
use Rattle.sheet_pages.specs.Due.{HeaderDue, FrameDue, first_cards, Stops, at_header, at_frame, at_end}
use Rattle.sheet_pages.proofs.Read.{page_read}
use Rattle.sheet_pages.proofs.Round.{frames_again}
use Rattle.sheet_pages.proofs.Whole.{cards_agree}
use Rattle.sheet_pages.proofs.Due.{agrees_itself, allowed_beside, fewer_beside}

-- ---- within a sheet

-- frames read up to a fault
record Frames-stopped (f : Format) (start : Sums) (card n k state : ℕ) (last : Frame) (input : List ℕ) (r : Refusal) (fs : Frames) : Type 0 where
  allowed : frames_allowed f card n state last fs.frames ≡ true
  formed : Formed n fs.frames
  count : length fs.frames < k
  bytes : frames_bytes f start n state fs.frames ++ fs.rest ≡ input
  next : frame_verdict f start card n (state + length fs.frames) (last_of last fs.frames) fs.rest ≡ Err r

frames_stopped :
    (f : Format) (start : Sums) (card n k state : ℕ) (last : Frame) (input : List ℕ) (r : Refusal) →
    (read_frames f start card n k state last input).verdict ≡ Err r →
    Frames-stopped f start card n k state last input r (read_frames f start card n k state last input)
frames_stopped f start card n zero state last input r e = let z : ◌≡◌ {A = ℕ} 0 1 = cc in absurd (omega arith)
frames_stopped f start card n (suc k) state last input r e =
    by (frame_verdict f start card n state last input) refl e (frames_stopped f start card n k (state + 1) (frame_in f n input) (drop (frame_digits f n + 5) input) r)
  where
    fr : Frame
    fr = frame_in f n input

    more : Frames
    more = read_frames f start card n k (state + 1) (frame_in f n input) (drop (frame_digits f n + 5) input)

    by : (v : Reply) → frame_verdict f start card n state last input ≡ v → (with_frame v fr input more).verdict ≡ Err r → (more.verdict ≡ Err r → Frames-stopped f start card n k (state + 1) fr (drop (frame_digits f n + 5) input) r more) → Frames-stopped f start card n (suc k) state last input r (with_frame v fr input more)
    by (Err x) q w later = record { allowed = refl; formed = tt; count = omega arith; bytes = refl; next = rw (add-zero state) (q ∙ w) }
    by (Ok _) q w later =
        let g = later w in
        let c : state + suc (length more.frames) ≡ state + 1 + length more.frames = omega arith in
        record {
          allowed = and_intro (state_is f start card n state last input q) g.allowed;
          formed = (entries_all_lem f n input, change_fits f start card n state last input q, g.formed);
          count = omega (arith, g.count);
          bytes = append_assoc (frame_line f start n state fr) (frames_bytes f start n (state + 1) more.frames) more.rest ∙ ap (λ (x : List ℕ). frame_line f start n state fr ++ x) g.bytes ∙ frame_again f start card n state last input q;
          next = rw c g.next;
        }

-- a sheet read up to a fault, or read whole with the fault behind it
data Sheet-stopped (F : Formats) (due first : ℕ) (next : ℕ → List ℕ → Sheets) (input : List ℕ) (r : Refusal) : Type 0 where
  in_header : header_verdict (format_in F input) due first input ≡ Err r → Sheet-stopped F due first next input r
  in_frames : (h : Header) (frs : List Frame) (rest : List ℕ) → Fewer (format_for F h) due first h frs → short_bytes (format_for F h) h frs rest ≡ input → next_verdict (format_for F h) h frs rest ≡ Err r → Sheet-stopped F due first next input r
  behind : (p : Page) (rest : List ℕ) → Allowed (format_for F p.header) due first p → page_bytes F p ++ rest ≡ input → (next (cards_of (format_for F p.header) p.header) rest).verdict ≡ Err r → Sheet-stopped F due first next input r

sheet_stopped : (F : Formats) (due first : ℕ) (next : ℕ → List ℕ → Sheets) (input : List ℕ) (r : Refusal) → (read_sheet F due first next input).verdict ≡ Err r → Sheet-stopped F due first next input r
sheet_stopped F due first next input r e = by (header_verdict f due first input) fs.verdict refl refl e
  where
    f : Format
    f = format_in F input

    h : Header
    h = header_in (format_in F input) input

    fs : Frames
    fs = frames_of (format_in F input) (header_in (format_in F input) input) input

    told : format_in F input ≡ format_for F (header_in (format_in F input) input)
    told = told_again F (format_in F input) input refl

    p : Page
    p = record { header = h; frames = fs.frames }

    by : (v w : Reply) → header_verdict f due first input ≡ v → fs.verdict ≡ w → (with_sheet v w h fs input (next (cards_of f h) fs.rest)).verdict ≡ Err r → Sheet-stopped F due first next input r
    by (Err x) w q u z = in_header (q ∙ z)
    by (Ok _) (Err x) q u z =
        let g = frames_stopped f (start_of f h) h.card (cards_of f h) h.count (h.base + 1) no_frame (drop (header_digits f + 5) input) r (u ∙ z) in
        let few : Fewer f due first h fs.frames = record { header = (header_passed f due first input q).allowed_is; session = session_fits f due first input q; count = g.count; formed = g.formed; frames = g.allowed } in
        let bytes : short_bytes f h fs.frames fs.rest ≡ input = ap (λ (x : List ℕ). header_line f h ++ x) g.bytes ∙ header_again f due first input q in
        in_frames h fs.frames fs.rest (subst (λ (x : Format). Fewer x due first h fs.frames) told few) (subst (λ (x : Format). short_bytes x h fs.frames fs.rest ≡ input) told bytes) (subst (λ (x : Format). next_verdict x h fs.frames fs.rest ≡ Err r) told g.next)
    by (Ok _) (Ok _) q u z =
        let body = frames_bytes f (start_of f h) (cards_of f h) (h.base + 1) fs.frames in
        let bytes : bytes_in f p ++ fs.rest ≡ input =
        append_assoc (header_line f h) body fs.rest
        ∙ ap (λ (x : List ℕ). header_line f h ++ x) (frames_again f (start_of f h) h.card (cards_of f h) h.count (h.base + 1) no_frame (drop (header_digits f + 5) input) u)
        ∙ header_again f due first input q
        in
        behind p fs.rest (subst (λ (x : Format). Allowed x due first p) told (page_read f due first input q u)) (subst (λ (x : Format). bytes_in x p ++ fs.rest ≡ input) told bytes) (subst (λ (x : Format). (next (cards_of x h) fs.rest).verdict ≡ Err r) told z)

-- ---- behind the first sheet

data More-stopped (F : Formats) (k due first : ℕ) (input : List ℕ) (r : Refusal) : Type 0 where
  more_header : (ps : List Page) (rest : List ℕ) → AllAllowed F due first ps → length ps < k → pages_bytes F ps ++ rest ≡ input → header_verdict (format_in F rest) (due + length ps) first rest ≡ Err r → More-stopped F k due first input r
  more_frame : (ps : List Page) (h : Header) (frs : List Frame) (rest : List ℕ) → AllAllowed F due first ps → length ps < k → Fewer (format_for F h) (due + length ps) first h frs → pages_bytes F ps ++ short_bytes (format_for F h) h frs rest ≡ input → next_verdict (format_for F h) h frs rest ≡ Err r → More-stopped F k due first input r
  more_end : (ps : List Page) (rest : List ℕ) → AllAllowed F due first ps → length ps ≡ k → pages_bytes F ps ++ rest ≡ input → (ended rest).verdict ≡ Err r → More-stopped F k due first input r

more_stopped : (F : Formats) (k due first : ℕ) (input : List ℕ) (r : Refusal) → (more_sheets F k due first input).verdict ≡ Err r → More-stopped F k due first input r
more_stopped F zero due first input r e = more_end [] input tt refl refl e
more_stopped F (suc k) due first input r e = on (sheet_stopped F due first (λ cards rest. more_sheets F k (due + 1) first rest) input r e) (λ rest. more_stopped F k (due + 1) first rest r)
  where
    none : due ≡ due + 0
    none = sym (add-zero due)

    one_more_lem : (ps : List Page) → due + 1 + length ps ≡ due + suc (length ps)
    one_more_lem ps = omega arith

    joined : (p : Page) (ps : List Page) (bs rest : List ℕ) → page_bytes F p ++ rest ≡ input → pages_bytes F ps ++ bs ≡ rest → pages_bytes F (p ∷ ps) ++ bs ≡ input
    joined p ps bs rest b c = append_assoc (page_bytes F p) (pages_bytes F ps) bs ∙ ap (λ (x : List ℕ). page_bytes F p ++ x) c ∙ b

    push : (p : Page) (rest : List ℕ) → Allowed (format_for F p.header) due first p → page_bytes F p ++ rest ≡ input → More-stopped F k (due + 1) first rest r → More-stopped F (suc k) due first input r
    push p rest a b (more_header ps bs c l d v) =
        more_header (p ∷ ps) bs (a, c) (omega arith) (joined p ps bs rest b d) (subst (λ (x : ℕ). header_verdict (format_in F bs) x first bs ≡ Err r) (one_more_lem ps) v)
    push p rest a b (more_frame ps h frs bs c l x d v) =
        more_frame (p ∷ ps) h frs bs (a, c) (omega arith) (subst (λ (y : ℕ). Fewer (format_for F h) y first h frs) (one_more_lem ps) x) (joined p ps (short_bytes (format_for F h) h frs bs) rest b d) v
    push p rest a b (more_end ps bs c l d v) = more_end (p ∷ ps) bs (a, c) (ap suc l) (joined p ps bs rest b d) v

    on : Sheet-stopped F due first (λ cards rest. more_sheets F k (due + 1) first rest) input r → ((rest : List ℕ) → (more_sheets F k (due + 1) first rest).verdict ≡ Err r → More-stopped F k (due + 1) first rest r) → More-stopped F (suc k) due first input r
    on (in_header v) later = more_header [] input tt (omega arith) refl (subst (λ (x : ℕ). header_verdict (format_in F input) x first input ≡ Err r) none v)
    on (in_frames h frs rest x b v) later = more_frame [] h frs rest tt (omega arith) (subst (λ (y : ℕ). Fewer (format_for F h) y first h frs) none x) b v
    on (behind p rest a b v) later = push p rest a b (later rest v)

-- ---- of the whole read-out

module _ (F : Formats) (n : ℕ) (ps : List Page) (h : Header) (frs : List Frame) (rest : List ℕ) (a : AllAllowed F 0 n ps) (x : Fewer (format_for F h) (length ps) n h frs) (q : cards_of (format_for F h) h ≡ n) where
  here : HeaderDue F n (length ps) (pages_bytes F ps)
  here =
      let l = header_limits (format_for F h) (length ps) n h x.header in
      record { sheets = ps; bytes = refl; as_many = refl; more = omega (arith, l.card, l.below); allowed = a }

  abbrev frame_here : FrameDue F n (length ps) (pages_bytes F ps ++ short_bytes (format_for F h) h frs [])
  frame_here = record { before = pages_bytes F ps; behind = here; header = h; frames = frs; bytes = refl; cards = q; fewer = x }

  frame_bytes : (pages_bytes F ps ++ short_bytes (format_for F h) h frs []) ++ rest ≡ pages_bytes F ps ++ short_bytes (format_for F h) h frs rest
  frame_bytes = simp append_assoc

pub stops : (F : Formats) (input : List ℕ) (r : Refusal) → (read_sheets F true 0 input).verdict ≡ Err r → Stops F input r
unfolding read_sheets
stops F input r e = on (sheet_stopped F 0 0 (λ cards rest. more_sheets F (cond true (cards - 1) 0) 1 cards rest) input r e)
  where
    push : (p : Page) (n : ℕ) (rest : List ℕ) → n ≡ cards_of (format_for F p.header) p.header → Allowed (format_for F p.header) 0 n p → 0 < n → page_bytes F p ++ rest ≡ input → More-stopped F (n - 1) 1 n rest r → Stops F input r
    push p n rest m a some b (more_header ps bs c l d v) =
        at_header n (suc (length ps)) (pages_bytes F (p ∷ ps)) bs (record { sheets = p ∷ ps; bytes = refl; as_many = refl; more = omega arith; allowed = (a, c) })
        (append_assoc (page_bytes F p) (pages_bytes F ps) bs ∙ ap (λ (x : List ℕ). page_bytes F p ++ x) d ∙ b) (known (length ps) v)
      where
        known : (k : ℕ) → header_verdict (format_in F bs) (1 + k) n bs ≡ Err r → header_verdict (format_in F bs) (suc k) (first_cards n (suc k)) bs ≡ Err r
        known k v =
            let one : 1 + k ≡ suc k = omega arith in
            rw (eqb-suc-zero k, ← one) v
    push p n rest m a some b (more_frame ps h frs bs c l x d v) =
        let one : 1 + length ps ≡ suc (length ps) = omega arith in
        let y : Fewer (format_for F h) (suc (length ps)) n h frs = subst (λ (k : ℕ). Fewer (format_for F h) k n h frs) one x in
        let q : cards_of (format_for F h) h ≡ n = cards_agree n (cards_of (format_for F h) h) (λ (z : n ≡ 0). absurd (omega arith)) (header_limits (format_for F h) (suc (length ps)) n h y.header).agrees in
        at_frame n (suc (length ps)) (pages_bytes F (p ∷ ps) ++ short_bytes (format_for F h) h frs []) bs (frame_here F n (p ∷ ps) h frs bs (a, c) y q)
        (frame_bytes F n (p ∷ ps) h frs bs (a, c) y q ∙ append_assoc (page_bytes F p) (pages_bytes F ps) (short_bytes (format_for F h) h frs bs) ∙ ap (λ (z : List ℕ). page_bytes F p ++ z) d ∙ b) v
    push p n rest m a some b (more_end ps bs c l d v) =
        at_end n (p ∷ ps) bs (omega arith) (a, c) (append_assoc (page_bytes F p) (pages_bytes F ps) bs ∙ ap (λ (x : List ℕ). page_bytes F p ++ x) d ∙ b) v

    on : Sheet-stopped F 0 0 (λ cards rest. more_sheets F (cond true (cards - 1) 0) 1 cards rest) input r → Stops F input r
    on (in_header v) = at_header 1 0 [] input (record { sheets = []; bytes = refl; as_many = refl; more = omega arith; allowed = tt }) refl v
    on (in_frames h frs rest x b v) =
        let n = cards_of (format_for F h) h in
        let y : Fewer (format_for F h) 0 n h frs = fewer_beside (format_for F h) 0 0 n h frs (agrees_itself (format_for F h) h) x in
        at_frame n 0 (short_bytes (format_for F h) h frs []) rest (frame_here F n [] h frs rest tt y refl) (frame_bytes F n [] h frs rest tt y refl ∙ b) v
    on (behind p rest a b v) =
        let f = format_for F p.header in
        let n = cards_of f p.header in
        let l = header_limits f 0 0 p.header a.header in
        push p n rest refl (allowed_beside f 0 0 n p (agrees_itself f p.header) a) (omega (arith, l.below)) b
        (more_stopped F (n - 1) 1 n rest r v)
