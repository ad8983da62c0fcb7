-- Frames out of a ring, written one after another, over variables. Assumes nothing.
use Rattle.std.specs.Prelude.{Result, Ok, Err}
use Rattle.base_refusal.specs.declared.Refusal.{Refusal}
use Prim.Native.Nat.{ℕ, zero, suc, ◌+◌, ◌*◌, ◌-◌, ◌≤◌, ◌<◌}
use mathlib.Core.Path.{◌≡◌, refl, sym, ◌∙◌, ap, ap₂}
use mathlib.Core.Bool.{true}
use mathlib.Core.List.{List, [], ◌∷◌, ◌++◌, map}
use native.Mathlib.Nat.{mul-le-mul, mul-le-mul_right, suc-mul, zero-mul}
use native.Mathlib.Omega.{arith}
use lib.ListN.{length, get_or, replicate, length-append}
use lib.Seq.{sets}
use borrow.Author.Tests.{le-leb, lt-leb, lt-ltb}
use Rattle.base_limits.specs.Ring.{ring_place}
use Rattle.base_laws.specs.Below.{tabulate}
use Rattle.base_laws.proofs.Logic.{cond_true}
use Rattle.base_laws.proofs.Seq.{sets_append}
use Rattle.base_laws.proofs.Fill.{length_tabulate, get_d_tabulate}
use Rattle.base_refusal.specs.declared.Refusal.TheVariants.{TooShort}
use Rattle.sheet_digits.specs.declared.Sums.{Sums}
use Rattle.sheet_digits.specs.Digits.{digits, written}
use Rattle.sheet_digits.specs.Line.{sheet_line}
use Rattle.sheet_lines.specs.declared.Header.{Header}
use Rattle.sheet_lines.specs.declared.Frame.{Frame}
use Rattle.sheet_lines.specs.Format.{Format, formats, none_of, shown_by}
use Rattle.sheet_lines.specs.Lines.{cards_of, format_for, start_of, header_digits, frame_digits, frame_line, header_line, header_allowed, no_frame}
use Rattle.sheet_lines.proofs.Passed.{header_limits}
use Rattle.sheet_lines.proofs.Lengths.{frame_line_length, header_line_length}
use Rattle.sheet_pages.specs.Pages.{frames_bytes, bytes_in, page_bytes}
use Rattle.sheet_pages.specs.Ring.{ring_frame, ring_page}
use Rattle.sheet_page_writer.specs.Write.{held_frame, ring_rows, Wrote, wrote_bytes}

-- ---- a run of frames

-- k frames of g from frame i on
abbrev pub run : (ℕ → Frame) → ℕ → ℕ → List Frame
run g i zero = []
run g i (suc k) = g i ∷ run g (i + 1) k

run_more : (g : ℕ → Frame) (i k : ℕ) → run g i (suc k) ≡ run g i k ++ (g (i + k) ∷ [])
run_more g i zero = let z : i + 0 ≡ i = omega arith in rw z
run_more g i (suc k) =
    let z : i + suc k ≡ i + 1 + k = omega arith in
    rw z (ap (λ (l : List Frame). g i ∷ l) (run_more g (i + 1) k))

pub run_all : (g : ℕ → Frame) (n : ℕ) → run g 0 n ≡ tabulate n g
run_all g zero = refl
run_all g (suc n) = let z : 0 + n ≡ n = omega arith in run_more g 0 n ∙ ap₂ (λ (l : List Frame) (j : ℕ). l ++ (g j ∷ [])) (run_all g n) z

-- ---- the frames written one after another

module _ (f : Format) (start : Sums) (n base count : ℕ) (g : ℕ → Frame) where
  -- what is left to write at frame k
  abbrev pub writing : ℕ → List ℕ
  writing k = frames_bytes f start n (base + 1 + k) (run g k (count - k))

  pub writing_again :
      (b : List ℕ) (at k : ℕ) {b₁ : List ℕ} {next : Frame} {first : Sums} →
      k < count →
      n ≤ 16 →
      length (g k).entries ≡ 16 →
      next ≡ g k →
      first ≡ start →
      b₁ ≡ sets b at (frame_line f first n (base + 1 + k) next) →
      sets b₁ (at + (frame_digits f n + 5)) (writing (k + 1)) ≡ sets b at (writing k)
  writing_again b at k {b₁} {next} {first} l few w q st e =
      let m : count - k ≡ suc (count - (k + 1)) = omega arith in
      let c : base + 1 + (k + 1) ≡ base + 1 + k + 1 = omega arith in
      let line = frame_line f start n (base + 1 + k) (g k) in
      let z : at + (frame_digits f n + 5) ≡ at + length line = ap (λ (x : ℕ). at + x) (sym (frame_line_length f start n (base + 1 + k) (g k) (omega arith))) in
      rw (e, q, st, z, m, c) (sym (sets_append line b at (frames_bytes f start n (base + 1 + k + 1) (run g (k + 1) (count - (k + 1))))))

  pub writing_none : (k : ℕ) → count ≤ k → writing k ≡ []
  writing_none k l = let m : count - k ≡ 0 = omega arith in rw m

  -- the frames behind a header
  pub writing_start : (h : Header) (b b₁ : List ℕ) → b₁ ≡ sets b 0 (header_line f h) → sets b₁ (header_digits f + 5) (writing 0) ≡ sets b 0 (header_line f h ++ frames_bytes f start n (base + 1) (tabulate count g))
  writing_start h b b₁ e =
      let m : count - 0 ≡ count = omega arith in
      let c : base + 1 + 0 ≡ base + 1 = omega arith in
      let l : header_digits f + 5 ≡ 0 + length (header_line f h) = rw (header_line_length f h) (omega arith) in
      let bytes = frames_bytes f start n (base + 1) (tabulate count g) in
      rw (e, m, c, run_all g count) (ap (λ (x : ℕ). sets (sets b 0 (header_line f h)) x bytes) l ∙ sym (sets_append (header_line f h) b 0 bytes))

  -- the length of the whole sheet
  run_length : n ≤ 16 → ((k : ℕ) → length (g k).entries ≡ 16) → (i k state : ℕ) → length (frames_bytes f start n state (run g i k)) ≡ k * (frame_digits f n + 5)
  run_length few l i zero state = sym (zero-mul (frame_digits f n + 5))
  run_length few l i (suc k) state =
      length-append (frame_line f start n state (g i)) (frames_bytes f start n (state + 1) (run g (i + 1) k))
      ∙ rw (frame_line_length f start n state (g i) (omega (arith, l i)), run_length few l (i + 1) k (state + 1), suc-mul k (frame_digits f n + 5)) (omega arith)

  frames_length : n ≤ 16 → ((k : ℕ) → length (g k).entries ≡ 16) → length (frames_bytes f start n (base + 1) (tabulate count g)) ≡ count * (frame_digits f n + 5)
  frames_length few l = rw (← run_all g count) (run_length few l 0 count (base + 1))

-- the ring's frames, each with 16 entries
abbrev pub rows_of : (changes entries : List ℕ) → (card base : ℕ) → ℕ → Frame
rows_of changes entries card base k = ring_frame changes entries 16 card (suc (base + k))

pub next_row : (changes entries : List ℕ) (card base k : ℕ) {next : Frame} → card < 16 → next ≡ held_frame changes entries card (base + 1 + k) → next ≡ rows_of changes entries card base k
next_row changes entries card base k h e =
    let z : base + 1 + k ≡ suc (base + k) = omega arith in
    e ∙ cond_true (ring_frame changes entries 16 card (base + 1 + k)) no_frame (lt-ltb card 16 h) ∙ ap (ring_frame changes entries 16 card) z

pub row_length : (changes entries : List ℕ) (card base k : ℕ) → length (rows_of changes entries card base k).entries ≡ 16
row_length changes entries card base k = length_tabulate 16 (λ j. get_or entries (ring_place card (suc (base + k)) * 16 + j) 0)

pub sheet_length : (f : Format) (changes entries : List ℕ) (h : Header) {n : ℕ} → n ≡ cards_of f h → n ≤ 16 → length (bytes_in f (ring_rows changes entries h)) ≡ header_digits f + 5 + h.count * (frame_digits f n + 5)
sheet_length f changes entries h {n} e few =
    let g = rows_of changes entries h.card h.base in
    length-append (header_line f h) (frames_bytes f (start_of f h) (cards_of f h) (h.base + 1) (tabulate h.count g))
    ∙ rw (header_line_length f h, ← e, frames_length f (start_of f h) n h.base h.count g few (row_length changes entries h.card h.base))

-- k lines and one more fit where all count lines fit
pub lines_fit : (k count line : ℕ) → k < count → k * line + line ≤ count * line
lines_fit k count line h = rw (← suc-mul k line) (mul-le-mul_right line h)

pub next_line_lem : (h k line at : ℕ) → at ≡ h + k * line → at + line ≡ h + (k + 1) * line
next_line_lem h k line at e = omega arith

pub line_bound : (w n : ℕ) → w ≤ 8 → n ≤ 16 → w + 8 + n * w + 5 ≤ 149
line_bound w n h k = omega (arith, mul-le-mul k h)

pub lines_bound : (count line : ℕ) → count ≤ 48 → line ≤ 149 → count * line ≤ 7152
lines_bound count line h k = mul-le-mul h k

-- ---- frames that agree as far as n cards are looked at

pub record Alike (n : ℕ) (x y : Frame) : Type 0 where
  pub change : x.change ≡ y.change
  pub left : n ≤ length x.entries
  pub right : n ≤ length y.entries
  pub entries : (j : ℕ) → j < n → get_or x.entries j 0 ≡ get_or y.entries j 0

entries_written : (n w : ℕ) (show : ℕ → ℕ) (es fs : List ℕ) → n ≤ length es → n ≤ length fs → ((j : ℕ) → j < n → get_or es j 0 ≡ get_or fs j 0) → written (replicate n w) (map show es) ≡ written (replicate n w) (map show fs)
entries_written zero w show es fs a b e = refl
entries_written (suc n) w show [] fs a b e = absurd (omega arith)
entries_written (suc n) w show (x ∷ es) [] a b e = absurd (omega arith)
entries_written (suc n) w show (x ∷ es) (y ∷ fs) a b e =
    ap₂ (λ (d : ℕ) (l : List ℕ). digits w (show d) ++ l) (e 0 first) (entries_written n w show es fs (omega arith) (omega arith) (λ j l. e (suc j) (later l)))
  where
    first : 0 < suc n
    first = omega arith

    later : {j : ℕ} → j < n → suc j < suc n
    later l = omega arith

line_alike : (f : Format) (start : Sums) (n state : ℕ) (x y : Frame) → Alike n x y → frame_line f start n state x ≡ frame_line f start n state y
unfolding frame_line
line_alike f start n state x y a =
    ap₂ (λ (k : ℕ) (l : List ℕ). sheet_line start (digits f.width state ++ (digits 8 k ++ l))) a.change (entries_written n f.width (shown_by f.short (none_of f)) x.entries y.entries a.left a.right a.entries)

module _ (f : Format) (n : ℕ) (g g' : ℕ → Frame) (a : (k : ℕ) → Alike n (g k) (g' k)) where
  run_written : (start : Sums) (state i k : ℕ) → frames_bytes f start n state (run g i k) ≡ frames_bytes f start n state (run g' i k)
  run_written start state i zero = refl
  run_written start state i (suc k) = ap₂ (λ (x y : List ℕ). x ++ y) (line_alike f start n state (g i) (g' i) (a i)) (run_written start (state + 1) (i + 1) k)

  all_written : (start : Sums) (state k : ℕ) → frames_bytes f start n state (tabulate k g) ≡ frames_bytes f start n state (tabulate k g')
  all_written start state k = rw (← run_all g k, ← run_all g' k) (run_written start state 0 k)

-- ---- the ring's frames with 16 entries, and with an entry for each card

module _ (changes entries : List ℕ) (h : Header) (few : cards_of (format_for formats h) h ≤ 16) where
  abbrev fmt : Format
  fmt = format_for formats h

  abbrev n : ℕ
  n = cards_of fmt h

  pub ring_alike : (c x : ℕ) → Alike n (ring_frame changes entries 16 c x) (ring_frame changes entries n c x)
  ring_alike c x =
      let entry : ℕ → ℕ = λ j. get_or entries (ring_place c x * 16 + j) 0 in
      record {
        change = refl;
        left = rw (length_tabulate 16 entry) few;
        right = rw (length_tabulate n entry) (omega arith);
        entries = λ j l. get_d_tabulate 16 entry 0 j (omega arith) ∙ sym (get_d_tabulate n entry 0 j l);
      }

  pub rows_bytes : page_bytes formats (ring_rows changes entries h) ≡ page_bytes formats (ring_page changes entries h)
  rows_bytes =
      ap (λ (l : List ℕ). header_line fmt h ++ l)
      (all_written fmt n (rows_of changes entries h.card h.base) (λ k. ring_frame changes entries n h.card (suc (h.base + k)))
      (λ k. ring_alike h.card (suc (h.base + k))) (start_of fmt h) (h.base + 1) h.count)

-- ---- the writer's answer

pub wrote_short : (bytes b : List ℕ) (n : ℕ) → length bytes ≡ n → length b < n → wrote_bytes (Ok tt) bytes b ≡ record { answer = Err TooShort; buffer = b }
wrote_short bytes b n e h = rw (lt-leb (length bytes) (length b) (omega arith))

pub wrote_whole : (bytes b : List ℕ) (n : ℕ) → length bytes ≡ n → n ≤ length b → wrote_bytes (Ok tt) bytes b ≡ record { answer = Ok n; buffer = sets b 0 bytes }
wrote_whole bytes b n e h = rw (le-leb (length bytes) (length b) (omega arith), e)

-- an answer and the buffer behind it, told by a record
abbrev pub Told : Wrote → Result ℕ Refusal → List ℕ → Type 0
Told w answer after = (answer ≡ w.answer) × (after ≡ w.buffer)

pub told_by : (w v : Wrote) {answer : (Result ℕ Refusal)} {after : List ℕ} → v ≡ w → Told w answer after → Told v answer after
told_by w v e t = (t.0 ∙ ap (λ (x : Wrote). x.answer) (sym e), t.1 ∙ ap (λ (x : Wrote). x.buffer) (sym e))

pub told_short : (bytes b : List ℕ) (n : ℕ) → length bytes ≡ n → length b < n → Told (wrote_bytes (Ok tt) bytes b) (Err TooShort) b
told_short bytes b n e h = told_by (record { answer = Err TooShort; buffer = b }) (wrote_bytes (Ok tt) bytes b) (wrote_short bytes b n e h) (refl, refl)

pub told_whole : (bytes b : List ℕ) (n : ℕ) {after : List ℕ} → length bytes ≡ n → n ≤ length b → after ≡ sets b 0 bytes → Told (wrote_bytes (Ok tt) bytes b) (Ok n) after
told_whole bytes b n e h a = told_by (record { answer = Ok n; buffer = sets b 0 bytes }) (wrote_bytes (Ok tt) bytes b) (wrote_whole bytes b n e h) (refl, a)

-- the sheet with 16 entries in each frame, in the format that its header picks
pub told_page : (changes entries : List ℕ) (h : Header) (b : List ℕ) (f : Format) {answer : (Result ℕ Refusal)} {after : List ℕ} → f ≡ format_for formats h → header_allowed (format_for formats h) h.card 0 h ≡ true
    → Told (wrote_bytes (Ok tt) (bytes_in f (ring_rows changes entries h)) b) answer after → Told (wrote_bytes (Ok tt) (page_bytes formats (ring_page changes entries h)) b) answer after
told_page changes entries h b f e p t =
    let l = header_limits (format_for formats h) h.card 0 h p in
    told_by (wrote_bytes (Ok tt) (bytes_in f (ring_rows changes entries h)) b) (wrote_bytes (Ok tt) (page_bytes formats (ring_page changes entries h)) b)
    (ap (λ (bytes : List ℕ). wrote_bytes (Ok tt) bytes b) (sym (ap (λ (g : Format). bytes_in g (ring_rows changes entries h)) e ∙ rows_bytes changes entries h l.cards))) t
