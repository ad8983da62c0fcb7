-- Document 01's sheets and read-outs as lists of frames: their bytes, and what a reader answers to any bytes.
use Rattle.std.specs.Prelude.{ℕ, zero, suc, ◌+◌, ◌-◌, Bool, cond, List, [], ◌∷◌, ◌++◌, eqb, length, drop, Ok, Err}
use Rattle.base_refusal.specs.declared.Refusal.TheVariants.{EndOrMore}
use Rattle.sheet_digits.specs.declared.Sums.{Sums}
use Rattle.base_refusal.specs.Reply.{Reply}
use Rattle.sheet_lines.specs.declared.Header.{Header}
use Rattle.sheet_lines.specs.declared.Frame.{Frame}
use Rattle.sheet_lines.specs.Format.{Format, Formats}
use Rattle.sheet_lines.specs.Lines.{cards_of, format_in, format_for, start_of, header_digits, header_line, header_in, header_verdict, frame_digits, frame_line, frame_in, frame_verdict, no_frame}

-- a sheet: its header, and its frames from base + 1 on
pub record Page : Type 0 where
  pub header : Header
  pub frames : List Frame

-- ---- the bytes

-- frames of n entries from a state on
abbrev pub frames_bytes : Format → Sums → ℕ → ℕ → List Frame → List ℕ
frames_bytes f start n state [] = []
frames_bytes f start n state (fr ∷ frs) = frame_line f start n state fr ++ frames_bytes f start n (state + 1) frs

-- a card's sheet
abbrev pub bytes_in : Format → Page → List ℕ
bytes_in f p = header_line f p.header ++ frames_bytes f (start_of f p.header) (cards_of f p.header) (p.header.base + 1) p.frames

abbrev pub page_bytes : Formats → Page → List ℕ
page_bytes F p = bytes_in (format_for F p.header) p

-- a read-out: "the sheets of all cards in card order, joined"
abbrev pub pages_bytes : Formats → List Page → List ℕ
pages_bytes F [] = []
pages_bytes F (p ∷ ps) = page_bytes F p ++ pages_bytes F ps

-- ---- reading: "the reading stops at the first line at fault"

-- frames read: those before the first line at fault, the verdict, what is left of the input
pub record Frames : Type 0 where
  pub frames : List Frame
  pub verdict : Reply
  pub rest : List ℕ

-- a frame line with its verdict, before the frames that follow where it is accepted
abbrev pub with_frame : Reply → Frame → List ℕ → Frames → Frames
with_frame (Ok _) fr input next = record { frames = fr ∷ next.frames; verdict = next.verdict; rest = next.rest }
with_frame (Err r) fr input next = record { frames = []; verdict = Err r; rest = input }

-- k frames of n entries of a card, from a state on; `last` is the frame before
abbrev pub read_frames : Format → Sums → ℕ → ℕ → ℕ → ℕ → Frame → List ℕ → Frames
read_frames f start card n zero state last input = record { frames = []; verdict = Ok tt; rest = input }
read_frames f start card n (suc k) state last input =
    with_frame (frame_verdict f start card n state last input) (frame_in f n input) input
    (read_frames f start card n k (state + 1) (frame_in f n input) (drop (frame_digits f n + 5) input))

-- the frames that a header declares, behind its line
abbrev pub frames_of : Format → Header → List ℕ → Frames
frames_of f h input = read_frames f (start_of f h) h.card (cards_of f h) h.count (h.base + 1) no_frame (drop (header_digits f + 5) input)

-- sheets read: those before the first line at fault, the last of them as far as it was read; the verdict; what is left of the input
pub record Sheets : Type 0 where
  pub pages : List Page
  pub verdict : Reply
  pub rest : List ℕ

-- a sheet with the verdicts of its header and of its frames, before the sheets that follow where both accept it
abbrev pub with_sheet : Reply → Reply → Header → Frames → List ℕ → Sheets → Sheets
with_sheet (Err r) v h fs input next = record { pages = []; verdict = Err r; rest = input }
with_sheet (Ok _) (Err r) h fs input next = record { pages = record { header = h; frames = fs.frames } ∷ []; verdict = Err r; rest = fs.rest }
with_sheet (Ok _) (Ok _) h fs input next =
    record { pages = record { header = h; frames = fs.frames } ∷ next.pages; verdict = next.verdict; rest = next.rest }

-- one sheet, where a card is due, and what follows it by its number of cards
abbrev pub sheet_in : Format → ℕ → ℕ → (ℕ → List ℕ → Sheets) → List ℕ → Sheets
sheet_in f due first next input =
    with_sheet (header_verdict f due first input) (frames_of f (header_in f input) input).verdict (header_in f input) (frames_of f (header_in f input) input) input
    (next (cards_of f (header_in f input)) (frames_of f (header_in f input) input).rest)

-- in the format that its header picks
abbrev pub read_sheet : Formats → ℕ → ℕ → (ℕ → List ℕ → Sheets) → List ℕ → Sheets
read_sheet F due first next input = sheet_in (format_in F input) due first next input

-- after the last sheet: 8 where the input goes on
abbrev pub ended : List ℕ → Sheets
ended input = record { pages = []; verdict = cond (eqb (length input) 0) (Ok tt) (Err EndOrMore); rest = input }

-- k further sheets of a read-out, in card order, each with the first sheet's number of cards
abbrev pub more_sheets : Formats → ℕ → ℕ → ℕ → List ℕ → Sheets
more_sheets F zero due first input = ended input
more_sheets F (suc k) due first input = read_sheet F due first (λ cards rest. more_sheets F k (due + 1) first rest) input

-- the first sheet, where a card is due, and then of a read-out (`all`) the sheets of the other cards
unfoldable pub read_sheets : Formats → Bool → ℕ → List ℕ → Sheets
read_sheets F all due input = read_sheet F due 0 (λ cards rest. more_sheets F (cond all (cards - 1) 0) (due + 1) cards rest) input
