-- Sheets and read-outs within the limits: those that refusals 7 and 9 let pass.
use Rattle.std.specs.Prelude.{ℕ, ◌+◌, ◌^◌, ◌<◌, ◌≡◌, Bool, true, ◌&&◌, List, [], ◌∷◌, ◌++◌, length}
use Rattle.base_refusal.specs.Reply.{Reply}
use Rattle.sheet_lines.specs.declared.Header.{Header}
use Rattle.sheet_lines.specs.declared.Frame.{Frame}
use Rattle.sheet_lines.specs.Format.{Format, Formats}
use Rattle.sheet_lines.specs.Lines.{cards_of, format_for, start_of, header_line, header_allowed, frame_allowed, frame_verdict, no_frame}
use Rattle.sheet_pages.specs.Pages.{Page, frames_bytes}

-- frames that refusal 9 lets pass, from a state on; `last` is the frame before
abbrev pub frames_allowed : Format → ℕ → ℕ → ℕ → Frame → List Frame → Bool
frames_allowed f card n state last [] = true
frames_allowed f card n state last (fr ∷ frs) = frame_allowed f card n state last state fr && frames_allowed f card n (state + 1) fr frs

-- each frame has an entry for each of n cards, and a change number of 8 digits
abbrev pub Formed : ℕ → List Frame → Type 0
Formed n [] = Unit {0}
Formed n (fr ∷ frs) = (length fr.entries ≡ n) × (fr.change < 16 ^ 8) × Formed n frs

-- a sheet within the limits, where a card is due; `first` is the first sheet's number of cards, and 0 where this is the first sheet
pub record Allowed (f : Format) (due first : ℕ) (p : Page) : Type 0 where
  pub header : header_allowed f due first p.header ≡ true
  pub session : p.header.session < 16 ^ 8
  pub count : p.header.count ≡ length p.frames
  pub formed : Formed (cards_of f p.header) p.frames
  pub frames : frames_allowed f p.header.card (cards_of f p.header) (p.header.base + 1) no_frame p.frames ≡ true

-- the sheets of a read-out from a card on
abbrev pub AllAllowed : Formats → ℕ → ℕ → List Page → Type 0
AllAllowed F due first [] = Unit {0}
AllAllowed F due first (p ∷ ps) = Allowed (format_for F p.header) due first p × AllAllowed F (due + 1) first ps

-- ---- "header count 3 over two frames"

-- the frame that is the last before a place
abbrev pub last_of : Frame → List Frame → Frame
last_of last [] = last
last_of last (fr ∷ frs) = last_of fr frs

-- a header over fewer frames than it declares, all within the limits
pub record Fewer (f : Format) (due first : ℕ) (h : Header) (frs : List Frame) : Type 0 where
  pub header : header_allowed f due first h ≡ true
  pub session : h.session < 16 ^ 8
  pub count : length frs < h.count
  pub formed : Formed (cards_of f h) frs
  pub frames : frames_allowed f h.card (cards_of f h) (h.base + 1) no_frame frs ≡ true

-- what is answered to the line that stands behind them, where the next frame is due
abbrev pub next_verdict : Format → Header → List Frame → List ℕ → Reply
next_verdict f h frs rest = frame_verdict f (start_of f h) h.card (cards_of f h) (h.base + 1 + length frs) (last_of no_frame frs) rest

-- their bytes
abbrev pub short_bytes : Format → Header → List Frame → List ℕ → List ℕ
short_bytes f h frs rest = header_line f h ++ (frames_bytes f (start_of f h) (cards_of f h) (h.base + 1) frs ++ rest)
