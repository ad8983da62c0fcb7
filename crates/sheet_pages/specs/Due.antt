-- Places of a read-out with no line before them at fault: those where a frame is due, and those where a header is.
use Rattle.std.specs.Prelude.{ℕ, ◌+◌, ◌<◌, ◌≡◌, cond, List, [], ◌++◌, eqb, length, get_or, Err}
use Rattle.base_refusal.specs.declared.Refusal.{Refusal}
use Rattle.sheet_lines.specs.declared.Header.{Header}
use Rattle.sheet_lines.specs.declared.Frame.{Frame}
use Rattle.sheet_lines.specs.Format.{Format, Formats}
use Rattle.sheet_lines.specs.Lines.{cards_of, format_in, format_for, start_of, header_verdict, frame_digits, frame_line, no_frame}
use Rattle.sheet_pages.specs.Pages.{Page, pages_bytes, ended}
use Rattle.sheet_pages.specs.Allowed.{AllAllowed, Fewer, next_verdict, short_bytes}

-- A header of card c of n cards is due behind these bytes: the sheets of the cards before it stand there whole.
pub record HeaderDue (F : Formats) (n c : ℕ) (front : List ℕ) : Type 0 where
  pub sheets : List Page
  pub bytes : front ≡ pages_bytes F sheets
  pub as_many : length sheets ≡ c
  pub more : c < n
  pub allowed : AllAllowed F 0 n sheets

-- A frame of card c of n cards is due behind these bytes: behind the sheets of the cards before it stands its header, over fewer frames than it declares.
pub record FrameDue (F : Formats) (n c : ℕ) (front : List ℕ) : Type 0 where
  pub before : List ℕ
  pub behind : HeaderDue F n c before
  pub header : Header
  pub frames : List Frame
  pub bytes : front ≡ before ++ short_bytes (format_for F header) header frames []
  pub cards : cards_of (format_for F header) header ≡ n
  pub fewer : Fewer (format_for F header) c n header frames

-- a frame line of card d in a read-out of n cards: it stands where a frame of that card is due, and is as long as one
pub record FrameOf (F : Formats) (n d : ℕ) (input line : List ℕ) : Type 0 where
  pub front : List ℕ
  pub behind : List ℕ
  pub bytes : input ≡ front ++ (line ++ behind)
  pub due : FrameDue F n d front
  pub long : length line ≡ frame_digits (format_for F due.header) n + 5

-- the line of a sheet's frame k, from 0 on
abbrev pub line_at : Format → Page → ℕ → List ℕ
line_at f p k = frame_line f (start_of f p.header) (cards_of f p.header) (p.header.base + 1 + k) (get_or p.frames k no_frame)

-- the first sheet's number of cards where the header of card c is due, and 0 where that is the first
abbrev pub first_cards : ℕ → ℕ → ℕ
first_cards n c = cond (eqb c 0) 0 n

-- Where the reading of a read-out stops: what is due there, and that what stands there is at fault. Behind the last sheet it is anything.
pub data Stops (F : Formats) (input : List ℕ) (r : Refusal) : Type 0 where
  at_header : (n c : ℕ) (front rest : List ℕ) → HeaderDue F n c front → front ++ rest ≡ input → header_verdict (format_in F rest) c (first_cards n c) rest ≡ Err r → Stops F input r
  at_frame : (n c : ℕ) (front rest : List ℕ) (d : FrameDue F n c front) → front ++ rest ≡ input → next_verdict (format_for F d.header) d.header d.frames rest ≡ Err r → Stops F input r
  at_end : (n : ℕ) (sheets : List Page) (rest : List ℕ) → length sheets ≡ n → AllAllowed F 0 n sheets → pages_bytes F sheets ++ rest ≡ input → (ended rest).verdict ≡ Err r → Stops F input r
