-- The sheets of a whole read-out within the limits, by card: what refusals 7 and 9 let pass of "the sheets of all cards in card order".
use Rattle.std.specs.Prelude.{ℕ, ◌+◌, ◌^◌, ◌≤◌, ◌<◌, ◌≡◌, true, List, length}
use Rattle.sheet_lines.specs.Format.{Format, Formats}
use Rattle.sheet_lines.specs.Lines.{cards_of, format_for, no_frame}
use Rattle.sheet_pages.specs.Pages.{Page}
use Rattle.sheet_pages.specs.Allowed.{frames_allowed, Formed}
use Rattle.sheet_pages.specs.Ring.{page_at}

-- the sheet of card c of n cards
pub record SheetOf (f : Format) (n c : ℕ) (p : Page) : Type 0 where
  pub session_some : p.header.session ≡ 0 → ⊥
  pub session : p.header.session < 16 ^ 8
  pub card : p.header.card ≡ c
  pub cards : cards_of f p.header ≡ n
  pub count : p.header.count ≡ length p.frames
  pub short : length p.frames ≤ f.frames
  pub states : p.header.base + length p.frames ≤ f.states
  pub formed : Formed n p.frames
  pub frames : frames_allowed f c n (p.header.base + 1) no_frame p.frames ≡ true

-- the sheets of as many cards as their headers say
pub record Whole (F : Formats) (ps : List Page) : Type 0 where
  pub some : 1 ≤ length ps
  pub few : length ps ≤ (format_for F (page_at ps 0).header).cards
  pub sheet : (c : ℕ) → c < length ps → SheetOf (format_for F (page_at ps c).header) (length ps) c (page_at ps c)
