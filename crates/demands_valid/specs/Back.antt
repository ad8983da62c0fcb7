-- "Frames written as a sheet read back the same": what `sheet` writes of a card is read back, told that card, as that card's sheet. Statements alone: the proofs are in proofs/Back.antt.
use Rattle.std.specs.Prelude.{ℕ, ◌^◌, ◌<◌, ◌≡◌, true, List, [], ◌∷◌, take, get_or, Ok}
use Rattle.sheet_lines.specs.Format.{formats}
use Rattle.sheet_pages.specs.Pages.{page_bytes}
use Rattle.sheet_pages.specs.Walk.{no_readout, lay_pages}
use Rattle.sheet_pages.specs.Ring.{page_of}
use Rattle.sheet_reader.specs.Single.{sheet_read_of}
use Rattle.theory_protocol.specs.Valid.{valid}
use Rattle.theory_codec.specs.Sheets.{sheet_of}
use Rattle.cabinet_layout.specs.Shape.{limits16}
use Rattle.cabinet.specs.declared.Cabinet.{Cabinet}
use Rattle.cabinet.specs.View.{view}
use Rattle.cabinet.specs.Writing.{SheetCarried}

-- a cabinet as the code holds one: numbers of 32 bits
pub record Held (s : Cabinet) : Type 0 where
  pub session : s.core.head.session < 16 ^ 8
  pub changes : (i : ℕ) → get_or s.changes i 0 < 16 ^ 8

-- told card c, the reader accepts the bytes and answers a read-out that holds card c's sheet alone; and that sheet is the cabinet's: its header, and its frames from base + 1 to stored
pub record SheetReadsBack (s : Cabinet) (c : ℕ) (bytes : List ℕ) : Type 0 where
  pub accepted : sheet_read_of c bytes ≡ record { readout = lay_pages (sheet_of limits16 (view s) c ∷ []) no_readout; verdict = (Ok tt) }
  pub sheet : page_of (sheet_read_of c bytes).readout c ≡ sheet_of limits16 (view s) c

-- of every cabinet that 28 lets pass and each of its cards, in every phase
abbrev pub SheetsReadBack : Type 0
SheetsReadBack =
    (s : Cabinet) → Held s → valid limits16 (view s) ≡ true
    → (c : ℕ) → c < s.core.head.cards → SheetReadsBack s c (page_bytes formats (sheet_of limits16 (view s) c))

-- so of the bytes that the method `sheet` puts at the front of a lent buffer, whenever it answers their number
abbrev pub WrittenReadsBack : Type 0
WrittenReadsBack =
    (s : Cabinet) → Held s → (c : ℕ) (before after : List ℕ) (k : ℕ) (next : Cabinet) → SheetCarried s c before after (Ok k) next
    → SheetReadsBack s c (take k after)
