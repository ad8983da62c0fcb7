-- The sheets that a ring of frames holds: a read-out by value is a representation of its pages.
use Rattle.std.specs.Prelude.{ℕ, suc, ◌+◌, ◌*◌, List, [], get_or}
use Rattle.base_limits.specs.Ring.{ring_place}
use Rattle.base_limits.specs.Document.{most_cards}
use Rattle.base_laws.specs.Below.{tabulate}
use Rattle.sheet_lines.specs.declared.Header.{Header}
use Rattle.sheet_lines.specs.declared.Frame.{Frame}
use Rattle.sheet_lines.specs.Format.{formats}
use Rattle.sheet_lines.specs.Lines.{cards_of, format_for}
use Rattle.sheet_pages.specs.declared.Readout.{Readout}
use Rattle.sheet_pages.specs.Pages.{Page}

-- the frame of state x of card c: its change, and an entry for each of n cards
abbrev pub ring_frame : (changes entries : List ℕ) → (n c x : ℕ) → Frame
ring_frame changes entries n c x = record { change = get_or changes (ring_place c x) 0; entries = tabulate n (λ j. get_or entries (ring_place c x * most_cards + j) 0) }

-- the sheet of a header: "Frames run from base + 1 to stored."
abbrev pub ring_page : (changes entries : List ℕ) → Header → Page
ring_page changes entries h =
    record { header = h; frames = tabulate h.count (λ k. ring_frame changes entries (cards_of (format_for formats h) h) h.card (suc (h.base + k))) }

-- the header and the sheet of card c, and the sheets of all cards
abbrev pub header_of : Readout → ℕ → Header
header_of r c = record { session = get_or r.sessions c 0; card = c; cards = r.cards; base = get_or r.bases c 0; count = get_or r.counts c 0 }

abbrev pub page_of : Readout → ℕ → Page
page_of r c = ring_page r.changes r.entries (header_of r c)

abbrev pub pages_of : Readout → List Page
pages_of r = tabulate r.cards (page_of r)

-- a sheet of zeros, with no frame; and the sheet of card c among some, which is that where there is none
abbrev pub no_page : Page
no_page = record { header = record { session = 0; card = 0; cards = 0; base = 0; count = 0 }; frames = [] }

abbrev pub page_at : List Page → ℕ → Page
page_at ps c = get_or ps c no_page
