-- What was read, as a read-out by value: for each card its session, base and count of frames; frames in a ring of 48 for each card, as a cabinet has them.
use Rattle.std.specs.Prelude.{ℕ, ◌+◌, ◌*◌, Bool, List, [], ◌∷◌, set, replicate, Ok, Err}
use Rattle.std.proofs.lemmas.List.Edits.{sets}
use Rattle.base_limits.specs.Ring.{ring_place}
use Rattle.base_limits.specs.Document.{most_cards, most_frames, most_entries}
use Rattle.base_refusal.specs.Reply.{Reply}
use Rattle.sheet_lines.specs.declared.Header.{Header}
use Rattle.sheet_lines.specs.declared.Frame.{Frame}
use Rattle.sheet_lines.specs.Format.{Formats, formats}
use Rattle.sheet_lines.specs.Lines.{padded}
use Rattle.sheet_pages.specs.declared.Readout.{Readout}
use Rattle.sheet_pages.specs.declared.Reading.{Reading}
use Rattle.sheet_pages.specs.Pages.{Page, Sheets, read_sheets}

-- the read-out of zeros
abbrev pub no_readout : Readout
no_readout =
    record {
      changes = replicate most_frames 0;
      entries = replicate most_entries 0;
      sessions = replicate most_cards 0;
      bases = replicate most_cards 0;
      counts = replicate most_cards 0;
      cards = 0;
    }

-- a header taken in
abbrev pub lay_header : Header → Readout → Readout
lay_header h r =
    record {
      changes = r.changes;
      entries = r.entries;
      sessions = set r.sessions h.card h.session;
      bases = set r.bases h.card h.base;
      counts = r.counts;
      cards = h.cards;
    }

-- a frame taken in, k of its card's frames before it
abbrev pub lay_frame : ℕ → ℕ → ℕ → Frame → Readout → Readout
lay_frame card state k fr r =
    record {
      changes = set r.changes (ring_place card state) fr.change;
      entries = sets r.entries (ring_place card state * most_cards) (padded fr.entries);
      sessions = r.sessions;
      bases = r.bases;
      counts = set r.counts card (k + 1);
      cards = r.cards;
    }

abbrev pub lay_frames : ℕ → ℕ → ℕ → List Frame → Readout → Readout
lay_frames card state k [] r = r
lay_frames card state k (fr ∷ frs) r = lay_frames card (state + 1) (k + 1) frs (lay_frame card state k fr r)

abbrev pub lay_page : Page → Readout → Readout
lay_page p r = lay_frames p.header.card (p.header.base + 1) 0 p.frames (lay_header p.header r)

abbrev pub lay_pages : List Page → Readout → Readout
lay_pages [] r = r
lay_pages (p ∷ ps) r = lay_pages ps (lay_page p r)

-- sheets read, taken in one after another
abbrev pub laid : Readout → Sheets → Reading
laid r w = record { readout = lay_pages w.pages r; verdict = w.verdict }

-- all that was read up to the first line at fault, with the verdict
unfoldable pub read_up_to : Formats → Bool → ℕ → List ℕ → Reading
read_up_to F all card input = laid no_readout (read_sheets F all card input)

-- the sheets answered with a verdict: none with a refusal
abbrev pub pages_for : Reply → List Page → List Page
pages_for (Ok _) ps = ps
pages_for (Err x) ps = []

abbrev pub answered : Reply → List Page → Reading
answered v ps = record { readout = lay_pages (pages_for v ps) no_readout; verdict = v }

-- what a reader of sheets answers: "nothing of the sheet is used" where a line is at fault
unfoldable pub reading_in : Formats → Bool → ℕ → List ℕ → Reading
reading_in F all card input = answered (read_sheets F all card input).verdict (read_sheets F all card input).pages

abbrev pub reading_of : Bool → ℕ → List ℕ → Reading
reading_of all card input = reading_in formats all card input
