-- What is written of a card's sheet reads back the same, what is read is written again, and what the readers refuse. Statements alone: the proofs are in proofs/Sheets.antt and proofs/Refusals.antt.
use Rattle.std.specs.Prelude.{ℕ, ◌+◌, ◌%◌, ◌^◌, ◌≤◌, ◌<◌, ◌≡◌, true, false, List, [], ◌∷◌, ◌++◌, length, take, get_or, set, Ok, Err}
use Rattle.std.proofs.lemmas.List.Edits.{sets}
use Rattle.base_limits.specs.Document.{longest_input}
use Rattle.base_refusal.specs.declared.Refusal.{Refusal}
use Rattle.base_refusal.specs.declared.Refusal.TheVariants.{BadLine, BadCheck, EndOrMore}
use Rattle.sheet_lines.specs.declared.Header.{Header}
use Rattle.sheet_lines.specs.declared.Frame.{Frame}
use Rattle.sheet_lines.specs.Format.{Formats, format_from, format, formats}
use Rattle.sheet_lines.specs.Lines.{header_line}
use Rattle.sheet_pages.specs.declared.Readout.{Readout}
use Rattle.sheet_pages.specs.Pages.{read_sheets}
use Rattle.sheet_pages.specs.Allowed.{Fewer, next_verdict, short_bytes}
use Rattle.sheet_pages.specs.Due.{HeaderDue, FrameDue, FrameOf, line_at, Stops}
use Rattle.sheet_pages.specs.Walk.{no_readout, lay_pages}
use Rattle.sheet_pages.specs.Ring.{page_of, page_at}
use Rattle.sheet_readout.specs.Joint.{pages_read, readout_of}
use Rattle.sheet_reader.specs.Single.{sheet_read_of}
use Rattle.sheet_writer.specs.Single.{wrote}

-- a read-out as the code holds one: numbers of 32 bits
pub record Held (r : Readout) : Type 0 where
  pub sessions : (c : ℕ) → get_or r.sessions c 0 < 16 ^ 8
  pub changes : (i : ℕ) → get_or r.changes i 0 < 16 ^ 8

-- card c's sheet alone: every place that is not looked at, for it or for another card, made 0
abbrev pub alone : Readout → ℕ → Readout
alone r c = lay_pages (page_of r c ∷ []) no_readout

-- What the writer wrote of a card's sheet reads back, told that card, as a read-out that holds that sheet alone.
abbrev pub WrittenReadsBack : Type 0
WrittenReadsBack =
    (r : Readout) → Held r → (c : ℕ) (buffer : List ℕ) (n : ℕ) → (wrote (page_of r c) buffer).answer ≡ Ok n → sheet_read_of c (take n (wrote (page_of r c) buffer).buffer) ≡ record { readout = alone r c; verdict = Ok tt }

-- Its sheet of that card is the very sheet that was written, header and frames.
abbrev pub PageReadsBack : Type 0
PageReadsBack =
    (r : Readout) → Held r → (c : ℕ) (buffer : List ℕ) (n : ℕ) → (wrote (page_of r c) buffer).answer ≡ Ok n → page_of (sheet_read_of c (take n (wrote (page_of r c) buffer).buffer)).readout c ≡ page_of r c

-- The very same read-out, where it holds that sheet alone.
abbrev pub SameReadsBack : Type 0
SameReadsBack =
    (r : Readout) → Held r → (c : ℕ) → alone r c ≡ r → (buffer : List ℕ) (n : ℕ) → (wrote (page_of r c) buffer).answer ≡ Ok n → sheet_read_of c (take n (wrote (page_of r c) buffer).buffer) ≡ record { readout = r; verdict = Ok tt }

-- Bytes that the reader accepts are the very bytes that the writer makes of the read-out answered.
abbrev pub ReadWritesAgain : Type 0
ReadWritesAgain =
    (card : ℕ) (input : List ℕ) → (sheet_read_of card input).verdict ≡ Ok tt → (buffer : List ℕ) → length input ≤ length buffer → wrote (page_of (sheet_read_of card input).readout card) buffer ≡ record { answer = Ok (length input); buffer = sets buffer 0 input }

-- The read-out answered is as the code holds one, and holds that sheet alone.
abbrev pub ReadIsAlone : Type 0
ReadIsAlone = (card : ℕ) (input : List ℕ) → (sheet_read_of card input).verdict ≡ Ok tt → Held (sheet_read_of card input).readout × (alone (sheet_read_of card input).readout card ≡ (sheet_read_of card input).readout)

-- ---- what is refused

-- One altered byte in an accepted sheet is refused, whichever byte, whatever it becomes, and the read-out of zeros is handed back.
abbrev pub AlteredSheetRefused : Type 0
AlteredSheetRefused =
    (card : ℕ) (input : List ℕ) (p b : ℕ) → p < length input → (b ≡ get_or input p 0 → ⊥) → (sheet_read_of card input).verdict ≡ Ok tt → (r : Refusal) × (sheet_read_of card (set input p b) ≡ record { readout = no_readout; verdict = Err r })

-- So is one in an accepted read-out.
abbrev pub AlteredReadoutRefused : Type 0
AlteredReadoutRefused =
    (input : List ℕ) (p b : ℕ) → p < length input → (b ≡ get_or input p 0 → ⊥) → (readout_of input).verdict ≡ Ok tt → (r : Refusal) × (readout_of (set input p b) ≡ record { readout = no_readout; verdict = Err r })

-- A sheet that declares more frames than it has is refused by what stands where the next frame is due, and nothing of the sheet is answered.
abbrev pub ShortSheetRefused : Type 0
ShortSheetRefused =
    (card : ℕ) (h : Header) (frs : List Frame) (rest : List ℕ) (r : Refusal) →
    Fewer format card 0 h frs →
    next_verdict format h frs rest ≡ Err r →
    length (short_bytes format h frs rest) ≤ longest_input →
    sheet_read_of card (short_bytes format h frs rest) ≡ record { readout = no_readout; verdict = Err r }

-- So is a read-out, in whichever sheet the frame is due: "one card, in the last sheet, header count 3 over two frames".
abbrev pub ShortReadoutRefused : Type 0
ShortReadoutRefused =
    (n c : ℕ) (front rest : List ℕ) (r : Refusal) (d : FrameDue formats n c front) →
    next_verdict format d.header d.frames rest ≡ Err r →
    length (front ++ rest) ≤ longest_input →
    readout_of (front ++ rest) ≡ record { readout = no_readout; verdict = Err r }

-- Wherever the reading of a read-out stops, one of these places is there, and what stands there is at fault: where a header is due, where a frame is, or behind the last sheet.
abbrev pub StopsWhereDue : Type 0
StopsWhereDue = (input : List ℕ) (r : Refusal) → (read_sheets formats true 0 input).verdict ≡ Err r → Stops formats input r

-- ---- "Its header declares 48 frames, 47 stand beneath", and so for every count

-- What stands where a frame of a card is due, and the refusal: the input ends, or the header of another sheet comes, whatever it says. With two cards a header is as long as a frame, and the check tells it by its card.
pub data Next (card cards : ℕ) : List ℕ → Refusal → Type 0 where
  ends : Next card cards [] EndOrMore
  sheet : (cards ≡ 2 → ⊥) → (next : Header) (rest : List ℕ) → Next card cards (header_line format next ++ rest) BadLine
  other : cards ≡ 2 → (next : Header) (rest : List ℕ) → next.card < 16 ^ 2 → (next.card ≡ card → ⊥) → Next card cards (header_line format next ++ rest) BadCheck

-- A sheet by itself with fewer frames than its header declares is 8 where the input ends there, and 5 or 6 where a header comes.
abbrev pub FewerRefused : Type 0
FewerRefused =
    (card : ℕ) (h : Header) (frs : List Frame) (rest : List ℕ) (r : Refusal) →
    Fewer format card 0 h frs →
    Next card h.cards rest r →
    length (short_bytes format h frs rest) ≤ longest_input →
    sheet_read_of card (short_bytes format h frs rest) ≡ record { readout = no_readout; verdict = Err r }

-- So is such a sheet in a read-out.
abbrev pub FewerReadoutRefused : Type 0
FewerReadoutRefused =
    (n c : ℕ) (front rest : List ℕ) (r : Refusal) →
    FrameDue formats n c front →
    Next c n rest r →
    length (front ++ rest) ≤ longest_input →
    readout_of (front ++ rest) ≡ record { readout = no_readout; verdict = Err r }

-- ---- document 02, wish 4: "A line belongs to its sheet."

-- Every frame of an accepted read-out is a frame line of its card in it.
abbrev pub FramesStand : Type 0
FramesStand =
    (input : List ℕ) (d k : ℕ) →
    (readout_of input).verdict ≡ Ok tt →
    d < length (pages_read input).pages →
    k < length (page_at (pages_read input).pages d).frames →
    FrameOf formats (length (pages_read input).pages) d input (line_at format (page_at (pages_read input).pages d) k)

-- "Where a frame is due and no line before it is at fault, a frame carried unaltered from the sheet of another card of the same read-out, accepted until then, is always refused with 6": in any read-out of as many cards, whatever stands behind it, and nothing of that read-out is used.
abbrev pub CarriedFrameRefused : Type 0
CarriedFrameRefused =
    (n c d : ℕ) (input line place rest : List ℕ) →
    (readout_of input).verdict ≡ Ok tt →
    FrameOf formats n d input line →
    FrameDue formats n c place →
    (c ≡ d → ⊥) →
    length (place ++ (line ++ rest)) ≤ longest_input →
    readout_of (place ++ (line ++ rest)) ≡ record { readout = no_readout; verdict = Err BadCheck }

-- So where it is put into its own read-out: the input is never too long.
abbrev pub CarriedFramePutIn : Type 0
CarriedFramePutIn =
    (n c d : ℕ) (input line front after : List ℕ) →
    (readout_of input).verdict ≡ Ok tt →
    FrameOf formats n d input line →
    FrameDue formats n c front →
    input ≡ front ++ after →
    (c ≡ d → ⊥) →
    readout_of (front ++ (line ++ after)) ≡ record { readout = no_readout; verdict = Err BadCheck }

-- So where it stands in place of a frame of another card.
abbrev pub CarriedFrameInPlace : Type 0
CarriedFrameInPlace =
    (n c d : ℕ) (input line old : List ℕ) →
    (readout_of input).verdict ≡ Ok tt →
    FrameOf formats n d input line →
    (o : FrameOf formats n c input old) →
    (c ≡ d → ⊥) →
    readout_of (o.front ++ (line ++ o.behind)) ≡ record { readout = no_readout; verdict = Err BadCheck }

-- So where it comes from a sheet of another session, of whichever card, unless both sessions have the same lowest eight bits.
abbrev pub OtherSessionRefused : Type 0
OtherSessionRefused =
    (n c d : ℕ) (input line front rest : List ℕ) →
    (readout_of input).verdict ≡ Ok tt →
    (y : FrameOf formats n d input line) (x : FrameDue formats n c front) →
    (x.header.session % 2 ^ 8 ≡ y.due.header.session % 2 ^ 8 → ⊥) →
    length (front ++ (line ++ rest)) ≤ longest_input →
    readout_of (front ++ (line ++ rest)) ≡ record { readout = no_readout; verdict = Err BadCheck }

-- So in a sheet read by itself, of as many cards.
abbrev pub CarriedIntoSheetRefused : Type 0
CarriedIntoSheetRefused =
    (d : ℕ) (input line : List ℕ) (card : ℕ) (h : Header) (frs : List Frame) (rest : List ℕ) →
    (readout_of input).verdict ≡ Ok tt →
    FrameOf formats h.cards d input line →
    Fewer format card 0 h frs →
    (card ≡ d → ⊥) →
    length (short_bytes format h frs (line ++ rest)) ≤ longest_input →
    sheet_read_of card (short_bytes format h frs (line ++ rest)) ≡ record { readout = no_readout; verdict = Err BadCheck }

-- A frame line where the header of another card is due, as one more frame than the sheet before declares, is never accepted.
abbrev pub FrameForHeaderRefused : Type 0
FrameForHeaderRefused =
    (n c d : ℕ) (input line front rest : List ℕ) →
    (readout_of input).verdict ≡ Ok tt →
    FrameOf formats n d input line →
    HeaderDue formats n c front →
    (c ≡ d → ⊥) →
    (r : Refusal) × (readout_of (front ++ (line ++ rest)) ≡ record { readout = no_readout; verdict = Err r })

-- document 01's sheets, with both sums "from 0"
abbrev pub older : Formats
older told = format_from (λ card session. record { first = 0; second = 0 })

-- "Older sheets no longer read": one whose lines were accepted is 6.
abbrev pub OlderSheetRefused : Type 0
OlderSheetRefused =
    (card : ℕ) (input : List ℕ) → (read_sheets older false card input).verdict ≡ Ok tt → length input ≤ longest_input → sheet_read_of card input ≡ record { readout = no_readout; verdict = Err BadCheck }

-- So is such a read-out.
abbrev pub OlderReadoutRefused : Type 0
OlderReadoutRefused =
    (input : List ℕ) → (read_sheets older true 0 input).verdict ≡ Ok tt → length input ≤ longest_input → readout_of input ≡ record { readout = no_readout; verdict = Err BadCheck }
