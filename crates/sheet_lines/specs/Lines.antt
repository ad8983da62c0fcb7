-- Document 01's header line and frame line: their bytes, and what their readers answer.
use Rattle.std.specs.Prelude.{ℕ, ◌+◌, ◌*◌, Bool, not, ◌&&◌, ◌||◌, cond, List, [], ◌∷◌, map, leb, ltb, eqb, take, drop, get_or, replicate, Result, Ok, Err}
use Rattle.std.proofs.lemmas.List.Edits.{sets}
use Rattle.base_limits.specs.Document.{most_cards}
use Rattle.base_refusal.specs.declared.Refusal.{Refusal}
use Rattle.base_refusal.specs.declared.Refusal.TheVariants.{BadCheck, BadHeader, BadFrame}
use Rattle.sheet_digits.specs.declared.Sums.{Sums}
use Rattle.sheet_digits.specs.Digits.{number, numbers, written}
use Rattle.sheet_digits.specs.Line.{sheet_line, checked, shape_of}
use Rattle.base_laws.specs.Below.{all_below}
use Rattle.base_refusal.specs.Reply.{Reply}
use Rattle.sheet_lines.specs.declared.Header.{Header}
use Rattle.sheet_lines.specs.declared.Frame.{Frame}
use Rattle.sheet_lines.specs.Format.{Format, Formats, none_of, held_by, shown_by}

-- the order of a line's refusals: "8, 5, 6, then 7 or 9"
abbrev pub judged : Reply → Bool → Bool → Refusal → Reply
judged (Err r) right allowed refusal = Err r
judged (Ok _) right allowed refusal = cond right (cond allowed (Ok tt) (Err refusal)) (Err BadCheck)

-- ---- the header line: "session 8, card 2, number of cards 2, base 4, frame count 4, check 4"

abbrev pub header_widths : Format → List ℕ
header_widths f = 8 ∷ 2 ∷ 2 ∷ f.width ∷ 4 ∷ []

-- digits before the check
abbrev pub header_digits : Format → ℕ
header_digits f = f.width + 16

abbrev pub header_numbers : Header → List ℕ
header_numbers h = h.session ∷ h.card ∷ h.cards ∷ h.base ∷ h.count ∷ []

-- the number of cards that a header tells, without the raise
abbrev pub cards_of : Format → Header → ℕ
cards_of f h = f.unraised h.cards

-- the format that is picked by the number of cards of the header that stands first in the input
abbrev pub format_in : Formats → List ℕ → Format
format_in F input = F (number (take 2 (drop 10 input)))

-- the format of a sheet, by its header
abbrev pub format_for : Formats → Header → Format
format_for F h = F h.cards

-- the starting sums of a sheet's checks
abbrev pub start_of : Format → Header → Sums
start_of f h = f.start h.card h.session

unfoldable pub header_line : Format → Header → List ℕ
header_line f h = sheet_line (start_of f h) (written (header_widths f) (header_numbers h))

-- the header whose digits stand first in the input
unfoldable pub header_in : Format → List ℕ → Header
header_in f input =
    record {
      session = number (take 8 input);
      card = number (take 2 (drop 8 input));
      cards = number (take 2 (drop 10 input));
      base = number (take f.width (drop 12 input));
      count = number (take 4 (drop (f.width + 12) input));
    }

-- a header that refusal 7 lets pass, where card `due` is due; `first` is the first sheet's number of cards, and 0 where this is the first sheet
unfoldable pub header_allowed : Format → ℕ → ℕ → Header → Bool
header_allowed f due first h =
    not (eqb h.session 0)
    && (eqb h.card due
    && (ltb h.card (cards_of f h)
    && (leb (cards_of f h) f.cards
    && ((eqb first 0 || eqb (cards_of f h) first)
    && (leb h.count f.frames
    && leb (h.base + h.count) f.states)))))

-- what a line answers where a header is due
unfoldable pub header_verdict : Format → ℕ → ℕ → List ℕ → Reply
header_verdict f due first input =
    judged (shape_of (header_digits f) input) (checked (start_of f (header_in f input)) (header_digits f) input) (header_allowed f due first (header_in f input)) BadHeader

-- the header where the verdict accepts it, else the refusal
abbrev pub header_or : Reply → Header → Result Header Refusal
header_or (Ok _) h = Ok h
header_or (Err r) h = Err r

-- ---- the frame line: "state 4, change 8, one entry of 4 per card (none is FFFF), check 4"; n is the number of cards

abbrev pub frame_widths : Format → ℕ → List ℕ
frame_widths f n = f.width ∷ 8 ∷ replicate n f.width

-- digits before the check
abbrev pub frame_digits : Format → ℕ → ℕ
frame_digits f n = f.width + 8 + n * f.width

abbrev pub frame_numbers : Format → ℕ → Frame → List ℕ
frame_numbers f state fr = state ∷ fr.change ∷ map (shown_by f.short (none_of f)) fr.entries

unfoldable pub frame_line : Format → Sums → ℕ → ℕ → Frame → List ℕ
frame_line f start n state fr = sheet_line start (written (frame_widths f n) (frame_numbers f state fr))

-- the state, and the frame, whose digits stand first in the input
unfoldable pub state_in : Format → List ℕ → ℕ
state_in f input = number (take f.width input)

-- what is held of n entries whose digits stand first in the input
abbrev pub entries_by : ℕ → (ℕ → ℕ) → ℕ → List ℕ → List ℕ
entries_by width held n input = map held (numbers (replicate n width) input)

unfoldable pub entries_in : Format → ℕ → List ℕ → List ℕ
entries_in f n input = entries_by f.width (held_by f.short (none_of f)) n input

unfoldable pub frame_in : Format → ℕ → List ℕ → Frame
frame_in f n input = record { change = number (take 8 (drop f.width input)); entries = entries_in f n (drop (f.width + 8) input) }

-- an entry that refusal 9 lets pass: p is the same entry of the frame before, or 0; j is its card
abbrev pub entry_allowed : Format → ℕ → ℕ → ℕ → ℕ → ℕ → Bool
entry_allowed f card state j p e = (f.short || leb p e) && (leb e f.states && (not (eqb j card) || eqb e state))

unfoldable pub entries_allowed : Format → ℕ → ℕ → ℕ → List ℕ → List ℕ → Bool
entries_allowed f card state n ps es = all_below n (λ j. entry_allowed f card state j (get_or ps j 0) (get_or es j 0))

-- a frame that refusal 9 lets pass, where `state` is the next; the frame before is `last`, with change 0 and no entries before the first
unfoldable pub frame_allowed : Format → ℕ → ℕ → ℕ → Frame → ℕ → Frame → Bool
frame_allowed f card n state last told fr =
    eqb told state && (ltb last.change fr.change && entries_allowed f card state n last.entries fr.entries)

-- what a line answers where a frame is due
unfoldable pub frame_verdict : Format → Sums → ℕ → ℕ → ℕ → Frame → List ℕ → Reply
frame_verdict f start card n state last input =
    judged (shape_of (frame_digits f n) input) (checked start (frame_digits f n) input) (frame_allowed f card n state last (state_in f input) (frame_in f n input)) BadFrame

-- entries in an array of 16, with 0 beyond them
unfoldable pub padded : List ℕ → List ℕ
padded es = sets (replicate most_cards 0) 0 es

-- the frame where the verdict accepts it, else the refusal
abbrev pub frame_read_of : Reply → Frame → Result Frame Refusal
frame_read_of (Ok _) fr = Ok (record { change = fr.change; entries = padded fr.entries })
frame_read_of (Err r) fr = Err r

-- what stands before the first frame: change 0, no entries
abbrev pub no_frame : Frame
no_frame = record { change = 0; entries = replicate most_cards 0 }
