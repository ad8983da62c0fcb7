-- What a sheet's format leaves open, as parameters, and document 01's choice of them; entries as they are held and as they are written.
use Rattle.std.specs.Prelude.{ℕ, ◌+◌, ◌-◌, ◌%◌, ◌^◌, ◌≤◌, ◌<◌, ◌≡◌, Bool, false, cond, eqb}
use Rattle.base_limits.specs.Document.{most_cards, most_in_hand, last_state, last_number, no_entry}
use Rattle.sheet_digits.specs.declared.Sums.{Sums}
use Rattle.sheet_lines.specs.declared.Layout.{Layout}

pub record Format : Type 0 where
  -- digits of a state number, and so of an entry
  pub width : ℕ
  -- the greatest number of cards
  pub cards : ℕ
  -- the greatest frame count
  pub frames : ℕ
  -- the greatest state number
  pub states : ℕ
  -- entries are needs, which may fall from frame to frame
  pub short : Bool
  -- the number of cards without the raise that the header has it with
  pub unraised : ℕ → ℕ
  -- where the two sums of a sheet's checks start, from its card and session
  pub start : ℕ → ℕ → Sums

-- "The first sum now starts at the card number plus one, the second at the session's lowest eight bits": eight bits both, so that card 255, which a header can name, starts at 0
abbrev pub from_sheet : ℕ → ℕ → Sums
from_sheet card session = record { first = (card + 1) % 2 ^ 8; second = session % 2 ^ 8 }

-- document 01's format, wherever its sums start: state numbers of 4 digits, 16 cards, 48 frames, states to 60,000
abbrev pub format_from : (ℕ → ℕ → Sums) → Format
format_from start = record { width = 4; cards = most_cards; frames = most_in_hand; states = last_state; short = false; unraised = λ k. k; start = start }

-- and where document 02 has them start
abbrev pub format : Format
format = format_from from_sheet

-- the format of a layout: what readers and writers of lines are told of it
abbrev pub format_of : Layout → Format
format_of l = record { width = l.width; cards = most_cards; frames = most_in_hand; states = l.states; short = l.short; unraised = λ k. k - l.raise; start = from_sheet }

-- a layout whose numbers are those of its width
pub record Fits (l : Layout) : Type 0 where
  pub width : l.width ≤ 8
  pub none : l.none ≡ 16 ^ l.width - 1
  pub states : l.states ≤ last_number

-- document 01's layout
abbrev pub plain : Layout
plain = record { none = no_entry; states = last_state; raise = 0; width = 4; short = false }

-- Formats by the number of cards that a header tells, raised as it is: a sheet is in the format that its header picks.
abbrev pub Formats : Type 0
Formats = ℕ → Format

-- document 01 has one format
abbrev pub formats : Formats
formats told = format

-- Lines of two sheets are told apart: sums that start alike are of one card, of those that two digits can name, and of sessions with the same lowest eight bits; and below the greatest number of cards no first sum starts at 0.
pub record Apart (F : Formats) : Type 0 where
  pub cards : (told other c d session next : ℕ) → c < 16 ^ 2 → d < 16 ^ 2 → ((F told).start c session).first ≡ ((F other).start d next).first → c ≡ d
  pub sessions : (told other c d session next : ℕ) → ((F told).start c session).second ≡ ((F other).start d next).second → session % 2 ^ 8 ≡ next % 2 ^ 8
  pub from_one : (told c session : ℕ) → c < (F told).cards → 1 ≤ ((F told).start c session).first

-- the entry that says none: FFFF in 4 digits
abbrev pub none_of : Format → ℕ
none_of f = 16 ^ f.width - 1

-- the dependency held for an entry of a sheet, whose greatest number `all` says none
unfoldable pub dependency : ℕ → ℕ → ℕ
dependency all e = cond (eqb e all) 0 (e + 1)

-- the entry that a sheet has for a dependency
unfoldable pub entry_of : ℕ → ℕ → ℕ
entry_of all d = cond (eqb d 0) all (d - 1)

-- the need held for an entry of a short sheet, and the entry for a need: 0 for none, and the number itself otherwise. The entry 0, which no need has, is held as the greatest number, above every limit.
unfoldable pub need_of : ℕ → ℕ → ℕ
need_of all e = cond (eqb e all) 0 (cond (eqb e 0) all e)

-- what is held for an entry, and the entry for what is held, by the kind of sheet: in both the least state to keep
abbrev pub held_by : Bool → ℕ → ℕ → ℕ
held_by short all = cond short (need_of all) (dependency all)

abbrev pub shown_by : Bool → ℕ → ℕ → ℕ
shown_by short all = cond short (need_of all) (entry_of all)
