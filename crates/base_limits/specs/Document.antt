-- The limits of document 01: each number by its name, and the one record of them that plans and claims go over.
use Rattle.std.specs.Prelude.{ℕ, ◌+◌, ◌*◌}

-- "A cabinet has 1 to 16 cards"
abbrev pub most_cards : ℕ
most_cards = 16

-- "reached at most base + 48"
abbrev pub most_in_hand : ℕ
most_in_hand = 48

-- "more than eight open changes"
abbrev pub most_open : ℕ
most_open = 8

-- "and at most 60,000"
abbrev pub last_state : ℕ
last_state = 60000

-- "change number or session at 4,294,967,295"
abbrev pub last_number : ℕ
last_number = 4294967295

-- the frames in hand of all cards, and their entries
abbrev pub most_frames : ℕ
most_frames = most_cards * most_in_hand

abbrev pub most_entries : ℕ
most_entries = most_frames * most_cards

-- "a second list of up to 776"
abbrev pub longest_lost : ℕ
longest_lost = most_frames + most_open

-- "input over 65,536 bytes"
abbrev pub longest_input : ℕ
longest_input = 65536

-- "none is FFFF", in a sheet
abbrev pub no_entry : ℕ
no_entry = 65535

-- the limits of a cabinet, for any numbers
pub record Limits : Type 0 where
  pub width : ℕ
  pub in_hand : ℕ
  pub slots : ℕ
  pub greatest_state : ℕ
  pub greatest_number : ℕ

-- "the limits 16, 48, 8 and 60,000", and 4,294,967,295, the greatest session and change number
unfoldable pub limits16 : Limits
limits16 = record { width = most_cards; in_hand = most_in_hand; slots = most_open; greatest_state = last_state; greatest_number = last_number }
