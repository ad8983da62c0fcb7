-- What the constants of the code say, in the definitions' numbers.
use Rattle.std.specs.Prelude.{◌-◌, ◌^◌}
use Rattle.base_limits.specs.Document.{most_cards, most_in_hand, most_frames, most_entries, most_open, longest_lost, last_state, last_number, longest_input, no_entry}
use Rattle.base_limits.specs.declared.Limits.{Limits}

abbrev pub constants : Limits
constants =
    record {
      cards = most_cards;
      in_hand = most_in_hand;
      slots = most_open;
      greatest_state = last_state;
      greatest_number = last_number;
      longest = longest_input;
      no_entry = no_entry;
      frames = most_frames;
      entries = most_entries;
      most_lost = longest_lost;
      sets = 2 ^ most_cards;
      all_cards = 2 ^ most_cards - 1;
      cards_u32 = most_cards;
      in_hand_u32 = most_in_hand;
      in_hand_u64 = most_in_hand;
      most_lost_u32 = longest_lost;
      longest_u32 = longest_input;
    }
