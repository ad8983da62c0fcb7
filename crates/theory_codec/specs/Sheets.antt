-- A card's sheet, the joined read-out of a cabinet, and the cabinet that restarts from one: document 01, "Card sheets and restart".
use Rattle.std.specs.Prelude.{ℕ, suc, ◌+◌, ◌-◌, Bool, ◌&&◌, cond, List, leb, ltb, length, get_or}
use Rattle.base_laws.specs.Below.{count_below, tabulate, selected}
use Rattle.base_refusal.specs.Reply.{Reply}
use Rattle.sheet_lines.specs.declared.Frame.{Frame}
use Rattle.sheet_lines.specs.Format.{Formats, formats}
use Rattle.sheet_lines.specs.Lines.{no_frame}
use Rattle.sheet_pages.specs.Pages.{Page, page_bytes, pages_bytes}
use Rattle.sheet_pages.specs.Ring.{page_at}
use Rattle.sheet_readout.specs.Joint.{lowest_session, pages_read}
use Rattle.theory_history.specs.Change.{Numbers}
use Rattle.theory_history.specs.Vector.{Vector}
use Rattle.theory_history.specs.Line.{line_from}
use Rattle.theory_protocol.specs.Model.{Limits, rolling, Model, has_rolled}
use Rattle.theory_protocol.specs.Edit.{with_head, with_numbers, with_line}
use Rattle.theory_protocol.specs.Calls.{fresh_model}
use Rattle.theory_protocol.specs.Codec.{Codec}

-- ---- writing
-- the number of cards
abbrev pub card_count : Limits → Model → ℕ
card_count L m = count_below L.width m.present

-- "A card already rolled writes the next session's number."
abbrev pub sheet_session : Model → ℕ → ℕ
sheet_session m c = cond (has_rolled m c) (suc m.session) m.session

-- the frame of state x of card c: the change, and one entry per card
abbrev pub sheet_frame : Limits → Model → ℕ → ℕ → Frame
sheet_frame L m c x = record { change = m.memory.change c x; entries = tabulate (card_count L m) (m.memory.frame c x) }

-- a card's sheet: "Frames run from base + 1 to stored."
abbrev pub sheet_of : Limits → Model → ℕ → Page
sheet_of L m c =
    record {
      header =
          record {
            session = sheet_session m c;
            card = c;
            cards = card_count L m;
            base = m.numbers.base c;
            count = m.numbers.stored c - m.numbers.base c;
          };
      frames = tabulate (m.numbers.stored c - m.numbers.base c) (λ k. sheet_frame L m c (suc (m.numbers.base c + k)));
    }

-- the last state of a sheet
abbrev pub page_stored : Page → ℕ
page_stored p = p.header.base + p.header.count

-- "the sheets of all cards in card order"
abbrev pub sheets : Limits → Model → List Page
sheets L m = selected L.width m.present (sheet_of L m)

-- the sheets of all cards, joined
abbrev pub joined_sheets : Formats → Limits → Model → List ℕ
joined_sheets F L m = pages_bytes F (sheets L m)

-- ---- restart, from the sheets read
-- a state that has a frame on the sheet, from base + 1 to stored
abbrev pub is_on : Page → ℕ → Bool
is_on p x = ltb p.header.base x && leb x (page_stored p)

-- the frame of state x
abbrev pub frame_for : Page → ℕ → Frame
frame_for p x = get_or p.frames (x - suc p.header.base) no_frame

-- the change and the vector of state x, and none of a state that has no frame
abbrev pub change_on : Page → ℕ → ℕ
change_on p x = cond (is_on p x) (frame_for p x).change 0

abbrev pub vector_on : Page → ℕ → Vector
vector_on p x j = cond (is_on p x) (get_or (frame_for p x).entries j 0) 0

-- the state that each card has stored
abbrev pub stored_on : List Page → Numbers
stored_on ps c = page_stored (page_at ps c)

-- "It gives a cabinet in phase rolling with the line fixed and the lowest session found; cards one session ahead count as rolled. Held and reached are the stored number,
-- last and pending are those of the card's last frame or all none, no change is open and the last change number is 0."
abbrev pub restarted : Limits → List Page → Model
restarted L ps =
    with_line
    (with_numbers (with_head (fresh_model (λ c. ltb c (length ps))) (lowest_session ps) rolling 0)
    (record { base = λ c. (page_at ps c).header.base; stored = stored_on ps; held = stored_on ps; reached = stored_on ps })
    (record {
      last = λ c. vector_on (page_at ps c) (stored_on ps c);
      pending = λ c. vector_on (page_at ps c) (stored_on ps c);
      change = λ c. change_on (page_at ps c);
      frame = λ c. vector_on (page_at ps c);
    }))
    (λ c. line_from L.width (stored_on ps) (vector_on (page_at ps c)) (page_at ps c).header.base (stored_on ps c))
    (λ c. ltb (lowest_session ps) (page_at ps c).header.session)

-- what a restart answers to any bytes, and the cabinet that it gives; refused, there is none
abbrev pub restart_reply : List ℕ → Reply
restart_reply bytes = (pages_read bytes).verdict

abbrev pub restarted_from : Limits → List ℕ → Model
restarted_from L bytes = restarted L (pages_read bytes).pages

-- ---- document 01's sheets, as a list of calls knows them
abbrev pub codec : Codec
codec =
    record {
      sheet = λ L m c. page_bytes formats (sheet_of L m c);
      last = λ L m c. page_stored (sheet_of L m c);
      joined = joined_sheets formats;
      verdict = restart_reply;
      restarted = restarted_from;
    }
