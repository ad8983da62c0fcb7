-- Refusal 28: what a cabinet must be, so that a call looks at anything else. Document 01's row, clause by clause, and document 02's.
use Rattle.std.specs.Prelude.{ℕ, suc, ◌+◌, ◌-◌, Bool, not, ◌&&◌, ◌||◌, cond, eqb, leb, ltb}
use Rattle.base_laws.specs.Below.{all_below, any_below}
use Rattle.theory_history.specs.Change.{CardSet, touches}
use Rattle.theory_history.specs.Vector.{Vector}
use Rattle.theory_protocol.specs.Model.{Limits, is_rolling, StateNumbers, Memory, OpenChange, Model, is_writing, writes_to, strays, is_open, to_write}

-- "session 0 (while rolling also 4,294,967,295)"
abbrev pub session_valid : Limits → Model → Bool
session_valid L m = not (eqb m.session 0) && not (is_rolling m.phase && eqb m.session L.greatest_number)

-- "a number of cards .. outside the limits": there is a card, and none beyond the width
abbrev pub cards_valid : Limits → Model → Bool
cards_valid L m = any_below L.width m.present && not (m.present L.width)

-- "a .. state number .. outside the limits": base ≤ stored ≤ held ≤ reached, with reached at most base + 48 and at most 60,000
abbrev pub numbers_valid : Limits → StateNumbers → ℕ → Bool
numbers_valid L n c =
    leb (n.base c) (n.stored c) && leb (n.stored c) (n.held c) && leb (n.held c) (n.reached c)
    && leb (n.reached c) (n.base c + L.in_hand) && leb (n.reached c) L.greatest_state

-- "a number .. or entry outside the limits .., an entry of an absent card that isn't none": an entry is at most 59,999, held as a dependency of at most 60,000
abbrev pub entries_valid : Limits → CardSet → Vector → Bool
entries_valid L present v = all_below L.width (λ j. leb (v j) (cond (present j) L.greatest_state 0))

-- "a kept frame that breaks 9": frame x of card c, "change 0 .., own entry not state − 1, other entry 60,000 to 65,534"
abbrev pub frame_valid : Limits → Model → ℕ → ℕ → Bool
frame_valid L m c x =
    not (eqb (m.memory.change c x) 0) && eqb (m.memory.frame c x c) x && entries_valid L m.present (m.memory.frame c x)

-- "change .. not rising, .. an entry falling from frame to frame": frame x and the next of card c
abbrev pub rises_valid : Limits → Memory → ℕ → ℕ → Bool
rises_valid L y c x =
    ltb (y.change c x) (y.change c (suc x)) && all_below L.width (λ j. leb (y.frame c x j) (y.frame c (suc x) j))

-- the frames of card c: from base + 1 to reached
abbrev pub frames_valid : Limits → Model → ℕ → Bool
frames_valid L m c =
    all_below (m.numbers.reached c - m.numbers.base c)
    (λ k. frame_valid L m c (suc (m.numbers.base c + k)) && (eqb k 0 || rises_valid L m.memory c (m.numbers.base c + k)))

-- "while rolling a fixed line outside base to stored"
abbrev pub line_valid : Model → ℕ → Bool
line_valid m c = not (is_rolling m.phase) || (leb (m.numbers.base c) (m.line c) && leb (m.line c) (m.numbers.stored c))

-- what is looked at of a card that is there; of one that is not, only its last and pending
abbrev pub card_valid : Limits → Model → ℕ → Bool
card_valid L m c =
    entries_valid L (λ j. m.present c && m.present j) (m.memory.last c) && entries_valid L (λ j. m.present c && m.present j) (m.memory.pending c)
    && (not (m.present c) || (numbers_valid L m.numbers c && line_valid m c && frames_valid L m c))

-- "has yet to write a card at base + 48 or 60,000"
abbrev pub room_to_write : Limits → StateNumbers → ℕ → Bool
room_to_write L n c = ltb (n.reached c) (n.base c + L.in_hand) && ltb (n.reached c) L.greatest_state

-- an open change "that touches an absent card or has yet to write a card at base + 48 or 60,000"
abbrev pub slot_valid : Limits → Model → OpenChange → Bool
slot_valid L m o =
    not (is_open o)
    || (not (strays L m (touches o.change)) && all_below L.width (λ c. not (to_write o c) || room_to_write L m.numbers c)
    && entries_valid L m.present o.vector)

-- document 02, wish 5: "A running s outside stored to reached, or a write running in phase rolling, is 28": of a card that is there
abbrev pub write_valid : Model → ℕ → Bool
write_valid m c =
    not (m.present c && is_writing m c)
    || (not (is_rolling m.phase) && leb (m.numbers.stored c) (writes_to m c) && leb (writes_to m c) (m.numbers.reached c))

-- a cabinet that is not refused with 28 ("more than eight open changes": a model has its slots)
abbrev pub valid : Limits → Model → Bool
valid L m =
    session_valid L m && cards_valid L m && all_below L.width (card_valid L m) && all_below L.slots (λ p. slot_valid L m (m.slot p))
    && all_below L.width (write_valid m)
