-- A cabinet with no layout: what document 01 says of it, by card, by state and by slot. Every representation has a view into this model.
use Rattle.std.specs.Prelude.{ℕ, ◌-◌, Bool, true, false, not, ◌&&◌, ◌||◌, eqb, ltb}
use Rattle.base_laws.specs.Below.{all_below, any_below, first_below}
use Rattle.theory_history.specs.Change.{CardSet, Change, Numbers, touches, no_change}
use Rattle.theory_history.specs.Vector.{Vector, no_entries, Tracked}
pub use Rattle.base_limits.specs.Document.{Limits}

pub data Phase : Type 0 where
  up down rolling : Phase

abbrev pub is_up : Phase → Bool
is_up up = true
is_up down = false
is_up rolling = false

abbrev pub is_down : Phase → Bool
is_down up = false
is_down down = true
is_down rolling = false

abbrev pub is_rolling : Phase → Bool
is_rolling up = false
is_rolling down = false
is_rolling rolling = true

-- "Each card has four state numbers: base ≤ stored ≤ held ≤ reached"
pub record StateNumbers : Type 0 where
  pub base : Numbers
  pub stored : Numbers
  pub held : Numbers
  pub reached : Numbers

-- "Two vectors go with every card, the last and the pending", and the frames in hand: the change that made a state, and its vector.
-- A state that is not in hand, from base + 1 to reached, has change 0 and no entries.
pub record Memory : Type 0 where
  pub last : ℕ → Vector
  pub pending : ℕ → Vector
  pub change : ℕ → ℕ → ℕ
  pub frame : ℕ → ℕ → Vector

-- An open change: who voted yes, who has taken its share, and the vector worked out at the decision. Number 0 is a free slot, of which nothing else is looked at.
pub record OpenChange : Type 0 where
  pub change : Change
  pub yes : CardSet
  pub taken : CardSet
  pub vector : Vector

pub record Model : Type 0 where
  pub session : ℕ
  pub phase : Phase
  -- the last change number given in the session
  pub latest : ℕ
  -- the cards that are there
  pub present : CardSet
  pub numbers : StateNumbers
  pub memory : Memory
  pub slot : ℕ → OpenChange
  -- by slot, the decided changes that a loss ended with a written share untaken: the lost list needs them
  pub ended : ℕ → ℕ
  -- while rolling: the line fixed, and the cards already rolled
  pub line : Numbers
  pub rolled : CardSet
  -- document 02, wish 5: the write running of each card, 0 for none, and the state up to which it goes plus one otherwise
  pub writing : Numbers

-- ---- words
abbrev pub no_cards : CardSet
no_cards c = false

-- "cards already rolled", in phase rolling alone
abbrev pub has_rolled : Model → CardSet
has_rolled m c = is_rolling m.phase && m.rolled c

-- "a card whose write is running"
abbrev pub is_writing : Model → CardSet
is_writing m c = not (eqb (m.writing c) 0)

-- the running s, "up to state s"
abbrev pub writes_to : Model → Numbers
writes_to m c = m.writing c - 1

-- a change that no card has voted on
abbrev pub unvoted : Change → OpenChange
unvoted t = record { change = t; yes = no_cards; taken = no_cards; vector = no_entries }

abbrev pub free_slot : OpenChange
free_slot = unvoted no_change

-- the card is in the cabinet
abbrev pub is_card : Limits → Model → CardSet
is_card L m c = ltb c L.width && m.present c

-- some card of a set is not in the cabinet
abbrev pub strays : Limits → Model → CardSet → Bool
strays L m s = any_below L.width (λ c. s c && not (m.present c))

abbrev pub is_empty : Limits → CardSet → Bool
is_empty L s = not (any_below L.width s)

-- every card of the first set is in the second
abbrev pub within : Limits → CardSet → CardSet → Bool
within L s t = all_below L.width (λ c. not (s c) || t c)

-- the set with one card more
abbrev pub with_card : CardSet → ℕ → CardSet
with_card s c k = eqb k c || s k

-- an open change with other votes, shares and vector; the one place that writes a changed one out
abbrev voted : OpenChange → (agreed shared : CardSet) → Vector → OpenChange
voted o agreed shared v = record { change = o.change; yes = agreed; taken = shared; vector = v }

abbrev pub with_yes : OpenChange → CardSet → OpenChange
with_yes o s = voted o s o.taken o.vector

abbrev pub with_taken : OpenChange → CardSet → OpenChange
with_taken o s = voted o o.yes s o.vector

abbrev pub with_vector : OpenChange → Vector → OpenChange
with_vector o v = voted o o.yes o.taken v

abbrev pub is_open : OpenChange → Bool
is_open o = not (eqb o.change.number 0)

-- "With the last yes it is decided": all touched cards have voted yes
abbrev pub decided : Limits → OpenChange → Bool
decided L o = within L (touches o.change) o.yes

-- "A change all of whose cards have taken is closed."
abbrev pub closed : Limits → OpenChange → Bool
closed L o = within L (touches o.change) o.taken

-- the cards that have yet to write their share
abbrev pub to_write : OpenChange → CardSet
to_write o c = o.change.writes c && not (o.taken c)

abbrev pub awaits_write : Limits → OpenChange → Bool
awaits_write L o = any_below L.width (to_write o)

-- the first slot whose change has that number, and the number of slots where there is none
abbrev pub slot_of : Limits → Model → ℕ → ℕ
slot_of L m k = first_below L.slots (λ p. is_open (m.slot p) && eqb (m.slot p).change.number k)

-- the first free slot, and the number of slots where there is none
abbrev pub free_at : Limits → Model → ℕ
free_at L m = first_below L.slots (λ p. not (is_open (m.slot p)))

-- there is an open change of that number
abbrev pub is_known : Limits → Model → ℕ → Bool
is_known L m k = ltb (slot_of L m k) L.slots

-- what the vector of a change is worked out from
abbrev pub tracked : Model → Tracked
tracked m =
    record { reached = m.numbers.reached; last = m.memory.last; pending = m.memory.pending; frame = m.memory.frame }
