-- How a cabinet of 16 cards is held in lists of numbers, and what each list says in the model.
use Rattle.std.specs.Prelude.{ℕ, ◌+◌, ◌*◌, Bool, ◌&&◌, cond, List, [], leb, ltb, get_or, replicate}
use Rattle.base_limits.specs.Ring.{ring_place}
use Rattle.base_limits.specs.Document.{most_cards, most_open}
use Rattle.base_laws.specs.Below.{tabulate}
unfoldable pub use Rattle.base_limits.specs.Document.{limits16}
use Rattle.base_bits.specs.Member.{member, number}
use Rattle.theory_history.specs.Change.{CardSet, Numbers}
use Rattle.theory_history.specs.Vector.{no_entries, Tracked}
use Rattle.theory_history.specs.Vector as history
use Rattle.theory_protocol.specs.Model as model
use Rattle.theory_protocol.specs.Model.{Model, OpenChange, Memory, StateNumbers, no_cards, free_slot}
use Rattle.theory_protocol.specs.Edit as edit
use Rattle.theory_protocol.specs.Calls.{fresh_model}
use Rattle.theory_protocol.specs.Valid.{numbers_valid, line_valid, frames_valid}
use Rattle.cabinet_layout.specs.declared.Phase.{Phase}
use Rattle.cabinet_layout.specs.declared.Phase.TheVariants.{Up, Down, Rolling}
use Rattle.cabinet_layout.specs.declared.Head.{Head}
use Rattle.cabinet_layout.specs.declared.Vector.{Vector}
use Rattle.cabinet_layout.specs.declared.Slot.{Slot}
use Rattle.cabinet_layout.specs.declared.Core.{Core}

abbrev pub phase_of : Phase → model.Phase
phase_of Up = model.up
phase_of Down = model.down
phase_of Rolling = model.rolling

-- the number that a list holds for card i: numbers by card, and the entries of a vector
abbrev pub at : List ℕ → ℕ → ℕ
at l i = get_or l i 0

-- cards 0 to n − 1 are in the cabinet
abbrev pub present_of : ℕ → CardSet
present_of n c = ltb c n

-- the vector that a list of vectors holds for card c
abbrev pub vector_at : List Vector → ℕ → history.Vector
vector_at l c = at (get_or l c (record { entries = [] })).entries

-- what stands at the ring's places, whether or not the state is in hand
abbrev pub ring_change : List ℕ → ℕ → ℕ → ℕ
ring_change changes c x = at changes (ring_place c x)

abbrev pub ring_frame : List ℕ → ℕ → ℕ → history.Vector
ring_frame entries c x j = at entries (ring_place c x * most_cards + j)

-- "Frames run from base + 1": state x of card c is in hand
abbrev pub in_hand : (base reached : List ℕ) → ℕ → ℕ → Bool
in_hand base reached c x = ltb (at base c) x && leb x (at reached c)

-- the frames in hand, with an entry for each card; a state that is not in hand shows change 0 and no entries
abbrev pub change_in_hand : (changes base reached : List ℕ) → ℕ → ℕ → ℕ
change_in_hand changes base reached c x = cond (in_hand base reached c x) (ring_change changes c x) 0

abbrev pub truncate : history.Vector → history.Vector
truncate v j = cond (ltb j limits16.width) (v j) 0

abbrev pub frame_in_hand : (entries base reached : List ℕ) → ℕ → ℕ → history.Vector
frame_in_hand entries base reached c x = cond (in_hand base reached c x) (truncate (ring_frame entries c x)) no_entries

-- the frames of the ring, whether or not they are in hand
abbrev pub ring : (entries changes : List ℕ) → Memory
ring entries changes =
    record { last = λ c. no_entries; pending = λ c. no_entries; change = ring_change changes; frame = ring_frame entries }

-- four numbers for whatever card
abbrev pub numbers_of : (base stored held reached : ℕ) → StateNumbers
numbers_of base stored held reached =
    record { base = λ c. base; stored = λ c. stored; held = λ c. held; reached = λ c. reached }

-- an open change as a slot holds it
abbrev pub open_of : Slot → OpenChange
open_of p =
    record {
      change = record { number = p.number; reads = member p.reads; writes = member p.writes };
      yes = member p.yes;
      taken = member p.taken;
      vector = at p.vector;
    }

-- a place with nothing in it, not even entries: what is read beyond a list of slots
abbrev pub empty_slot : Slot
empty_slot = record { vector = []; number = 0; reads = 0; writes = 0; yes = 0; taken = 0 }

-- the open change in slot p
abbrev pub open_at : List Slot → ℕ → OpenChange
open_at l p = open_of (get_or l p empty_slot)

-- the set as a number of 16 bits
abbrev pub set_of : CardSet → ℕ
set_of s = number limits16.width s

-- a number for each card, and the entries of a vector, as a list
abbrev pub list_of : Numbers → List ℕ
list_of f = tabulate limits16.width f

abbrev pub vector_for : history.Vector → Vector
vector_for v = record { entries = list_of v }

-- the slot that holds an open change
abbrev pub slot_for : OpenChange → Slot
slot_for o =
    record {
      vector = list_of o.vector;
      number = o.change.number;
      reads = set_of o.change.reads;
      writes = set_of o.change.writes;
      yes = set_of o.yes;
      taken = set_of o.taken;
    }

-- ---- heads
-- a head whose change numbers start at 1
abbrev pub head_of : (session cards : ℕ) → Phase → Head
head_of session cards phase = record { session = session; cards = cards; latest = 0; phase = phase }

abbrev pub in_phase : Head → Phase → Head
in_phase h p = record { session = h.session; cards = h.cards; latest = h.latest; phase = p }

abbrev pub counted : Head → ℕ → Head
counted h k = record { session = h.session; cards = h.cards; latest = k; phase = h.phase }

-- ---- the groups of fields of a core, each set by itself
-- a core anew; the one place that writes a changed core out
abbrev remade : Core → Head → (last pending : List Vector) → List Slot → (base stored held reached line ended : List ℕ) → (rolled : ℕ) → (writing : List ℕ) → Core
remade s head last pending slots base stored held reached line ended rolled writing =
    record {
      head = head;
      last = last;
      pending = pending;
      slots = slots;
      base = base;
      stored = stored;
      held = held;
      reached = reached;
      line = line;
      ended = ended;
      rolled = rolled;
      writing = writing;
    }

abbrev pub with_head : Core → Head → Core
with_head s h = remade s h s.last s.pending s.slots s.base s.stored s.held s.reached s.line s.ended s.rolled s.writing

abbrev pub with_vectors : Core → (last pending : List Vector) → Core
with_vectors s last pending = remade s s.head last pending s.slots s.base s.stored s.held s.reached s.line s.ended s.rolled s.writing

abbrev pub with_slots : Core → List Slot → (ended : List ℕ) → Core
with_slots s slots ended = remade s s.head s.last s.pending slots s.base s.stored s.held s.reached s.line ended s.rolled s.writing

abbrev pub with_numbers : Core → (base stored held reached : List ℕ) → Core
with_numbers s base stored held reached = remade s s.head s.last s.pending s.slots base stored held reached s.line s.ended s.rolled s.writing

abbrev pub with_line : Core → (line : List ℕ) (rolled : ℕ) → Core
with_line s line rolled = remade s s.head s.last s.pending s.slots s.base s.stored s.held s.reached line s.ended rolled s.writing

abbrev pub with_writing : Core → (writing : List ℕ) → Core
with_writing s writing = remade s s.head s.last s.pending s.slots s.base s.stored s.held s.reached s.line s.ended s.rolled writing

-- a core of which only the head is there
abbrev pub bare : Head → Core
bare h =
    record {
      head = h;
      last = [];
      pending = [];
      slots = [];
      base = [];
      stored = [];
      held = [];
      reached = [];
      line = [];
      ended = [];
      rolled = 0;
      writing = [];
    }

-- "all state numbers 0, all entries none", every slot free, no write running
abbrev pub blank_core : Head → Core
blank_core h =
    let none : List ℕ = replicate most_cards 0 in
    let vectors : List Vector = replicate most_cards (record { entries = none }) in
    with_writing (with_line (with_slots (with_numbers (with_vectors (bare h) vectors vectors) none none none none) (replicate most_open (slot_for free_slot)) (replicate most_open 0)) none 0) none

-- the model of a cabinet of these frames and this core
abbrev pub model_of : (entries changes : List ℕ) → Core → Model
model_of entries changes s =
    record {
      session = s.head.session;
      phase = phase_of s.head.phase;
      latest = s.head.latest;
      present = present_of s.head.cards;
      numbers = record { base = at s.base; stored = at s.stored; held = at s.held; reached = at s.reached };
      memory = record {
        last = vector_at s.last;
        pending = vector_at s.pending;
        change = change_in_hand changes s.base s.reached;
        frame = frame_in_hand entries s.base s.reached;
      };
      slot = open_at s.slots;
      ended = at s.ended;
      line = at s.line;
      rolled = member s.rolled;
      writing = at s.writing;
    }

-- the parts of a cabinet that a verdict looks at: the head; numbers by card; the writes that run; the slots
abbrev pub head_model : Head → Model
head_model h = model_of [] [] (bare h)

abbrev pub numbers_model : Head → (base stored held reached : List ℕ) → Model
numbers_model h base stored held reached = model_of [] [] (with_numbers (bare h) base stored held reached)

-- numbers by card, and the writes that run
abbrev pub writes_model : Head → (stored held reached writing : List ℕ) → Model
writes_model h stored held reached writing = model_of [] [] (with_writing (with_numbers (bare h) [] stored held reached) writing)

abbrev pub slots_model : Head → List Slot → (base reached : List ℕ) → Model
slots_model h slots base reached = model_of [] [] (with_slots (with_numbers (bare h) base [] [] reached) slots [])

-- what the vector of a change is worked out from
abbrev pub tracked_of : (reached : List ℕ) (last pending : List Vector) → Tracked
tracked_of reached last pending =
    record { reached = at reached; last = vector_at last; pending = vector_at pending; frame = λ c x. no_entries }

-- the parts of a cabinet of n cards that a check of one card or one slot looks at
abbrev pub part_of : (n : ℕ) → model.Phase → StateNumbers → Memory → (line : ℕ) → Model
part_of n phase numbers memory line =
    edit.with_line (edit.with_numbers (edit.with_head (fresh_model (present_of n)) 0 phase 0) numbers memory) (λ c. line) no_cards

-- what refusal 28 looks at of a card that is there, besides its vectors
abbrev pub there_valid : Model → ℕ → Bool
there_valid m c = numbers_valid limits16 m.numbers c && line_valid m c && frames_valid limits16 m c
