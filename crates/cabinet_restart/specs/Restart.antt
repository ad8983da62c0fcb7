-- The cabinet that a restart hands back, list by list.
use Rattle.std.specs.Prelude.{ℕ, ◌+◌, ◌*◌, ◌≤◌, ◌<◌, ◌≡◌, true, false, List, Ok, Err}
use Rattle.base_limits.specs.Ring.{ring_place}
use Rattle.base_limits.specs.Document.{most_cards, last_state}
use Rattle.base_laws.specs.Below.{tabulate}
use Rattle.sheet_lines.specs.Format.{formats}
use Rattle.base_refusal.specs.Reply as refusal
use Rattle.sheet_pages.specs.declared.Readout.{Readout}
use Rattle.sheet_pages.specs.Ring.{pages_of}
use Rattle.sheet_readout.specs.Joint.{readout_of}
use Rattle.theory_history.specs.Vector as history
use Rattle.theory_protocol.specs.Model.{Model}
use Rattle.theory_protocol.specs.Model as model
use Rattle.theory_protocol.specs.Plan.{Reply, reply_of}
use Rattle.theory_protocol.specs.Valid.{valid}
use Rattle.theory_codec.specs.Sheets.{joined_sheets, restarted, restart_reply, restarted_from}
use Rattle.cabinet_layout.specs.declared.Phase.{Phase}
use Rattle.cabinet_layout.specs.declared.Phase.TheVariants.{Up, Down, Rolling}
use Rattle.cabinet_layout.specs.Shape.{limits16, at, list_of, set_of, vector_for, slot_for, head_of, counted, bare, with_vectors, with_numbers, with_slots, with_line, with_writing}
use Rattle.cabinet_layout.specs.declared.Vector.{Vector}
use Rattle.cabinet_layout.specs.declared.Core.{Core}
use Rattle.cabinet.specs.declared.Cabinet.{Cabinet}
use Rattle.cabinet.specs.View.{view}
use Rattle.cabinet.specs.Fresh.{zero_cabinet, void_head}

abbrev pub phase_for : model.Phase → Phase
phase_for model.up = Up
phase_for model.down = Down
phase_for model.rolling = Rolling

-- the cabinet of n cards whose lists show a model; `entries` and `changes` are its ring of frames
abbrev pub core_of : (n : ℕ) → Model → Core
core_of n m =
    let vectors : (ℕ → history.Vector) → List Vector = λ f. tabulate limits16.width (λ c. vector_for (f c)) in
    let headed : Core = bare (counted (head_of m.session n (phase_for m.phase)) m.latest) in
    let numbered : Core = with_numbers headed (list_of m.numbers.base) (list_of m.numbers.stored) (list_of m.numbers.held) (list_of m.numbers.reached) in
    let placed : Core = with_slots numbered (tabulate limits16.slots (λ p. slot_for (m.slot p))) (tabulate limits16.slots m.ended) in
    with_writing (with_line (with_vectors placed (vectors m.memory.last) (vectors m.memory.pending)) (list_of m.line) (set_of m.rolled)) (list_of m.writing)

abbrev pub cabinet_of : (entries changes : List ℕ) (n : ℕ) → Model → Cabinet
cabinet_of entries changes n m = record { entries = entries; changes = changes; core = core_of n m }

-- the cabinet that restarts from the sheets of a read-out, whose frames stand as they were read
abbrev pub restarted_cabinet : Readout → Cabinet
restarted_cabinet r = cabinet_of r.entries r.changes r.cards (restarted limits16 (pages_of r))

-- the void cabinet where the read-out is refused
abbrev pub cabinet_for : refusal.Reply → Readout → Cabinet
cabinet_for (Ok tt) r = restarted_cabinet r
cabinet_for (Err x) r = zero_cabinet void_head

-- what a restart answers and hands back
pub record Restarted (bytes : List ℕ) (reply : Reply) (next : Cabinet) : Type 0 where
  pub answer : reply ≡ reply_of (restart_reply bytes)
  pub cabinet : next ≡ cabinet_for (restart_reply bytes) (readout_of bytes).readout

-- what an accepted read-out shows of its numbers: within the limits, and 0 of cards that are not there
pub record Within (r : Readout) : Type 0 where
  pub some : 1 ≤ r.cards
  pub few : r.cards ≤ most_cards
  pub states : (c : ℕ) → c < most_cards → at r.bases c + at r.counts c ≤ last_state
  pub no_session : (c : ℕ) → r.cards ≤ c → at r.sessions c ≡ 0
  pub no_base : (c : ℕ) → r.cards ≤ c → at r.bases c ≡ 0
  pub no_count : (c : ℕ) → r.cards ≤ c → at r.counts c ≡ 0
  pub no_entry : (c x j : ℕ) → c < r.cards → at r.bases c < x → x ≤ at r.bases c + at r.counts c → r.cards ≤ j → j < most_cards → at r.entries (ring_place c x * most_cards + j) ≡ 0

-- The cabinet behind an accepted restart shows the model that the demands speak of, is never refused with 28, and writes the very bytes that it restarted from.
pub record GoesOn (bytes : List ℕ) (next : Cabinet) : Type 0 where
  pub shows : view next ≡ restarted_from limits16 bytes
  pub passes28 : valid limits16 (view next) ≡ true
  pub writes : joined_sheets formats limits16 (view next) ≡ bytes

abbrev pub RestartGoesOn : Type 0
RestartGoesOn = (bytes : List ℕ) (reply : Reply) (next : Cabinet) → Restarted bytes reply next → restart_reply bytes ≡ Ok tt → GoesOn bytes next

-- The void cabinet behind a refused one is always refused with 28.
abbrev pub VoidRefused : Type 0
VoidRefused = valid limits16 (view (zero_cabinet void_head)) ≡ false
