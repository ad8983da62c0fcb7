-- The invariant between a cabinet and the journal in the phases up and down. Assumes nothing.
use Prim.Native.Nat.{ℕ, ◌+◌, ◌≤◌, ◌<◌}
use mathlib.Core.Path.{◌≡◌}
use mathlib.Core.Bool.{true, false}
use lib.ListN.{length}
use Rattle.theory_history.specs.Change.{CardSet, History, Numbers, touches, writers, NumbersRise, history_of}
use Rattle.theory_history.proofs.Appending.{Agree}
use Rattle.theory_protocol.specs.Model.{Limits, Phase, is_up, is_down, is_rolling, StateNumbers, OpenChange, Model, is_open, decided}
use Rattle.theory_protocol.specs.Journal.{Journal, unfixed}
use Rattle.theory_protocol.proofs.Taking.{Took, Orderly, Levels, Tracks, Framed, Based}
use Rattle.theory_protocol.proofs.Places.{Open, Standing}

-- the numbers of the history: given, each once, and rising where changes meet
pub record Numbered (w : ℕ) (H : History) (n latest : ℕ) : Type 0 where
  pub positive : (i : ℕ) → i < n → 0 < (H i).number
  pub given : (i : ℕ) → i < n → (H i).number ≤ latest
  pub distinct : (i k : ℕ) → i < k → k < n → ¬ ((H i).number ≡ (H k).number)
  pub rising : NumbersRise w H n

-- an open slot that stands for position i
pub record StandsFor (L : Limits) (place : ℕ → OpenChange) (at : ℕ → ℕ) (i : ℕ) : Type 0 where
  pub p : ℕ
  pub is_slot : p < L.slots
  pub is_open_lem : is_open (place p) ≡ true
  pub is_decided : decided L (place p) ≡ true
  pub is_at : at p ≡ i

-- a slot of the ended changes that remembers number k
pub record Remembers (L : Limits) (ended : ℕ → ℕ) (k : ℕ) : Type 0 where
  pub p : ℕ
  pub is_slot : p < L.slots
  pub is_number : ended p ≡ k

-- a change of the history with number k and a written share untaken
pub record Unfinished (w : ℕ) (H : History) (n : ℕ) (took : Took) (k : ℕ) : Type 0 where
  pub i : ℕ
  pub in_history : i < n
  pub c : ℕ
  pub is_card_lem : c < w
  pub wrote : (H i).writes c ≡ true
  pub untaken : took i c ≡ false
  pub is_number : (H i).number ≡ k

-- what holds of a history that has the journal's changes
pub record About (L : Limits) (m : Model) (start : Numbers) (n : ℕ) (took : Took) (at : ℕ → ℕ) (H : History) : Type 0 where
  pub orderly : Orderly L.width H n took
  pub levels : Levels L.width H start n took m.numbers.reached
  pub tracks : Tracks L.width H start n took m.memory.last m.memory.pending
  pub framed : Framed L.width H start n m.numbers.base m.numbers.reached m.memory.change m.memory.frame
  pub based : Based L.width H start n m.numbers.base
  pub numbered : Numbered L.width H n m.latest
  pub bounded : (c : ℕ) → c < L.width → start c + writers H c n ≤ L.greatest_state
  pub there : (i c : ℕ) → i < n → c < L.width → touches (H i) c ≡ true → m.present c ≡ true
  pub standing : Standing L H start n took at m.slot
  pub open_untaken : is_up m.phase ≡ true → (i c : ℕ) → i < n → c < L.width → touches (H i) c ≡ true → took i c ≡ false → StandsFor L m.slot at i
  pub ended_untaken : is_down m.phase ≡ true → (i c : ℕ) → i < n → c < L.width → (H i).writes c ≡ true → took i c ≡ false → Remembers L m.ended (H i).number
  pub ended_real : is_down m.phase ≡ true → (p : ℕ) → p < L.slots → ¬ (m.ended p ≡ 0) → Unfinished L.width H n took (m.ended p)

-- base ≤ stored ≤ held ≤ reached ≤ base + 48, from the start number; all held in phase up
pub record Ranges (L : Limits) (phase : Phase) (start : Numbers) (x : StateNumbers) : Type 0 where
  pub from_start : (c : ℕ) → c < L.width → start c ≤ x.base c
  pub base_stored : (c : ℕ) → c < L.width → x.base c ≤ x.stored c
  pub stored_held : (c : ℕ) → c < L.width → x.stored c ≤ x.held c
  pub held_reached : (c : ℕ) → c < L.width → x.held c ≤ x.reached c
  pub in_hand_lem : (c : ℕ) → c < L.width → x.reached c ≤ x.base c + L.in_hand
  pub all_held : is_up phase ≡ true → (c : ℕ) → c < L.width → x.held c ≡ x.reached c

-- the cabinet has a card, and none beyond the width; and there is a session
pub record Carded (L : Limits) (present : CardSet) : Type 0 where
  pub one : ℕ
  pub is_card_lem : one < L.width
  pub is_there : present one ≡ true
  pub none_beyond : present L.width ≡ false
  pub some_session : 0 < L.greatest_number

pub record Running (L : Limits) (m : Model) (j : Journal) : Type 0 where
  pub took : Took
  pub at : ℕ → ℕ
  pub not_rolling : is_rolling m.phase ≡ false
  pub session_given : 0 < m.session
  pub session_fits : m.session ≤ L.greatest_number
  pub count_given : m.latest ≤ L.greatest_number
  pub carded : Carded L m.present
  pub ranges : Ranges L m.phase j.start m.numbers
  pub stored_is : (c : ℕ) → c < L.width → j.stored c ≡ m.numbers.stored c
  pub not_fixed : j.fix ≡ unfixed
  pub slots_open : Open L m.present m.numbers.base m.numbers.reached m.latest j.undecided m.slot
  pub slots_down : is_down m.phase ≡ true → (p : ℕ) → p < L.slots → is_open (m.slot p) ≡ false
  pub about : (H : History) → Agree (history_of j.history) H (length j.history) → About L m j.start (length j.history) took at H
