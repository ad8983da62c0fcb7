-- Document 01's "Proved samples", A to H, in one table: its histories and their outcomes. Behind them the order of lost changes, of document 02's wish 3.
use Rattle.std.specs.Prelude.{ℕ, false, ◌||◌, List, [], ◌∷◌, map, eqb, length, get_or}
use Rattle.base_laws.specs.Below.{tabulate}
use Rattle.theory_history.specs.Change.{CardSet, Change, Numbers, history_of}
use Rattle.theory_history.specs.Vector.{Entry, none, state, entry_of, state_vector}
use Rattle.theory_history.specs.Line.{line, lost_numbers}

-- the cards of a list, as a set
abbrev pub among : List ℕ → CardSet
among [] c = false
among (x ∷ xs) c = eqb x c || among xs c

-- the change of that number that reads and writes the cards listed
abbrev pub change : ℕ → List ℕ → List ℕ → Change
change number reads writes = record { number = number; reads = among reads; writes = among writes }

-- the numbers of a list, by card
abbrev pub numbers_of : List ℕ → Numbers
numbers_of l c = get_or l c 0

-- what document 01 says of a sample
pub data Outcome : Type 0 where
  -- the vector of a state of a card
  vector_is : (card number : ℕ) → List Entry → Outcome
  -- the line, for stored numbers
  line_is : (stored line : List ℕ) → Outcome
  -- the numbers of the changes lost, for stored numbers
  lost_are : (stored numbers : List ℕ) → Outcome

-- A cabinet of some cards, fresh, and the changes decided in it
pub record Sample : Type 0 where
  pub cards : ℕ
  pub changes : List Change
  pub outcomes : List Outcome

-- the line of a sample, for stored numbers
abbrev pub sample_line : Sample → List ℕ → Numbers
sample_line s stored =
    line s.cards (history_of s.changes) (λ c. 0) (length s.changes)
    (state_vector s.cards (history_of s.changes) (λ c. 0) (length s.changes)) (numbers_of stored)

-- the same question, answered by the definitions
abbrev pub worked : Sample → Outcome → Outcome
worked s (vector_is c x _) =
    vector_is c x (tabulate s.cards (λ j. entry_of (state_vector s.cards (history_of s.changes) (λ c. 0) (length s.changes) c x j)))
worked s (line_is stored _) = line_is stored (tabulate s.cards (sample_line s stored))
worked s (lost_are stored _) =
    lost_are stored (lost_numbers s.cards (history_of s.changes) (λ c. 0) (length s.changes) (sample_line s stored))

-- the sample with its outcomes answered by the definitions
abbrev pub worked_out : Sample → Sample
worked_out s = record { cards = s.cards; changes = s.changes; outcomes = map (worked s) s.outcomes }

-- "Changes 1 (writes 0), 2 (reads 0, writes 1), 3 (writes 0)"
abbrev pub three : List Change
three = change 1 [] (0 ∷ []) ∷ change 2 (0 ∷ []) (1 ∷ []) ∷ change 3 [] (0 ∷ []) ∷ []

abbrev zeros : ℕ → List ℕ
zeros n = tabulate n (λ c. 0)

abbrev pub samples : List Sample
samples =
    -- A: the three changes above
    record {
      cards = 2;
      changes = three;
      outcomes = vector_is 0 1 (state 0 ∷ none ∷ []) ∷ vector_is 0 2 (state 1 ∷ state 0 ∷ []) ∷ vector_is 1 1 (state 0 ∷ state 0 ∷ []) ∷ [];
    }
    -- B: A, stored 2, 0
    ∷ record { cards = 2; changes = three; outcomes = line_is (2 ∷ 0 ∷ []) (1 ∷ 0 ∷ []) ∷ lost_are (2 ∷ 0 ∷ []) (2 ∷ 3 ∷ []) ∷ [] }
    -- C: A, stored 1, 1
    ∷ record { cards = 2; changes = three; outcomes = line_is (1 ∷ 1 ∷ []) (1 ∷ 1 ∷ []) ∷ lost_are (1 ∷ 1 ∷ []) (3 ∷ []) ∷ [] }
    -- D: A, stored 0, 1
    ∷ record { cards = 2; changes = three; outcomes = line_is (0 ∷ 1 ∷ []) (0 ∷ 0 ∷ []) ∷ lost_are (0 ∷ 1 ∷ []) (1 ∷ 2 ∷ 3 ∷ []) ∷ [] }
    -- E: one change writes 0 and 1; only 0 took and stored
    ∷ record {
      cards = 2;
      changes = change 1 [] (0 ∷ 1 ∷ []) ∷ [];
      outcomes = line_is (1 ∷ 0 ∷ []) (0 ∷ 0 ∷ []) ∷ lost_are (1 ∷ 0 ∷ []) (1 ∷ []) ∷ [];
    }
    -- F: three cards; 1 reads 1, writes 0; 2 reads 1, writes 2; stored 0, 0, 1
    ∷ record {
      cards = 3;
      changes = change 1 (1 ∷ []) (0 ∷ []) ∷ change 2 (1 ∷ []) (2 ∷ []) ∷ [];
      outcomes = vector_is 2 1 (none ∷ none ∷ state 0 ∷ []) ∷ line_is (0 ∷ 0 ∷ 1 ∷ []) (0 ∷ 0 ∷ 1 ∷ []) ∷ [];
    }
    -- G: two cards; 1 writes 0; 2 reads 0 and 1; 3 writes 1; stored 0, 1
    ∷ record {
      cards = 2;
      changes = change 1 [] (0 ∷ []) ∷ change 2 (0 ∷ 1 ∷ []) [] ∷ change 3 [] (1 ∷ []) ∷ [];
      outcomes = vector_is 1 1 (state 0 ∷ state 0 ∷ []) ∷ line_is (0 ∷ 1 ∷ []) (0 ∷ 0 ∷ []) ∷ [];
    }
    -- H: nothing decided, all lost
    ∷ record { cards = 16; changes = []; outcomes = line_is (zeros 16) (zeros 16) ∷ lost_are (zeros 16) [] ∷ [] }
    -- two cards; 2 writes 1 and is decided before 1, which writes 0; nothing stored, then card 1, then card 0
    ∷ record {
      cards = 2;
      changes = change 2 [] (1 ∷ []) ∷ change 1 [] (0 ∷ []) ∷ [];
      outcomes = lost_are (0 ∷ 0 ∷ []) (1 ∷ 2 ∷ []) ∷ lost_are (0 ∷ 1 ∷ []) (1 ∷ []) ∷ lost_are (1 ∷ 0 ∷ []) (2 ∷ []) ∷ [];
    }
    ∷ []
