-- Dependency vectors, as document 01's call 3 works them out, left to right over the history.
use Rattle.std.specs.Prelude.{ℕ, zero, suc, ◌+◌, ◌≤◌, ◌<◌, max, cond, eqb}
use Rattle.base_laws.specs.Below.{greatest}
use Rattle.theory_history.specs.Change.{Change, History, Numbers, writers}
use Rattle.theory_history.specs.Report.{StateBefore}

-- Document 01's entry: "a state number 0 to 59,999, or none". The greatest number is a limit of the cabinet, not of the theory.
pub data Entry : Type 0 where
  none : Entry
  state : ℕ → Entry

-- An entry is held as a dependency, the least state that must be kept: 0 for none, and a state's number plus one otherwise.
-- So "none is below every number" is the order of numbers.
abbrev pub entry_of : ℕ → Entry
entry_of zero = none
entry_of (suc s) = state s

abbrev pub dependency_of : Entry → ℕ
dependency_of none = 0
dependency_of (state s) = suc s

-- a vector: a dependency for each card
abbrev pub Vector : Type 0
Vector = ℕ → ℕ

-- the vector with all entries none
abbrev pub no_entries : Vector
no_entries j = 0

-- the greater of two vectors, entry by entry
abbrev pub joined : Vector → Vector → Vector
joined u v j = max (u j) (v j)

-- the vector v with the entry for card c set to state s
abbrev pub with_own : ℕ → ℕ → Vector → Vector
with_own c s v j = cond (eqb j c) (dependency_of (state s)) (v j)

-- What is tracked of the cards, by card: the state reached, "two vectors .., the last and the pending", and the vector of each state that was made.
pub record Tracked : Type 0 where
  pub reached : Numbers
  pub last : ℕ → Vector
  pub pending : ℕ → Vector
  pub frame : ℕ → ℕ → Vector

-- "of a card only read, its last; of a written card, its pending with its own entry set to the state overwritten"
abbrev pub share : Tracked → Change → ℕ → Vector
share h t c =
    cond (t.writes c) (with_own c (h.reached c) (h.pending c)) (cond (t.reads c) (h.last c) no_entries)

-- "The vector is the greatest, entry by entry, over all touched cards as they stood at the decision"
abbrev pub vector_of : ℕ → Tracked → Change → Vector
vector_of w h t j = greatest w (λ c. share h t c j)

-- Every touched card takes its share of the change t, whose vector is v: "A written card goes up by one state, whose vector becomes its last and its pending.
-- A card only read raises its pending entry by entry."
abbrev pub taken : Tracked → Change → Vector → Tracked
taken h t v =
    record {
      reached = λ c. cond (t.writes c) (suc (h.reached c)) (h.reached c);
      last = λ c. cond (t.writes c) v (h.last c);
      pending = λ c. cond (t.writes c) v (cond (t.reads c) (joined (h.pending c) v) (h.pending c));
      frame = λ c s. cond (t.writes c) (cond (eqb s (suc (h.reached c))) v (h.frame c s)) (h.frame c s);
    }

-- "all entries are none": how a session starts
abbrev pub fresh : Numbers → Tracked
fresh start =
    record { reached = start; last = λ c. no_entries; pending = λ c. no_entries; frame = λ c s. no_entries }

-- what is tracked after the first n changes of the history
abbrev pub after : ℕ → History → Numbers → ℕ → Tracked
after w H start zero = fresh start
after w H start (suc n) = taken (after w H start n) (H n) (vector_of w (after w H start n) (H n))

-- the vector of change i
abbrev pub vector : ℕ → History → Numbers → ℕ → Vector
vector w H start i = vector_of w (after w H start i) (H i)

-- the vector of state s of card c, after n changes
abbrev pub state_vector : ℕ → History → Numbers → ℕ → ℕ → ℕ → Vector
state_vector w H start n c s = (after w H start n).frame c s

-- the entry for card j of state x of card c is "its last state that precedes", by Definition 2, "or none"
abbrev pub LastPreceding : ℕ → History → Numbers → ℕ → ℕ → ℕ → ℕ → Entry → Type 0
LastPreceding w H start n c x j none = (α : ℕ) → ¬ (StateBefore w H start n j α c x)
LastPreceding w H start n c x j (state α) = StateBefore w H start n j α c x × ((α' : ℕ) → StateBefore w H start n j α' c x → α' ≤ α)

-- v gives each state that the history made its vector: "for every card its last state that precedes, or none"
abbrev pub IsVector : ℕ → History → Numbers → ℕ → (ℕ → ℕ → Vector) → Type 0
IsVector w H start n v =
    (c x j : ℕ) → c < w → j < w → start c < x → x ≤ start c + writers H c n → LastPreceding w H start n c x j (entry_of (v c x j))
