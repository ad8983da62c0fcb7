-- Refusal 10 by one merge over the sheets' frames: at each change number the vectors of the cards that have it at their heads are compared.
use Rattle.std.specs.Prelude.{ℕ, ◌+◌, ◌*◌, ◌≤◌, ◌<◌, Bool, false, not, ◌&&◌, cond, List, eqb, ltb, get_or}
use Rattle.base_limits.specs.Document.{most_cards, last_state}
use Rattle.base_laws.specs.Below.{all_below, any_below, first_below, tabulate}
use Rattle.base_merge.specs.Merge.{at, ends_of, head_place, Rises}
use Rattle.sheet_pages.specs.declared.Readout.{Readout}

-- the state that each card has stored: base plus the count of its frames
abbrev pub stored_numbers : (bases counts : List ℕ) → List ℕ
stored_numbers bases counts = tabulate most_cards (λ c. at bases c + at counts c)

-- what the lines of an accepted read-out leave: state numbers within the limits, change numbers that rise
pub record Orderly (changes bases counts : List ℕ) (n : ℕ) : Type 0 where
  pub states : (c : ℕ) → c < most_cards → at bases c + at counts c ≤ last_state
  pub rises : Rises changes bases (ends_of (stored_numbers bases counts) n)

-- the vectors at two places have the same n entries
abbrev pub same_entries : List ℕ → ℕ → ℕ → ℕ → Bool
same_entries entries n p q = all_below n (λ k. eqb (get_or entries (p * most_cards + k) 0) (get_or entries (q * most_cards + k) 0))

-- a card at whose head the change k stands has another vector there than place p
abbrev pub head_differs : (entries heads passed : List ℕ) → (n k p c : ℕ) → Bool
head_differs entries heads passed n k p c = eqb (at heads c) k && not (same_entries entries n (head_place c (at passed c)) p)

-- the first card at whose head the change k stands, and 16 where there is none
abbrev pub first_with : (heads : List ℕ) → ℕ → ℕ
first_with heads k = first_below most_cards (λ c. eqb (at heads c) k)

-- two cards at whose heads the change k stands have two vectors there: one has another than the first of them
abbrev pub heads_differ : (entries heads passed : List ℕ) → (n k : ℕ) → Bool
heads_differ entries heads passed n k =
    cond (ltb (first_with heads k) most_cards) (any_below most_cards (head_differs entries heads passed n k (head_place (first_with heads k) (at passed (first_with heads k))))) false

-- a read-out of these lists, of n cards
abbrev pub lists_read : (changes entries sessions bases counts : List ℕ) → ℕ → Readout
lists_read changes entries sessions bases counts n =
    record { changes = changes; entries = entries; sessions = sessions; bases = bases; counts = counts; cards = n }
