-- The recovery line by document 01's call 9, as a function of any stored numbers, and the changes lost.
use Rattle.std.specs.Prelude.{ℕ, zero, suc, ◌+◌, ◌-◌, ◌≤◌, ◌<◌, ◌≡◌, Bool, false, not, ◌&&◌, ◌||◌, cond, List, eqb, leb}
use Rattle.base_laws.specs.Below.{all_below, any_below, greatest, selected}
use Rattle.theory_history.specs.Change.{Change, History, Numbers, writers, made}
use Rattle.theory_history.specs.Vector.{Entry, none, state, entry_of, Vector}

-- the entry "is at or above" the number
abbrev pub at_or_above : Entry → ℕ → Bool
at_or_above none s = false
at_or_above (state e) s = leb s e

-- "A state is hit when some entry of its vector, for card j, is at or above stored of j." Such a state is an orphan: it depends on one that is not stored.
abbrev pub orphan : ℕ → Numbers → Vector → Bool
orphan w stored v = any_below w (λ j. at_or_above (entry_of (v j)) (stored j))

-- the greatest state from base to base + k with no orphan from base + 1 up to it
abbrev pub climb : (ℕ → Bool) → ℕ → ℕ → ℕ
climb orphans base zero = base
climb orphans base (suc k) = cond (orphans (suc base)) base (climb orphans (suc base) k)

-- x is the greatest state from base to top with no orphan from base + 1 up to it
pub record Climbed (f : ℕ → Bool) (base top x : ℕ) : Type 0 where
  pub from_base : base ≤ x
  pub to_top : x ≤ top
  pub free : (y : ℕ) → base < y → y ≤ x → f y ≡ false
  pub greatest : (z : ℕ) → base ≤ z → z ≤ top → ((y : ℕ) → base < y → y ≤ z → f y ≡ false) → z ≤ x

-- "The line of a card is its greatest state, from base to reached, with no hit from base + 1 up to it": frames are the vectors of the card's states
abbrev pub line_from : ℕ → Numbers → (ℕ → Vector) → ℕ → ℕ → ℕ
line_from w stored frames base reached = climb (λ s. orphan w stored (frames s)) base (reached - base)

-- the line of a whole history of n changes, whose states have the vectors v, for any stored numbers
abbrev pub line : ℕ → History → Numbers → ℕ → (ℕ → ℕ → Vector) → Numbers → Numbers
line w H start n v stored c = line_from w stored (v c) (start c) (start c + writers H c n)

-- the change wrote a card
abbrev pub wrote : ℕ → Change → Bool
wrote w t = any_below w (λ c. t.writes c)

-- the change is in the line: it is on every card it wrote
abbrev pub in_line : ℕ → History → Numbers → Numbers → ℕ → Bool
in_line w H start l i = all_below w (λ c. not ((H i).writes c) || leb (made H start i c) (l c))

-- "Lost: decided in this session, wrote a card, not in the line."
abbrev pub lost : ℕ → History → Numbers → Numbers → ℕ → Bool
lost w H start l i = wrote w (H i) && not (in_line w H start l i)

-- a change that is lost has the number k
abbrev pub is_lost_number : ℕ → History → Numbers → ℕ → Numbers → ℕ → Bool
is_lost_number w H start n l k = any_below n (λ i. lost w H start l i && eqb (H i).number k)

-- the numbers of the changes lost, up to the greatest of the history, as document 02's wish 3 has them: "The list of lost changes comes in rising change number."
abbrev pub lost_numbers : ℕ → History → Numbers → ℕ → Numbers → List ℕ
lost_numbers w H start n l = selected (suc (greatest n (λ i. (H i).number))) (is_lost_number w H start n l) (λ k. k)
