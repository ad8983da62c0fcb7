-- Sets of cards as tests: a card is in the set where the test passes. Every word here is over any width.
use Rattle.std.specs.Prelude.{ℕ, Bool, not, ◌&&◌, ◌||◌, eqb, ltb}
use Rattle.base_laws.specs.Below.{all_below}

-- the cards of p or of q
abbrev pub either : (ℕ → Bool) → (ℕ → Bool) → ℕ → Bool
either p q i = p i || q i

-- the cards of p and of q
abbrev pub both : (ℕ → Bool) → (ℕ → Bool) → ℕ → Bool
both p q i = p i && q i

-- the cards of p that are not in q
abbrev pub except : (ℕ → Bool) → (ℕ → Bool) → ℕ → Bool
except p q i = p i && not (q i)

-- the card c alone
abbrev pub one : ℕ → ℕ → Bool
one c i = eqb i c

-- every card below n
abbrev pub below : ℕ → ℕ → Bool
below n i = ltb i n

-- the cards of p that a set of width w has room for: those below w
abbrev pub truncate : ℕ → (ℕ → Bool) → ℕ → Bool
truncate w p = both (below w) p

-- of the cards below w, every card of p is in q
abbrev pub subset : ℕ → (ℕ → Bool) → (ℕ → Bool) → Bool
subset w p q = all_below w (λ i. not (p i) || q i)

-- of the cards below w, p has none at or above n
abbrev pub inside : ℕ → ℕ → (ℕ → Bool) → Bool
inside w n p = subset w p (below n)
