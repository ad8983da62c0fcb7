-- One merge over the cards' frames: the least change number ahead, and the cards brought past it.
-- Of each card `passed` is the last state met and `end` its last state.
use Rattle.std.specs.Prelude.{ℕ, zero, suc, ◌+◌, ◌-◌, ◌≤◌, ◌<◌, ◌≡◌, Bool, true, false, ◌&&◌, cond, List, eqb, ltb, get_or}
use Rattle.base_limits.specs.Document.{most_cards}
use Rattle.base_limits.specs.Ring.{ring_place}
use Rattle.base_laws.specs.Below.{any_below, tabulate}

-- the number that a list holds for card c
abbrev pub at : List ℕ → ℕ → ℕ
at l c = get_or l c 0

-- the change that made state x of card c
abbrev pub change_at : List ℕ → ℕ → ℕ → ℕ
change_at changes c x = get_or changes (ring_place c x) 0

-- the lesser of two numbers of which 0 is none
abbrev pub lesser : ℕ → ℕ → ℕ
lesser a b = cond (eqb a 0) b (cond (eqb b 0) a (cond (ltb a b) a b))

-- the least of f at the numbers below n, where 0 is none
abbrev pub least_below : ℕ → (ℕ → ℕ) → ℕ
least_below zero f = 0
least_below (suc n) f = lesser (least_below n f) (f n)

-- the last state of each of n cards; a card that is not there has none
abbrev pub ends_of : (last : List ℕ) → ℕ → List ℕ
ends_of last n = tabulate most_cards (λ c. cond (ltb c n) (at last c) 0)

-- the place of the state behind the one passed of card c
abbrev pub head_place : ℕ → ℕ → ℕ
head_place c passed = ring_place c (suc passed)

-- the number of a card's next state, and 0 where its end is passed; f gives the number of each state
abbrev pub head_number : (ℕ → ℕ) → ℕ → ℕ → ℕ
head_number f passed end = cond (ltb passed end) (f (suc passed)) 0

-- those of all cards
abbrev pub head_numbers : (changes passed ends : List ℕ) → List ℕ
head_numbers changes passed ends = tabulate most_cards (λ c. head_number (change_at changes c) (at passed c) (at ends c))

-- the least of the cards' numbers, and 0 where there is none
abbrev pub least_of : (heads : List ℕ) → ℕ
least_of heads = least_below most_cards (at heads)

-- the card brought past k: by one state where k is the number at its head
abbrev pub card_past : (passed end head k : ℕ) → ℕ
card_past passed end head k = cond (ltb passed end && eqb head k) (suc passed) passed

-- each card brought past k
abbrev pub all_past : (passed ends heads : List ℕ) → ℕ → List ℕ
all_past passed ends heads k = tabulate most_cards (λ c. card_past (at passed c) (at ends c) (at heads c) k)

-- ---- of what the laws speak

-- the numbers of a card rise from the state behind `from` to its end, and none is 0
pub record CardRises (f : ℕ → ℕ) (from end : ℕ) : Type 0 where
  pub some : (x : ℕ) → from < x → x ≤ end → 0 < f x
  pub next : (x : ℕ) → from < x → x < end → f x < f (suc x)

-- those of every card do
pub record Rises (changes from ends : List ℕ) : Type 0 where
  pub card : (c : ℕ) → c < most_cards → CardRises (change_at changes c) (at from c) (at ends c)

-- a state of the card behind `from`, up to its end, has the number k
abbrev pub card_ahead : (ℕ → ℕ) → ℕ → ℕ → ℕ → Bool
card_ahead f from end k = any_below (end - from) (λ s. eqb (f (suc (from + s))) k)

-- a state of some card has
abbrev pub ahead : (changes from ends : List ℕ) → ℕ → Bool
ahead changes from ends k = any_below most_cards (λ c. card_ahead (change_at changes c) (at from c) (at ends c) k)

-- r is the least number above k that passes the test, and 0 where there is none
pub record NextOf (p : ℕ → Bool) (k r : ℕ) : Type 0 where
  pub none : r ≡ 0 → (j : ℕ) → k < j → p j ≡ false
  pub above : (r ≡ 0 → ⊥) → k < r
  pub passes : (r ≡ 0 → ⊥) → p r ≡ true
  pub least : (j : ℕ) → k < j → j < r → p j ≡ false

-- the card has passed the numbers up to k, and no other
pub record CardPassed (f : ℕ → ℕ) (from end passed k : ℕ) : Type 0 where
  pub begun : from ≤ passed
  pub behind : (x : ℕ) → from < x → x ≤ passed → f x ≤ k
  pub before : (x : ℕ) → passed < x → x ≤ end → k < f x

-- every card has
pub record Passed (changes from ends passed : List ℕ) (k : ℕ) : Type 0 where
  pub card : (c : ℕ) → c < most_cards → CardPassed (change_at changes c) (at from c) (at ends c) (at passed c) k
