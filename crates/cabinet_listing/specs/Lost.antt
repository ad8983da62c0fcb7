-- The changes lost, met one after the other by a merge.
use Rattle.std.specs.Prelude.{ℕ, suc, ◌+◌, ◌-◌, ◌<◌, ◌≡◌, Bool, false, not, ◌&&◌, ◌||◌, cond, List, eqb, ltb, length}
use Rattle.std.proofs.lemmas.List.Edits.{sets}
use Rattle.base_limits.specs.Document.{most_cards}
use Rattle.base_laws.specs.Below.{any_below, selected}
use Rattle.base_merge.specs.Merge.{lesser, least_below, least_of}
use Rattle.cabinet_layout.specs.Shape.{at, ring_change}

-- the numbers that pass the test, each once, in rising order
pub record Rising (p : ℕ → Bool) (xs : List ℕ) : Type 0 where
  pub top : ℕ
  pub so : xs ≡ selected (suc top) p (λ k. k)
  pub end : (j : ℕ) → top < j → p j ≡ false

-- there are so many, and they stand at the beginning of a list, as far as it has places; the other places keep what they held
pub record Listed (p : ℕ → Bool) (before after : List ℕ) (n : ℕ) : Type 0 where
  pub list : List ℕ
  pub rising : Rising p list
  pub count : n ≡ length list
  pub stored : after ≡ sets before 0 list

-- a number above k, and 0 for another
abbrev pub number_above : ℕ → ℕ → ℕ
number_above x k = cond (ltb k x) x 0

-- the least number above k in the list of the changes ended, and 0 where there is none
abbrev pub least_ended : (ended : List ℕ) → ℕ → ℕ
least_ended ended k = least_below 8 (λ p. number_above (at ended p) k)

-- the number that comes next: the least at the heads of the cards or, above k, among the changes ended
abbrev pub next_lost : (heads ended : List ℕ) → ℕ → ℕ
next_lost heads ended k = lesser (least_of heads) (least_ended ended k)

-- card c has a frame above the number x, up to reached, that change k made
abbrev pub framed_by : (changes : List ℕ) → (c x reached k : ℕ) → Bool
framed_by changes c x reached k = any_below (reached - x) (λ s. eqb (ring_change changes c (suc (x + s))) k)

-- some card of the cabinet has a frame above its number that change k made
abbrev pub some_framed : (changes numbers reached : List ℕ) → (cards k : ℕ) → Bool
some_framed changes numbers reached cards k = any_below most_cards (λ c. ltb c cards && framed_by changes c (at numbers c) (at reached c) k)

-- a loss ended the change k with a written share untaken
abbrev pub ended_by : List ℕ → ℕ → Bool
ended_by ended k = any_below 8 (λ p. eqb (at ended p) k)

-- the change k is lost: it has a frame above the line, or it ended with a written share untaken
abbrev pub lost_by : (changes line reached ended : List ℕ) → (cards : ℕ) → ℕ → Bool
lost_by changes line reached ended cards k = not (eqb k 0) && (some_framed changes line reached cards k || ended_by ended k)
