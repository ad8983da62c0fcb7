-- Changes and their history, as document 01 has them ("Cards, states, changes" and "The setter's book").
-- The number of cards is a parameter, the width: a card is a number below it. A card that is not there is one that no change touches.
use Rattle.std.specs.Prelude.{ℕ, suc, ◌+◌, ◌≤◌, ◌<◌, ◌≡◌, Bool, true, false, ◌&&◌, ◌||◌, cond, List, eqb, get_or, ◌⊎◌}
use Rattle.base_laws.specs.Below.{count_below}

-- a set of cards
abbrev pub CardSet : Type 0
CardSet = ℕ → Bool

-- "A change has a read set and a write set; a card in both counts as written." Its number is the one given at its opening.
pub record Change : Type 0 where
  pub number : ℕ
  pub reads : CardSet
  pub writes : CardSet

-- the cards that a change touches
abbrev pub touches : Change → CardSet
touches t c = t.reads c || t.writes c

-- "both touch a card that at least one wrote"
abbrev pub meets : Change → Change → CardSet
meets s t c = touches s c && touches t c && (s.writes c || t.writes c)

-- A history is the decided changes by their position, from 0, in the order of their decisions. How many there are is a number of its own.
abbrev pub History : Type 0
History = ℕ → Change

-- no change
abbrev pub no_change : Change
no_change = record { number = 0; reads = λ c. false; writes = λ c. false }

-- the changes of a list, as a history
abbrev pub history_of : List Change → History
history_of l i = get_or l i no_change

-- a number for each card: start numbers, stored numbers, a line
abbrev pub Numbers : Type 0
Numbers = ℕ → ℕ

-- how many of the first n changes wrote card c
abbrev pub writers : History → ℕ → ℕ → ℕ
writers H c n = count_below n (λ i. (H i).writes c)

-- the state in which change i finds card c: "session-start number plus its count of writers"
abbrev pub found : History → Numbers → ℕ → ℕ → ℕ
found H start i c = start c + writers H c i

-- the state that change i makes on a card c that it writes
abbrev pub made : History → Numbers → ℕ → ℕ → ℕ
made H start i c = suc (found H start i c)

-- "A change precedes a later one of the history when both touch a card that at least one wrote, or by a chain of such pairs."
pub data Precedes (w : ℕ) (H : History) : ℕ → ℕ → Type 0 where
  direct : {k i : ℕ} (c : ℕ) → c < w → k < i → meets (H k) (H i) c ≡ true → Precedes w H k i
  chain : {k m i : ℕ} → Precedes w H k m → Precedes w H m i → Precedes w H k i

-- of two of the first n changes that meet on a card the earlier has the lower number
abbrev pub NumbersRise : ℕ → History → ℕ → Type 0
NumbersRise w H n = (i k c : ℕ) → i < k → k < n → c < w → meets (H i) (H k) c ≡ true → (H i).number < (H k).number

-- k is i, or precedes it
abbrev pub UpTo : ℕ → History → ℕ → ℕ → Type 0
UpTo w H k i = (k ≡ i) ⊎ Precedes w H k i

-- A set of the first n changes that "holds with each change all that precede it"
abbrev pub Closed : ℕ → History → ℕ → (ℕ → Bool) → Type 0
Closed w H n P = (i : ℕ) → i < n → P i ≡ true → (k : ℕ) → Precedes w H k i → P k ≡ true

-- how many of the first n changes are in the set P and wrote card c
abbrev pub writers_in : (ℕ → Bool) → History → ℕ → ℕ → ℕ
writers_in P H c n = count_below n (λ i. P i && (H i).writes c)

-- "a set of changes leaves a card at its session-start number plus its count of writers in the set"
abbrev pub left : (ℕ → Bool) → History → Numbers → ℕ → Numbers
left P H start n c = start c + writers_in P H c n

-- what a set of the first n changes leaves that "holds with each change all that precede it"
pub record ConsistentCut (w : ℕ) (H : History) (start : Numbers) (n : ℕ) (g : Numbers) : Type 0 where
  pub set : ℕ → Bool
  pub closed : Closed w H n set
  pub leaves : (c : ℕ) → c < w → g c ≡ left set H start n c

-- Document 01's choice, here a cut: "what a set from the history leaves .., if it holds with each change all that precede it and puts no card above stored"
pub record Cut (w : ℕ) (H : History) (start : Numbers) (n : ℕ) (stored g : Numbers) : Type 0 where
  pub consistent : ConsistentCut w H start n g
  pub within : (c : ℕ) → c < w → g c ≤ stored c

-- "A change is on a card it wrote when start plus that card's writers up to and with it is at most the line."
abbrev pub On : History → Numbers → Numbers → ℕ → ℕ → Type 0
On H start line i c = made H start i c ≤ line c

-- the history H with the change t decided after its first n
abbrev pub appended : History → ℕ → Change → History
appended H n t i = cond (eqb i n) t (H i)
