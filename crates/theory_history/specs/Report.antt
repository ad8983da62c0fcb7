-- Definitions 1 to 3 of EPFL IC/2005/017, as the report has them. A transaction is a change, by its position in the history; a server is a card.
-- A state is written with its card and its number: the report's σ with index c and exponent γ is `c γ` here.
use Rattle.std.specs.Prelude.{ℕ, suc, ◌+◌, ◌≤◌, ◌<◌, ◌≡◌, true, ◌⊎◌}
use Rattle.theory_history.specs.Change.{History, Numbers, touches, writers, found}

-- RW(t): "the set of server states accessed by transaction t"
abbrev pub RW : History → Numbers → ℕ → ℕ → ℕ → Type 0
RW H start t c γ = (touches (H t) c ≡ true) × (γ ≡ found H start t c)

-- W(t): "the set of server states updated by t"
abbrev pub W : History → Numbers → ℕ → ℕ → ℕ → Type 0
W H start t c γ = ((H t).writes c ≡ true) × (γ ≡ found H start t c)

-- R(t) = RW(t) \ W(t): "the set of server states read by t"
abbrev pub R : History → Numbers → ℕ → ℕ → ℕ → Type 0
R H start t c γ = RW H start t c γ × ¬ (W H start t c γ)

-- Definition 1. Transaction t precedes t'. (The report's γ − 1 and γ are γ and γ + 1 here.)
pub data Before (w : ℕ) (H : History) (start : Numbers) : ℕ → ℕ → Type 0 where
  clause_a : {t t' : ℕ} (c γ : ℕ) → c < w → W H start t c γ → RW H start t' c (suc γ) → Before w H start t t'
  clause_b : {t t' : ℕ} (c γ : ℕ) → c < w → R H start t c γ → W H start t' c γ → Before w H start t t'
  clause_c : {t t'' t' : ℕ} → Before w H start t t'' → Before w H start t'' t' → Before w H start t t'

-- Definition 2. State α of card a precedes state β of card b, in a history of n transactions.
pub record StateBefore (w : ℕ) (H : History) (start : Numbers) (n a α b β : ℕ) : Type 0 where
  -- (a) a transaction t updated the first
  pub t : ℕ
  pub t_in : t < n
  pub updated : W H start t a α
  -- (b) a transaction t' made the second
  pub t' : ℕ
  pub t'_in : t' < n
  pub created : (γ : ℕ) × (β ≡ suc γ) × W H start t' b γ
  -- (c)
  pub order : (t ≡ t') ⊎ Before w H start t t'

-- Definition 3. The global state g "represents the database state after the serial execution of an ordered set of transactions T = (t₁, .., tₗ)".
-- The states after the serial execution of T are those that the history T leaves.
pub record Consistent (w : ℕ) (H : History) (start : Numbers) (n : ℕ) (g : Numbers) : Type 0 where
  pub l : ℕ
  pub T : ℕ → ℕ
  -- T is a set: no transaction stands in it twice
  pub distinct : (x y : ℕ) → x < l → y < l → T x ≡ T y → x ≡ y
  pub represents : (c : ℕ) → c < w → g c ≡ start c + writers (λ x. H (T x)) c l
  -- (a) all are transactions of the history. The report says "non-aborted persistent transactions in H": a history has decided changes alone, and which of them persist is
  -- what a recovery finds out, so any of them may be in T
  pub clause_a : (x : ℕ) → x < l → T x < n
  -- (b) with t all that precede it
  pub clause_b : (x : ℕ) → x < l → (t' : ℕ) → Before w H start t' (T x) → (y : ℕ) × (y < l) × (T y ≡ t')
  -- (c) in a correct order
  pub clause_c : (x y : ℕ) → x < l → y < l → Before w H start (T x) (T y) → x < y

-- "A global state .. is a set composed of a local state for each database server": of each card a state that the history made, or the first.
abbrev pub Global : ℕ → History → Numbers → ℕ → Numbers → Type 0
Global w H start n g = (c : ℕ) → c < w → (start c ≤ g c) × (g c ≤ start c + writers H c n)

-- Theorem 2's line: of each card the greatest state that no last stable state precedes
pub record RecoveryLine (w : ℕ) (H : History) (start : Numbers) (n : ℕ) (last r : Numbers) : Type 0 where
  pub global : Global w H start n r
  pub unpreceded : (i j : ℕ) → i < w → j < w → ¬ (StateBefore w H start n j (last j) i (r i))
  pub maximum : (i k : ℕ) → i < w → start i ≤ k → k ≤ start i + writers H i n
      → ((j : ℕ) → j < w → ¬ (StateBefore w H start n j (last j) i k)) → k ≤ r i
