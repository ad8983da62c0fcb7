-- The writers of one card: each makes the next state, each state has one maker, and makers come in the order of the states. Assumes nothing.
use Prim.Native.Nat.{ℕ, zero, suc, ◌+◌, ◌≤◌, ◌<◌}
use mathlib.Core.Path.{◌≡◌, ap}
use mathlib.Core.Bool.{true, false}
use mathlib.Core.Logic.{by_cases}
use native.Mathlib.Nat.{lt-suc_self, le_step}
use native.Mathlib.Decide.{dec_le, dec_lt, ℕ_discrete}
use native.Mathlib.Omega.{arith}
use Rattle.base_laws.specs.Below.{one_if}
use Rattle.base_laws.proofs.Logic.{test, clash}
use Rattle.base_laws.proofs.Below.{count_mono}
use Rattle.theory_history.specs.Change.{History, Numbers, writers, found, made}

-- a change below n that makes state x of card c
pub record Maker (H : History) (start : Numbers) (n c x : ℕ) : Type 0 where
  pub at : ℕ
  pub in_history : at < n
  pub wrote : (H at).writes c ≡ true
  pub makes : made H start at c ≡ x

module _ (H : History) (start : Numbers) where
  pub writers_mono : (c : ℕ) {i k : ℕ} → i ≤ k → writers H c i ≤ writers H c k
  writers_mono c {i} {k} h = count_mono i k (λ j. (H j).writes c) h

  pub writers_step : (c i : ℕ) → (H i).writes c ≡ true → writers H c (suc i) ≡ suc (writers H c i)
  writers_step c i e = let z : one_if ((H i).writes c) ≡ 1 = ap one_if e in omega arith

  pub writers_same : (c i : ℕ) → (H i).writes c ≡ false → writers H c (suc i) ≡ writers H c i
  writers_same c i e = let z : one_if ((H i).writes c) ≡ 0 = ap one_if e in omega arith

  -- what a change made on a card, later changes find there or passed
  pub made_found : (c : ℕ) {i k : ℕ} → i < k → (H i).writes c ≡ true → made H start i c ≤ found H start k c
  made_found c {i} {k} h e = omega (arith, writers_mono c {i = suc i} {k = k} h, writers_step c i e)

  pub found_mono : (c : ℕ) {i k : ℕ} → i ≤ k → found H start i c ≤ found H start k c
  found_mono c {i} {k} h = omega (arith, writers_mono c {i = i} {k = k} h)

  -- each state above the start has its maker
  pub maker : (n c x : ℕ) → start c < x → x ≤ start c + writers H c n → Maker H start n c x
  maker zero c x l h = absurd (omega arith)
  maker (suc n) c x l h =
      by_cases (dec_le x (start c + writers H c n)) (λ g. older (maker n c x l g))
      (λ g. test ((H n).writes c) (newer g) (λ e. absurd (omega (arith, writers_same c n e, g))))
    where
      older : Maker H start n c x → Maker H start (suc n) c x
      older m = record { at = m.at; in_history = le_step m.in_history; wrote = m.wrote; makes = m.makes }

      newer : ¬ (x ≤ start c + writers H c n) → (H n).writes c ≡ true → Maker H start (suc n) c x
      newer g e = record { at = n; in_history = lt-suc_self n; wrote = e; makes = omega (arith, writers_step c n e) }

  -- makers come in the order of their states
  pub makers_order : (c : ℕ) {i k : ℕ} → (H i).writes c ≡ true → (H k).writes c ≡ true → made H start i c ≤ made H start k c → i ≤ k
  makers_order c {i = i} {k = k} ei ek h =
      by_cases (dec_le i k) (λ l. l) (λ l. absurd (omega (arith, made_found c {i = k} {k = i} (omega arith) ek)))

  pub one_maker : (c : ℕ) {i k : ℕ} → (H i).writes c ≡ true → (H k).writes c ≡ true → found H start i c ≡ found H start k c → i ≡ k
  one_maker c {i} {k} ei ek h =
      omega (arith, makers_order c {i = i} {k = k} ei ek (omega arith), makers_order c {i = k} {k = i} ek ei (omega arith))

  -- the maker of the state that change i finds, where an earlier change k wrote the card: not before k
  pub last_writer : (c : ℕ) {k i : ℕ} → k < i → (H k).writes c ≡ true → (m : Maker H start i c (found H start i c)) × (k ≤ m.at)
  last_writer c {k} {i} h e =
      let m : Maker H start i c (found H start i c) = maker i c (found H start i c) (omega (arith, made_found c h e)) (omega arith) in
      (m, makers_order c {i = k} {k = m.at} e m.wrote (omega (arith, made_found c h e, m.makes)))

  -- the change that overwrites the state that change k found and did not write, where a later change i writes the card: not after i
  pub next_writer : (c : ℕ) {k i : ℕ} → k < i → (H k).writes c ≡ false → (H i).writes c ≡ true
      → (m : Maker H start (suc i) c (made H start k c)) × (k < m.at)
  next_writer c {k} {i} h ek ei = (m, after_k)
    where
      m : Maker H start (suc i) c (made H start k c)
      m = maker (suc i) c (made H start k c) (omega arith) (omega (arith, writers_step c i ei, writers_mono c {i = k} {k = i} (omega arith)))

      after_k : k < m.at
      after_k =
          by_cases (dec_lt k m.at) (λ l. l)
          (λ l. by_cases (ℕ_discrete m.at k) (λ (q : m.at ≡ k). clash (rw q at m.wrote) ek)
          (λ q. absurd (omega (arith, made_found c {i = m.at} {k = k} (omega arith) m.wrote, m.makes))))
