-- The greatest state made on a card by the changes of a set: the algebra by which vectors are shown to be right. Assumes nothing.
use Prim.Native.Nat.{ℕ, ◌≤◌, ◌<◌, max}
use mathlib.Core.Path.{◌≡◌, sym, ◌∙◌}
use mathlib.Core.Bool.{true}
use mathlib.Core.Logic.{◌⊎◌, inl, inr, by_cases, ⊎_elim}
use native.Mathlib.Nat.{not-suc-le-zero, le_trans, le-max_left, le-max_right, max-eq_left, max-eq_right, le_of_lt, lt_of_not-le}
use native.Mathlib.Decide.{dec_le, dec_lt}
use native.Mathlib.Omega.{arith}
use Rattle.theory_history.specs.Change.{History, Numbers, made}

-- a change of the set Q that makes state v of card j
abbrev pub Makes : History → Numbers → (ℕ → Type 0) → ℕ → ℕ → Type 0
Makes H start Q j v = (t : ℕ) × Q t × ((H t).writes j ≡ true) × (made H start t j ≡ v)

-- v is the greatest state made on card j by a change of the set Q, and 0 where none makes one
pub record Greatest (H : History) (start : Numbers) (Q : ℕ → Type 0) (j v : ℕ) : Type 0 where
  pub above : (t : ℕ) → Q t → (H t).writes j ≡ true → made H start t j ≤ v
  pub met : 0 < v → Makes H start Q j v

module _ {H : History} {start : Numbers} where
  pub greatest_none : {Q : ℕ → Type 0} (j : ℕ) → ((t : ℕ) → Q t → ⊥) → Greatest H start Q j 0
  greatest_none j f = record { above = λ t q e. absurd (f t q); met = λ h. absurd (not-suc-le-zero h) }

  -- the same changes
  pub greatest_of : {P Q : ℕ → Type 0} {j v : ℕ} → ((t : ℕ) → P t → Q t) → ((t : ℕ) → Q t → P t) → Greatest H start P j v → Greatest H start Q j v
  greatest_of {P} {Q} {j} {v} f g r =
      record { above = λ t q e. r.above t (g t q) e; met = λ h. move (r.met h) }
    where
      move : Makes H start P j v → Makes H start Q j v
      move m = (m.0, f m.0 m.1, m.2, m.3)

  -- the changes of either set
  pub greatest_either : {P Q : ℕ → Type 0} {j u v : ℕ} → Greatest H start P j u → Greatest H start Q j v → Greatest H start (λ t. P t ⊎ Q t) j (max u v)
  greatest_either {P} {Q} {j} {u} {v} r s =
      record {
        above = λ t q e. ⊎_elim (λ (p : P t). le_trans (r.above t p e) (le-max_left u v)) (λ (p : Q t). le_trans (s.above t p e) (le-max_right u v)) q;
        met = λ h. by_cases (dec_le v u) (λ l. first l (r.met (rw (max-eq_left l) at h))) (λ l. second (le_of_lt (lt_of_not-le l)) (s.met (rw (max-eq_right (le_of_lt (lt_of_not-le l))) at h)));
      }
    where
      first : v ≤ u → Makes H start P j u → Makes H start (λ t. P t ⊎ Q t) j (max u v)
      first l m = (m.0, inl m.1, m.2, m.3 ∙ sym (max-eq_left l))

      second : u ≤ v → Makes H start Q j v → Makes H start (λ t. P t ⊎ Q t) j (max u v)
      second l m = (m.0, inr m.1, m.2, m.3 ∙ sym (max-eq_right l))

  pub greatest_mono : {P Q : ℕ → Type 0} {j u v : ℕ} → ((t : ℕ) → P t → Q t) → Greatest H start P j u → Greatest H start Q j v → u ≤ v
  greatest_mono {P} {Q} {j} {u} {v} f r s =
      by_cases (dec_lt 0 u) (λ h. bound (r.met h)) (λ h. omega (arith, h))
    where
      bound : Makes H start P j u → u ≤ v
      bound m = omega (arith, s.above m.0 (f m.0 m.1) m.2, m.3)

  -- there is only one
  pub greatest_unique : {Q : ℕ → Type 0} {j u v : ℕ} → Greatest H start Q j u → Greatest H start Q j v → u ≡ v
  greatest_unique r s = omega (arith, greatest_mono (λ t q. q) r s, greatest_mono (λ t q. q) s r)
