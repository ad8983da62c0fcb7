-- In a set closed under precedence the writers of a card are the first ones of that card. Assumes nothing.
use Prim.Native.Nat.{ℕ, ◌+◌, ◌≤◌, ◌<◌}
use mathlib.Core.Path.{◌≡◌}
use mathlib.Core.Bool.{Bool, true, false, ◌&&◌}
use mathlib.Core.Logic.{inl, by_cases}
use native.Mathlib.Decide.{dec_lt, ℕ_discrete}
use native.Mathlib.Omega.{arith}
use Rattle.base_laws.proofs.Logic.{test, clash, and_left, and_right, and_intro, fails, same_test}
use Rattle.base_laws.proofs.Below.{count_same, count_imp, count_rest, count_past}
use Rattle.theory_history.specs.Change.{History, Numbers, writers, made, Precedes, direct, Closed, writers_in, left}
use Rattle.theory_history.proofs.Writers.{Maker, maker}
use Rattle.theory_history.proofs.Precedence.{writes_touches, meets_intro}

-- of two writers of one card the earlier precedes the later
pub writers_precede : (w : ℕ) (H : History) {k i : ℕ} (c : ℕ) → c < w → k < i → (H k).writes c ≡ true → (H i).writes c ≡ true → Precedes w H k i
writers_precede w H {k} {i} c l h d e = direct c l h (meets_intro (H k) (H i) c (writes_touches (H k) c d) (writes_touches (H i) c e) (inl d))

-- a number of a card is told by which makers it lets through
pub told_by_makers : (H : History) (start : Numbers) (n c x y : ℕ) → x ≤ start c + writers H c n → start c ≤ y
    → ((i : ℕ) → i < n → (H i).writes c ≡ true → made H start i c ≤ x → made H start i c ≤ y) → x ≤ y
told_by_makers H start n c x y h l f =
    by_cases (dec_lt (start c) x) above (λ g. omega (arith, g))
  where
    above : start c < x → x ≤ y
    above g =
        let m : Maker H start n c x = maker H start n c x g h in
        omega (arith, m.makes, f m.at m.in_history m.wrote (omega (arith, m.makes)))

module _ (w : ℕ) (H : History) (start : Numbers) (n : ℕ) (P : ℕ → Bool) (closed : Closed w H n P) where
  -- a writer in the set made a state that is left
  pub in_left : (i c : ℕ) → i < n → c < w → (H i).writes c ≡ true → P i ≡ true → made H start i c ≤ left P H start n c
  in_left i c h l e p =
      omega (arith, earlier, count_past (λ k. P k && (H k).writes c) {i = i} {k = n} h (and_intro p e))
    where
      earlier : writers_in P H c i ≡ writers H c i
      earlier =
          count_same i (λ k. P k && (H k).writes c) (λ k. (H k).writes c)
          (λ k z. same_test (P k && (H k).writes c) ((H k).writes c) (λ t. and_right (P k) ((H k).writes c) t)
          (λ t. and_intro (closed i h p k (writers_precede w H c l z t e)) t))

  -- a writer of a state that is left is in the set
  pub left_in : (i c : ℕ) → i < n → c < w → (H i).writes c ≡ true → made H start i c ≤ left P H start n c → P i ≡ true
  left_in i c h l e z = test (P i) (λ p. p) (λ p. absurd (omega (arith, z, rest p, fewer)))
    where
      none_later : P i ≡ false → (k : ℕ) → i ≤ k → k < n → P k && (H k).writes c ≡ false
      none_later p k a b =
          fails (P k && (H k).writes c)
          (λ t. by_cases (ℕ_discrete i k) (λ (q : i ≡ k). clash (and_left (P k) ((H k).writes c) t) (rw q at p))
          (λ q. clash (closed k b (and_left (P k) ((H k).writes c) t) i (writers_precede w H c l (omega (arith, a, q)) e (and_right (P k) ((H k).writes c) t))) p))

      rest : P i ≡ false → writers_in P H c n ≤ writers_in P H c i
      rest p = count_rest i n (λ k. P k && (H k).writes c) (none_later p)

      fewer : writers_in P H c i ≤ writers H c i
      fewer = count_imp i (λ k. P k && (H k).writes c) (λ k. (H k).writes c) (λ k y t. and_right (P k) ((H k).writes c) t)

pub left_top : (H : History) (start : Numbers) (n : ℕ) (P : ℕ → Bool) (c : ℕ) → left P H start n c ≤ start c + writers H c n
left_top H start n P c =
    omega (arith, count_imp n (λ k. P k && (H k).writes c) (λ k. (H k).writes c) (λ k y t. and_right (P k) ((H k).writes c) t))
