-- Theorems 1 and 2 of the report, as printed. Assumes nothing.
use Prim.Native.Nat.{ℕ, suc, ◌+◌, ◌≤◌, ◌<◌}
use mathlib.Core.Path.{◌≡◌, ◌∙◌}
use mathlib.Core.Bool.{true}
use mathlib.Core.Logic.{inl, inr, by_cases, ⊎_elim, ◌↔◌}
use native.Mathlib.Nat.{le_refl, le_antisymm}
use native.Mathlib.Decide.{dec_le, dec_lt, ℕ_discrete}
use native.Mathlib.Omega.{arith}
use Rattle.theory_history.specs.Change.{History, Numbers, writers, made, Precedes, UpTo, ConsistentCut, Cut}
use Rattle.theory_history.specs.Report.{StateBefore, Consistent, Global, RecoveryLine}
use Rattle.theory_history.specs.Vector.{vector, state_vector}
use Rattle.theory_history.specs.Line.{line}
use Rattle.theory_history.proofs.Writers.{Maker, maker, made_found}
use Rattle.theory_history.proofs.Precedence.{up_to_trans}
use Rattle.theory_history.proofs.Greatest.{Makes}
use Rattle.theory_history.proofs.Vectors.{vector_greatest}
use Rattle.theory_history.proofs.Cuts.{in_left, left_in, writers_precede}
use Rattle.theory_history.proofs.Entries.{overwritten, precedes_state, state_vector_is}
use Rattle.theory_history.proofs.Lines.{Fits, line_is_lem, on_fits, fits_on, line_cut}
use Rattle.theory_history.proofs.Executions.{consistent_cut, cut_consistent}

-- cuts go by the cards' numbers alone
pub cut_same : (w : ℕ) (H : History) (start : Numbers) (n : ℕ) (g g' : Numbers) → ((c : ℕ) → c < w → g' c ≡ g c) → ConsistentCut w H start n g → ConsistentCut w H start n g'
cut_same w H start n g g' e k = record { set = k.set; closed = k.closed; leaves = λ c h. e c h ∙ k.leaves c h }

module _ (w : ℕ) (H : History) (start : Numbers) (n : ℕ) where
  -- a change that does not fit s: some state s of a card precedes what it made
  unfit_preceded : (s : Numbers) (i c x j : ℕ) → i < n → (H i).writes c ≡ true → made H start i c ≡ x → j < w → start j ≤ s j → s j < vector w H start i j → StateBefore w H start n j (s j) c x
  unfit_preceded s i c x j h e q l b z = by_overwriter ((vector_greatest w H start i j l).met (omega arith))
    where
      by_overwriter : Makes H start (λ t. UpTo w H t i) j (vector w H start i j) → StateBefore w H start n j (s j) c x
      by_overwriter m =
          let t : ℕ = m.0 in
          let k : Maker H start (suc t) j (suc (s j)) = maker H start (suc t) j (suc (s j)) (omega arith) (omega (arith, m.3, z, made_found H start j (le_refl (suc t)) m.2)) in
          let u : UpTo w H k.at t = by_cases (ℕ_discrete k.at t) (λ (y : k.at ≡ t). inl y) (λ y. inr (writers_precede w H j l (omega (arith, k.in_history, y)) k.wrote m.2)) in
          precedes_state w H start n i j (s j) c x k.at h e q k.wrote k.makes (up_to_trans u m.1)

  -- a state of the line of s is not preceded by a state s
  line_unpreceded : (s : Numbers) (c x j : ℕ) → c < w → j < w → x ≤ line w H start n (state_vector w H start n) s c → ¬ (StateBefore w H start n j (s j) c x)
  line_unpreceded s c x j l lj z b =
      let i : ℕ = b.t' in
      let q : made H start i c ≡ x = omega (arith, b.created.1, b.created.2.1) in
      let r : (t : ℕ) × (t < n) × ((H t).writes j ≡ true) × (made H start t j ≡ suc (s j)) × UpTo w H t i = overwritten w H start n i j (s j) c x b.created.2.0 q b in
      let f : Fits w H start s i = on_fits w H start n (state_vector w H start n) (state_vector_is w H start n) s i c b.t'_in l b.created.2.0 (omega (arith, q, z)) in
      omega (arith, f j lj, (vector_greatest w H start i j lj).above r.0 r.4 r.2, r.3)

  -- a state that no state s precedes is in the line of s
  unpreceded_line : (s : Numbers) → ((j : ℕ) → j < w → start j ≤ s j) → (c x : ℕ) → c < w → x ≤ start c + writers H c n → ((j : ℕ) → j < w → ¬ (StateBefore w H start n j (s j) c x))
      → x ≤ line w H start n (state_vector w H start n) s c
  unpreceded_line s b c x l h f = by_cases (dec_lt (start c) x) above (λ z. omega (arith, z, (line_is_lem w H start n (state_vector w H start n) (state_vector_is w H start n) s c).from_base))
    where
      above : start c < x → x ≤ line w H start n (state_vector w H start n) s c
      above z =
          let m : Maker H start n c x = maker H start n c x z h in
          rw m.makes
          at (fits_on w H start n (state_vector w H start n) (state_vector_is w H start n) s m.at c m.in_history l m.wrote
          (λ j lj. by_cases (dec_le (vector w H start m.at j) (s j)) (λ y. y)
          (λ y. absurd (f j lj (unfit_preceded s m.at c x j m.in_history m.wrote m.makes lj (b j lj) (omega (arith, y)))))))

  -- Theorem 1
  pub theorem_1 : (g : Numbers) → Global w H start n g
      → Consistent w H start n g ↔ ((i j : ℕ) → i < w → j < w → ¬ (StateBefore w H start n i (g i) j (g j)))
  theorem_1 g global = (necessary, sufficient)
    where
      necessary : Consistent w H start n g → (i j : ℕ) → i < w → j < w → ¬ (StateBefore w H start n i (g i) j (g j))
      necessary k i j li lj b =
          let cut : ConsistentCut w H start n g = consistent_cut w H start n g k in
          let q : made H start b.t' j ≡ g j = omega (arith, b.created.1, b.created.2.1) in
          let r : (t : ℕ) × (t < n) × ((H t).writes i ≡ true) × (made H start t i ≡ suc (g i)) × UpTo w H t b.t' = overwritten w H start n b.t' i (g i) j (g j) b.created.2.0 q b in
          let p' : cut.set b.t' ≡ true = left_in w H start n cut.set cut.closed b.t' j b.t'_in lj b.created.2.0 (omega (arith, q, cut.leaves j lj)) in
          let p : cut.set r.0 ≡ true = ⊎_elim (λ (e : r.0 ≡ b.t'). rw e p') (λ (e : Precedes w H r.0 b.t'). cut.closed b.t' b.t'_in p' r.0 e) r.4 in
          omega (arith, in_left w H start n cut.set cut.closed r.0 i r.1 li r.2 p, r.3, cut.leaves i li)

      sufficient : ((i j : ℕ) → i < w → j < w → ¬ (StateBefore w H start n i (g i) j (g j))) → Consistent w H start n g
      sufficient f =
          let k : Cut w H start n g (line w H start n (state_vector w H start n) g) = line_cut w H start n (state_vector w H start n) (state_vector_is w H start n) g (λ c l. (global c l).0) in
          cut_consistent w H start n g
          (cut_same w H start n (line w H start n (state_vector w H start n) g) g
          (λ c l. le_antisymm (unpreceded_line g (λ j lj. (global j lj).0) c (g c) l (global c l).1 (λ j lj. f j c lj l)) (k.within c l))
          k.consistent)

  -- the line is Theorem 2's, and Theorem 2's is the line
  pub line_recovers : (last : Numbers) → Global w H start n last → RecoveryLine w H start n last (line w H start n (state_vector w H start n) last)
  line_recovers last global =
      record {
        global = λ c l. ((line_is_lem w H start n (state_vector w H start n) (state_vector_is w H start n) last c).from_base, (line_is_lem w H start n (state_vector w H start n) (state_vector_is w H start n) last c).to_top);
        unpreceded = λ i j li lj. line_unpreceded last i (line w H start n (state_vector w H start n) last i) j li lj (le_refl (line w H start n (state_vector w H start n) last i));
        maximum = λ i k li a b f. unpreceded_line last (λ j lj. (global j lj).0) i k li b f;
      }

  pub recovers_line : (last r : Numbers) → Global w H start n last → RecoveryLine w H start n last r → (c : ℕ) → c < w → r c ≡ line w H start n (state_vector w H start n) last c
  recovers_line last r global k c l =
      let m : RecoveryLine w H start n last (line w H start n (state_vector w H start n) last) = line_recovers last global in
      le_antisymm (m.maximum c (r c) l (k.global c l).0 (k.global c l).1 (λ j lj. k.unpreceded c j l lj))
      (k.maximum c (line w H start n (state_vector w H start n) last c) l (m.global c l).0 (m.global c l).1 (λ j lj. m.unpreceded c j l lj))
