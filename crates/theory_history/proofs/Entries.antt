-- The last state that precedes by Definition 2 is the greatest state made up to the maker. Assumes nothing.
use Prim.Native.Nat.{ℕ, zero, suc, ◌<◌}
use mathlib.Core.Path.{◌≡◌, refl, sym, ◌∙◌, ap}
use mathlib.Core.Bool.{true}
use mathlib.Core.Logic.{inl, inr, ⊎_elim}
use native.Mathlib.Nat.{not-suc-le-zero, suc_inj}
use native.Mathlib.Omega.{arith}
use Rattle.theory_history.specs.Change.{History, Numbers, found, made, Precedes, UpTo}
use Rattle.theory_history.specs.Report.{Before, StateBefore}
use Rattle.theory_history.specs.Vector.{Vector, entry_of, vector, state_vector, LastPreceding, IsVector}
use Rattle.theory_history.proofs.Writers.{Maker, maker, one_maker, made_found}
use Rattle.theory_history.proofs.Precedence.{by_document, by_report, up_to_le}
use Rattle.theory_history.proofs.Greatest.{Greatest, Makes, greatest_unique}
use Rattle.theory_history.proofs.Vectors.{vector_greatest, frame_is}

module _ (w : ℕ) (H : History) (start : Numbers) (n : ℕ) where
  -- by Definition 2: the maker of the second state, and the change that overwrote the first
  pub overwritten : (i j α c x : ℕ) → (H i).writes c ≡ true → made H start i c ≡ x → StateBefore w H start n j α c x
      → (t : ℕ) × (t < n) × ((H t).writes j ≡ true) × (made H start t j ≡ suc α) × UpTo w H t i
  overwritten i j α c x e q b =
      (b.t, b.t_in, b.updated.0, ap suc (sym b.updated.1), ⊎_elim (λ (z : b.t ≡ b.t'). inl (z ∙ same)) (λ (z : Before w H start b.t b.t'). inr (rw same at (by_document w H start z))) b.order)
    where
      same : b.t' ≡ i
      same =
          one_maker H start c b.created.2.0 e
          (omega (arith, b.created.1, b.created.2.1, q))

  pub precedes_state : (i j α c x t : ℕ) → i < n → (H i).writes c ≡ true → made H start i c ≡ x → (H t).writes j ≡ true → made H start t j ≡ suc α → UpTo w H t i → StateBefore w H start n j α c x
  precedes_state i j α c x t h e q d m u =
      record {
        t = t;
        t_in = omega (arith, up_to_le u);
        updated = (d, sym (suc_inj m));
        t' = i;
        t'_in = h;
        created = (found H start i c, sym q, (e, refl));
        order = ⊎_elim (λ (z : t ≡ i). inl z) (λ (z : Precedes w H t i). inr (by_report w H start z)) u;
      }

  -- from the greatest state made up to the maker i, the entry
  pub entry_of_greatest : (i c x j d : ℕ) → i < n → (H i).writes c ≡ true → made H start i c ≡ x → Greatest H start (λ t. UpTo w H t i) j d
      → LastPreceding w H start n c x j (entry_of d)
  entry_of_greatest i c x j zero h e q g =
      λ α b. let r : (t : ℕ) × (t < n) × ((H t).writes j ≡ true) × (made H start t j ≡ suc α) × UpTo w H t i = overwritten i j α c x e q b in
      absurd (omega (arith, g.above r.0 r.4 r.2))
  entry_of_greatest i c x j (suc α) h e q g = (
    let m : Makes H start (λ t. UpTo w H t i) j (suc α) = g.met (omega arith) in precedes_state i j α c x m.0 h e q m.2 m.3 m.1,
    λ α' b. let r : (t : ℕ) × (t < n) × ((H t).writes j ≡ true) × (made H start t j ≡ suc α') × UpTo w H t i = overwritten i j α' c x e q b in
        omega (arith, g.above r.0 r.4 r.2, r.3),
  )

  -- and back
  pub greatest_of_entry : (i c x j d : ℕ) → i < n → (H i).writes c ≡ true → made H start i c ≡ x → LastPreceding w H start n c x j (entry_of d)
      → Greatest H start (λ t. UpTo w H t i) j d
  greatest_of_entry i c x j zero h e q p =
      record {
        above = λ t u b. absurd (p (found H start t j) (precedes_state i j (found H start t j) c x t h e q b refl u));
        met = λ z. absurd (not-suc-le-zero z);
      }
  greatest_of_entry i c x j (suc α) h e q p =
      record {
        above = λ t u b. omega (arith, p.1 (found H start t j) (precedes_state i j (found H start t j) c x t h e q b refl u));
        met = λ z. let r : (t : ℕ) × (t < n) × ((H t).writes j ≡ true) × (made H start t j ≡ suc α) × UpTo w H t i = overwritten i j α c x e q p.0 in (r.0, r.4, r.2, r.3);
      }

  -- the vectors worked out left to right are the vectors
  pub state_vector_is : IsVector w H start n (state_vector w H start n)
  state_vector_is c x j l lj a b =
      let m : Maker H start n c x = maker H start n c x a b in
      let e : state_vector w H start n c x ≡ vector w H start m.at = ap (state_vector w H start n c) (sym m.makes) ∙ frame_is w H start n m.at c m.in_history m.wrote in
      rw e (entry_of_greatest m.at c x j (vector w H start m.at j) m.in_history m.wrote m.makes (vector_greatest w H start m.at j lj))

  -- whatever is the vector of a state is what was worked out for its maker
  pub vector_agrees : (v : ℕ → ℕ → Vector) → IsVector w H start n v → (i c j : ℕ) → i < n → c < w → j < w → (H i).writes c ≡ true → v c (made H start i c) j ≡ vector w H start i j
  vector_agrees v isv i c j h l lj e =
      greatest_unique
      (greatest_of_entry i c (made H start i c) j (v c (made H start i c) j) h e refl
      (isv c (made H start i c) j l lj (omega arith) (omega (arith, made_found H start c h e))))
      (vector_greatest w H start i j lj)
