-- The vector that document 01's call 3 works out is the greatest state of each card made by the change or by one that precedes it. Assumes nothing.
use Prim.Native.Nat.{ℕ, zero, suc, ◌+◌, ◌≤◌, ◌<◌}
use mathlib.Core.Path.{◌≡◌, refl, sym, ◌∙◌, ap}
use mathlib.Core.Bool.{Bool, true, false, cond}
use mathlib.Core.Logic.{◌⊎◌, inl, inr, by_cases, ⊎_elim}
use native.Mathlib.Nat.{not-suc-le-zero, le_trans, le_refl, le_step, lt-suc_self}
use native.Mathlib.Decide.{ℕ_discrete}
use native.Mathlib.Omega.{arith}
use borrow.Author.Tests.{eq-eqb, ne_eqb}
use Rattle.base_laws.specs.Below.{one_if, greatest}
use Rattle.base_laws.proofs.Logic.{test, clash, or_left, or_elim}
use Rattle.base_laws.proofs.Below.{below_suc, greatest_above, greatest_met, Met}
use Rattle.theory_history.specs.Change.{Change, History, Numbers, touches, writers, found, made, direct, UpTo}
use Rattle.theory_history.specs.Vector.{Vector, Tracked, share, vector_of, with_own, after, vector}
use Rattle.theory_history.proofs.Writers.{made_found}
use Rattle.theory_history.proofs.Precedence.{Link, last_link, up_to_trans, up_to_le, writes_touches, meets_intro, meets_writes, meets_first, meets_second}
use Rattle.theory_history.proofs.Greatest.{Greatest, Makes, greatest_none, greatest_of, greatest_either}

-- up to a change before i that wrote card c
abbrev pub ByWriters : ℕ → History → ℕ → ℕ → ℕ → Type 0
ByWriters w H i c t = (k : ℕ) × (k < i) × ((H k).writes c ≡ true) × UpTo w H t k

-- up to a change before i that touched card c
abbrev pub ByTouchers : ℕ → History → ℕ → ℕ → ℕ → Type 0
ByTouchers w H i c t = (k : ℕ) × (k < i) × (touches (H k) c ≡ true) × UpTo w H t k

-- what change i must find on the cards that it touches, so that its vector comes out right
pub record Stands (w : ℕ) (H : History) (start : Numbers) (h : Tracked) (i : ℕ) : Type 0 where
  pub reached_is : (c : ℕ) → c < w → (H i).writes c ≡ true → h.reached c ≡ found H start i c
  pub last_is : (c : ℕ) → c < w → (H i).writes c ≡ false → (H i).reads c ≡ true → (j : ℕ) → j < w → Greatest H start (ByWriters w H i c) j (h.last c j)
  pub pending_is : (c : ℕ) → c < w → (H i).writes c ≡ true → (j : ℕ) → j < w → Greatest H start (ByTouchers w H i c) j (h.pending c j)

-- ---- what each card contributes
share_written : (h : Tracked) (t : Change) (c j : ℕ) → t.writes c ≡ true → share h t c j ≡ with_own c (h.reached c) (h.pending c) j
share_written h t c j e = rw e

share_read : (h : Tracked) (t : Change) (c j : ℕ) → t.writes c ≡ false → t.reads c ≡ true → share h t c j ≡ h.last c j
share_read h t c j e d = rw (e, d)

share_none : (h : Tracked) (t : Change) (c j : ℕ) → t.writes c ≡ false → t.reads c ≡ false → share h t c j ≡ 0
share_none h t c j e d = rw (e, d)

own_entry : (c s : ℕ) (v : Vector) → with_own c s v c ≡ suc s
own_entry c s v = rw (eq-eqb c c refl)

other_entry : (c s : ℕ) (v : Vector) (j : ℕ) → ¬ (j ≡ c) → with_own c s v j ≡ v j
other_entry c s v j q = rw (ne_eqb j c q)

module _ (w : ℕ) (H : History) (start : Numbers) (h : Tracked) (i : ℕ) (st : Stands w H start h i) where
  -- the part of card c, at card j, where change i writes c
  part_written : (c j : ℕ) → c < w → j < w → (H i).writes c ≡ true → Greatest H start (λ t. ByTouchers w H i c t ⊎ ((t ≡ i) × (j ≡ c))) j (share h (H i) c j)
  part_written c j l lj e = by_cases (ℕ_discrete j c) own (λ q. rw (share_written h (H i) c j e, other_entry c (h.reached c) (h.pending c) j q) (other q))
    where
      value : j ≡ c → share h (H i) c j ≡ made H start i c
      value q = share_written h (H i) c j e ∙ ap (with_own c (h.reached c) (h.pending c)) q ∙ own_entry c (h.reached c) (h.pending c) ∙ ap suc (st.reached_is c l e)

      own : j ≡ c → Greatest H start (λ t. ByTouchers w H i c t ⊎ ((t ≡ i) × (j ≡ c))) j (share h (H i) c j)
      own q =
          rw (value q)
          (record {
            above = λ t s d. ⊎_elim
                (λ (b : ByTouchers w H i c t). let z : t < i = omega (arith, b.1, up_to_le b.3) in rw q (le_trans (made_found H start c z (rw q at d)) (omega arith)))
                (λ (b : (t ≡ i) × (j ≡ c)). rw (q, b.0) (le_refl (made H start i c))) s;
            met = λ z. (i, inr (refl, q), rw q e, rw q refl);
          })

      other : ¬ (j ≡ c) → Greatest H start (λ t. ByTouchers w H i c t ⊎ ((t ≡ i) × (j ≡ c))) j (h.pending c j)
      other q = greatest_of (λ t b. inl b) (λ t s. ⊎_elim (λ (b : ByTouchers w H i c t). b) (λ (b : (t ≡ i) × (j ≡ c)). absurd (q b.1)) s) (st.pending_is c l e j lj)

  -- a link from a change that touched card c, where i writes it, and from one that wrote it, where i reads it
  link_written : (c : ℕ) → c < w → (H i).writes c ≡ true → (t : ℕ) → ByTouchers w H i c t → UpTo w H t i
  link_written c l e t b =
      up_to_trans b.3 (inr (direct c l b.1 (meets_intro (H b.0) (H i) c b.2 (writes_touches (H i) c e) (inr e))))

  link_read : (c : ℕ) → c < w → (H i).reads c ≡ true → (t : ℕ) → ByWriters w H i c t → UpTo w H t i
  link_read c l e t b =
      up_to_trans b.3
      (inr (direct c l b.1 (meets_intro (H b.0) (H i) c (writes_touches (H b.0) c b.2) (or_left ((H i).writes c) e) (inl b.2))))

  -- a state made by a change that precedes i through card c is in the part of card c
  part_above : (j : ℕ) → j < w → (m t : ℕ) → UpTo w H t m → (k : Link w H m i) → (H t).writes j ≡ true → made H start t j ≤ share h (H i) k.card j
  part_above j lj m t u k d = test ((H i).writes k.card) written only_read
    where
      c : ℕ
      c = k.card

      written : (H i).writes c ≡ true → made H start t j ≤ share h (H i) c j
      written e = (part_written c j k.is_card_lem lj e).above t (inl (m, k.earlier, meets_first (H m) (H i) c k.meet, u)) d

      only_read : (H i).writes c ≡ false → made H start t j ≤ share h (H i) c j
      only_read e =
          let r : (H i).reads c ≡ true = ⊎_elim (λ (z : (H i).reads c ≡ true). z) (λ (z : (H i).writes c ≡ true). clash z e) (or_elim ((H i).reads c) ((H i).writes c) (meets_second (H m) (H i) c k.meet)) in
          let wr : (H m).writes c ≡ true = ⊎_elim (λ (z : (H m).writes c ≡ true). z) (λ (z : (H i).writes c ≡ true). clash z e) (meets_writes (H m) (H i) c k.meet) in
          rw (share_read h (H i) c j e r) ((st.last_is c k.is_card_lem e r j lj).above t (m, k.earlier, wr, u) d)

  -- the state that i itself makes on card j is in the part of card j
  own_above : (j : ℕ) → j < w → (H i).writes j ≡ true → made H start i j ≤ share h (H i) j j
  own_above j lj d = (part_written j j lj lj d).above i (inr (refl, refl)) d

  -- each part is made by i, or by a change that precedes it
  part_met : (c j : ℕ) → c < w → j < w → 0 < share h (H i) c j → Makes H start (λ t. UpTo w H t i) j (share h (H i) c j)
  part_met c j l lj z = test ((H i).writes c) written (λ e. test ((H i).reads c) (only_read e) (λ r. absurd (not-suc-le-zero (rw (share_none h (H i) c j e r) at z))))
    where
      written : (H i).writes c ≡ true → Makes H start (λ t. UpTo w H t i) j (share h (H i) c j)
      written e =
          let m : Makes H start (λ t. ByTouchers w H i c t ⊎ ((t ≡ i) × (j ≡ c))) j (share h (H i) c j) = (part_written c j l lj e).met z in
          (m.0, ⊎_elim (λ (b : ByTouchers w H i c m.0). link_written c l e m.0 b) (λ (b : (m.0 ≡ i) × (j ≡ c)). inl b.0) m.1, m.2, m.3)

      only_read : (H i).writes c ≡ false → (H i).reads c ≡ true → Makes H start (λ t. UpTo w H t i) j (share h (H i) c j)
      only_read e r =
          let m : Makes H start (ByWriters w H i c) j (h.last c j) = (st.last_is c l e r j lj).met (rw (share_read h (H i) c j e r) at z) in
          (m.0, link_read c l r m.0 m.1, m.2, m.3 ∙ sym (share_read h (H i) c j e r))

  -- the vector is, for each card, the greatest state made by i or by a change that precedes it
  pub vector_stands : (j : ℕ) → j < w → Greatest H start (λ t. UpTo w H t i) j (vector_of w h (H i) j)
  vector_stands j lj = record { above = above; met = met }
    where
      parts : ℕ → ℕ
      parts c = share h (H i) c j

      above : (t : ℕ) → UpTo w H t i → (H t).writes j ≡ true → made H start t j ≤ vector_of w h (H i) j
      above t (inl q) d = rw q (le_trans (own_above j lj (rw q at d)) (greatest_above w (λ c. share h (H i) c j) j lj))
      above t (inr p) d =
          let r : (m : ℕ) × UpTo w H t m × Link w H m i = last_link p in
          le_trans (part_above j lj r.0 t r.1 r.2 d) (greatest_above w (λ c. share h (H i) c j) r.2.card r.2.is_card_lem)

      met : 0 < vector_of w h (H i) j → Makes H start (λ t. UpTo w H t i) j (vector_of w h (H i) j)
      met z =
          let g : Met w (λ c. share h (H i) c j) (greatest w (λ c. share h (H i) c j)) = greatest_met w (λ c. share h (H i) c j) z in
          let m : Makes H start (λ t. UpTo w H t i) j (share h (H i) g.0 j) = part_met g.0 j g.1 lj (rw g.2 z) in
          (m.0, m.1, m.2, m.3 ∙ g.2)

-- ---- left to right over the history
module _ (w : ℕ) (H : History) (start : Numbers) where
  pub reached_found : (i c : ℕ) → (after w H start i).reached c ≡ found H start i c
  reached_found zero c = omega arith
  reached_found (suc i) c = step ((H i).writes c) (writers H c i) (reached_found i c)
    where
      step : (b : Bool) {x : ℕ} (y : ℕ) → x ≡ start c + y → cond b (suc x) x ≡ start c + (y + one_if b)
      step true y q = omega arith
      step false y q = omega arith

  abbrev LastIs : ℕ → Type 0
  LastIs i = (c j : ℕ) → c < w → j < w → Greatest H start (ByWriters w H i c) j ((after w H start i).last c j)

  abbrev PendingIs : ℕ → Type 0
  PendingIs i = (c j : ℕ) → c < w → j < w → Greatest H start (ByTouchers w H i c) j ((after w H start i).pending c j)

  stands : (i : ℕ) → LastIs i → PendingIs i → Stands w H start (after w H start i) i
  stands i ls ps =
      record {
        reached_is = λ c l e. reached_found i c;
        last_is = λ c l e r j lj. ls c j l lj;
        pending_is = λ c l e j lj. ps c j l lj;
      }

  -- up to a change before suc i that touched card c is up to i, where i meets it there
  through : (i c : ℕ) → c < w → (H i).writes c ≡ true → (t : ℕ) → ByTouchers w H (suc i) c t → UpTo w H t i
  through i c l e t b =
      ⊎_elim (λ (q : b.0 ≡ i). rw q at b.3)
      (λ (z : b.0 < i). up_to_trans b.3 (inr (direct c l z (meets_intro (H b.0) (H i) c b.2 (writes_touches (H i) c e) (inr e)))))
      (below_suc b.1)

  as_toucher : (i c t : ℕ) → ByWriters w H i c t → ByTouchers w H i c t
  as_toucher i c t b = (b.0, b.1, writes_touches (H b.0) c b.2, b.3)

  last_step : (i : ℕ) → LastIs i → ((j : ℕ) → j < w → Greatest H start (λ t. UpTo w H t i) j (vector w H start i j)) → LastIs (suc i)
  last_step i ls vs c j l lj = test ((H i).writes c) written kept
    where
      v : Vector
      v = vector w H start i

      written : (H i).writes c ≡ true → Greatest H start (ByWriters w H (suc i) c) j ((after w H start (suc i)).last c j)
      written e =
          rw e
          (greatest_of (λ t u. (i, lt-suc_self i, e, u)) (λ t b. through i c l e t (as_toucher (suc i) c t b)) (vs j lj))

      kept : (H i).writes c ≡ false → Greatest H start (ByWriters w H (suc i) c) j ((after w H start (suc i)).last c j)
      kept e =
          rw e
          (greatest_of (λ t b. (b.0, le_step b.1, b.2, b.3))
          (λ t b. ⊎_elim (λ (q : b.0 ≡ i). clash (rw q at b.2) e) (λ (z : b.0 < i). (b.0, z, b.2, b.3)) (below_suc b.1))
          (ls c j l lj))

  pending_step : (i : ℕ) → PendingIs i → ((j : ℕ) → j < w → Greatest H start (λ t. UpTo w H t i) j (vector w H start i j)) → PendingIs (suc i)
  pending_step i ps vs c j l lj = test ((H i).writes c) written (λ e. test ((H i).reads c) (joins e) (kept e))
    where
      Goal : Type 0
      Goal = Greatest H start (ByTouchers w H (suc i) c) j ((after w H start (suc i)).pending c j)

      older : (t : ℕ) → ByTouchers w H i c t → ByTouchers w H (suc i) c t
      older t b = (b.0, le_step b.1, b.2, b.3)

      written : (H i).writes c ≡ true → Greatest H start (ByTouchers w H (suc i) c) j ((after w H start (suc i)).pending c j)
      written e =
          rw e (greatest_of (λ t u. (i, lt-suc_self i, writes_touches (H i) c e, u)) (λ t b. through i c l e t b) (vs j lj))

      joins : (H i).writes c ≡ false → (H i).reads c ≡ true → Greatest H start (ByTouchers w H (suc i) c) j ((after w H start (suc i)).pending c j)
      joins e r =
          rw (e, r)
          (greatest_of
          (λ t d. ⊎_elim (λ (b : ByTouchers w H i c t). older t b) (λ (u : UpTo w H t i). (i, lt-suc_self i, or_left ((H i).writes c) r, u)) d)
          (λ t b. ⊎_elim (λ (q : b.0 ≡ i). inr (rw q at b.3)) (λ (z : b.0 < i). inl (b.0, z, b.2, b.3)) (below_suc b.1))
          (greatest_either (ps c j l lj) (vs j lj)))

      kept : (H i).writes c ≡ false → (H i).reads c ≡ false → Greatest H start (ByTouchers w H (suc i) c) j ((after w H start (suc i)).pending c j)
      kept e r =
          rw (e, r)
          (greatest_of older
          (λ t b. ⊎_elim (λ (q : b.0 ≡ i). clash (rw q at b.2) (rw (r, e))) (λ (z : b.0 < i). (b.0, z, b.2, b.3)) (below_suc b.1))
          (ps c j l lj))

  both_are : (i : ℕ) → LastIs i × PendingIs i
  both_are zero =
      (λ c j l lj. greatest_none j (λ t b. not-suc-le-zero b.1), λ c j l lj. greatest_none j (λ t b. not-suc-le-zero b.1))
  both_are (suc i) =
      let r : LastIs i × PendingIs i = both_are i in
      let vs : (j : ℕ) → j < w → Greatest H start (λ t. UpTo w H t i) j (vector w H start i j) = vector_stands w H start (after w H start i) i (stands i r.0 r.1) in
      (last_step i r.0 vs, pending_step i r.1 vs)

  -- the vector worked out left to right is the greatest state of each card made up to the change
  pub vector_greatest : (i j : ℕ) → j < w → Greatest H start (λ t. UpTo w H t i) j (vector w H start i j)
  vector_greatest i j lj =
      let r : LastIs i × PendingIs i = both_are i in
      vector_stands w H start (after w H start i) i (stands i r.0 r.1) j lj

  -- the vector of a state that was made is that of its maker
  pub frame_is : (n i c : ℕ) → i < n → (H i).writes c ≡ true → (after w H start n).frame c (made H start i c) ≡ vector w H start i
  frame_is zero i c h e = absurd (not-suc-le-zero h)
  frame_is (suc n) i c h e = ⊎_elim now (older (frame_is n i c)) (below_suc h)
    where
      Goal : Type 0
      Goal = (after w H start (suc n)).frame c (made H start i c) ≡ vector w H start i

      now : i ≡ n → (after w H start (suc n)).frame c (made H start i c) ≡ vector w H start i
      now q = rw (q, rw q at e, eq-eqb (made H start n c) (suc ((after w H start n).reached c)) (ap suc (sym (reached_found n c))))

      older : (i < n → (H i).writes c ≡ true → (after w H start n).frame c (made H start i c) ≡ vector w H start i) → i < n → (after w H start (suc n)).frame c (made H start i c) ≡ vector w H start i
      older rest z =
          test ((H n).writes c)
          (λ d. rw (d, ne_eqb (made H start i c) (suc ((after w H start n).reached c)) (λ q. absurd (omega (arith, made_found H start c z e, reached_found n c, q)))) (rest z e))
          (λ d. rw d (rest z e))
