-- One merge over the sheets' frames finds a change with two vectors on two sheets, where the change numbers rise. Assumes nothing.
use Prim.Native.Nat.{ℕ, suc, ◌+◌, ◌*◌, ◌-◌, ◌%◌, ◌≤◌, ◌<◌}
use mathlib.Core.Path.{◌≡◌, refl, sym, ◌∙◌, ap, ap₂, subst}
use mathlib.Core.Bool.{Bool, true, false, not, ◌&&◌, cond}
use mathlib.Core.List.{List, []}
use mathlib.Core.Logic.{by_cases}
use native.Mathlib.Decide.{dec_lt, ℕ_discrete}
use native.Mathlib.Omega.{arith}
use lib.Dec.{eqb, ltb}
use lib.ListN.{length, get_or}
use borrow.Author.Tests.{lt-ltb, le-ltb, eq-eqb, eqb-true, ltb-true}
use Rattle.base_limits.specs.Ring.{ring_place}
use Rattle.base_laws.specs.Below.{any_below, tabulate}
use Rattle.base_laws.proofs.Logic.{test, clash, fails, and_intro, and_left, and_right, not_true, not_intro, cond_true, cond_false}
use Rattle.base_laws.proofs.Below.{Found, all_at, all_intro, all_same, any_intro, any_elim, first_below_lem, first_at}
use Rattle.base_laws.proofs.Fill.{length_tabulate, get_d_tabulate}
use Rattle.base_merge.specs.Merge.{at, change_at, ends_of, head_place, head_numbers, least_of, all_past, Rises, card_ahead, ahead, NextOf, Passed}
use Rattle.base_merge.proofs.Head.{end_at}
use Rattle.base_merge.proofs.Walk.{head_is, head_at, walk_start, walk_next, walk_past, walk_low}
use Rattle.sheet_pages.specs.declared.Readout.{Readout}
use Rattle.sheet_pages.specs.Ring.{page_of, pages_of}
use Rattle.sheet_pages.proofs.Whole.{count_on, frame_on_lem}
use Rattle.sheet_vectors.specs.Vectors.{frame_on, differ, two_vectors}
use Rattle.sheet_vectors.specs.Heads.{stored_numbers, same_entries, head_differs, first_with, heads_differ, lists_read}
use Rattle.sheet_vectors.proofs.Paged.{two_some, two_none}

-- the last state of a card
pub end_of : (bases counts : List ℕ) (n i : ℕ) → i < 16 → at (ends_of (stored_numbers bases counts) n) i ≡ cond (ltb i n) (at bases i + at counts i) 0
end_of bases counts n i h = end_at (stored_numbers bases counts) n i h ∙ ap (λ (x : ℕ). cond (ltb i n) x 0) (get_d_tabulate 16 (λ c. at bases c + at counts c) 0 i h)

-- ---- vectors that are the same
same_self : (entries : List ℕ) (n p : ℕ) → same_entries entries n p p ≡ true
same_self entries n p = all_intro n (λ k. eqb (get_or entries (p * 16 + k) 0) (get_or entries (p * 16 + k) 0)) (λ k h. eq-eqb (get_or entries (p * 16 + k) 0) (get_or entries (p * 16 + k) 0) refl)

module _ (entries : List ℕ) (n : ℕ) where
  same_at : (p q : ℕ) → same_entries entries n p q ≡ true → (k : ℕ) → k < n → get_or entries (p * 16 + k) 0 ≡ get_or entries (q * 16 + k) 0
  same_at p q e k h = eqb-true (get_or entries (p * 16 + k) 0) (get_or entries (q * 16 + k) 0) (all_at n (λ k. eqb (get_or entries (p * 16 + k) 0) (get_or entries (q * 16 + k) 0)) e k h)

  same_back : (p q : ℕ) → same_entries entries n p q ≡ true → same_entries entries n q p ≡ true
  same_back p q e =
      all_intro n (λ k. eqb (get_or entries (q * 16 + k) 0) (get_or entries (p * 16 + k) 0)) (λ k h. eq-eqb (get_or entries (q * 16 + k) 0) (get_or entries (p * 16 + k) 0) (sym (same_at p q e k h)))

  -- both the same as a third
  same_both : (p q o : ℕ) → same_entries entries n p o ≡ true → same_entries entries n q o ≡ true → same_entries entries n p q ≡ true
  same_both p q o e d =
      all_intro n (λ k. eqb (get_or entries (p * 16 + k) 0) (get_or entries (q * 16 + k) 0))
      (λ k h. eq-eqb (get_or entries (p * 16 + k) 0) (get_or entries (q * 16 + k) 0) (same_at p o e k h ∙ sym (same_at q o d k h)))

-- ---- the heads of one number, as the code compares them
pub compared_some : (entries heads passed : List ℕ) (n k : ℕ) {c p : ℕ} {t : Bool} → c ≡ first_with heads k → c < 16 → p ≡ head_place c (at passed c) → t ≡ any_below 16 (head_differs entries heads passed n k p) → t ≡ heads_differ entries heads passed n k
compared_some entries heads passed n k {c} {p} {t} e l d q =
    let a : Bool = any_below 16 (head_differs entries heads passed n k (head_place (first_with heads k) (at passed (first_with heads k)))) in
    q ∙ ap (λ (x : ℕ). any_below 16 (head_differs entries heads passed n k x)) (d ∙ ap (λ (x : ℕ). head_place x (at passed x)) e) ∙ sym (cond_true a false (lt-ltb (first_with heads k) 16 (omega arith)))

pub compared_none : (entries heads passed : List ℕ) (n k : ℕ) {c : ℕ} → c ≡ first_with heads k → 16 ≤ c → false ≡ heads_differ entries heads passed n k
compared_none entries heads passed n k {c} e l =
    let a : Bool = any_below 16 (head_differs entries heads passed n k (head_place (first_with heads k) (at passed (first_with heads k)))) in
    sym (cond_false a false (le-ltb (first_with heads k) 16 (omega arith)))

module _ (entries heads passed : List ℕ) (n k : ℕ) where
  abbrev first : ℕ
  first = first_with heads k

  abbrev place : ℕ → ℕ
  place c = head_place c (at passed c)

  -- where none differs, all have one vector
  pub heads_same : heads_differ entries heads passed n k ≡ false → (i j : ℕ) → i < 16 → j < 16 → at heads i ≡ k → at heads j ≡ k → same_entries entries n (place i) (place j) ≡ true
  heads_same e i j hi hj ei ej = same_both entries n (place i) (place j) (place first) (one i hi ei) (one j hj ej)
    where
      there : first_with heads k < 16
      there = by_cases (dec_lt (first_with heads k) 16) (λ (l : first_with heads k < 16). l) (λ (l : ¬ (first_with heads k < 16)). absurd (none l (any_intro 16 (λ c. eqb (at heads c) k) i hi (eq-eqb (at heads i) k ei))))
        where
          none : ¬ (first_with heads k < 16) → any_below 16 (λ c. eqb (at heads c) k) ≡ true → ⊥
          none l t = l (first_below_lem 16 (λ c. eqb (at heads c) k) t)

      all : any_below 16 (head_differs entries heads passed n k (place first)) ≡ false
      all = sym (cond_true (any_below 16 (head_differs entries heads passed n k (place first))) false (lt-ltb (first_with heads k) 16 there)) ∙ e

      one : (c : ℕ) → c < 16 → at heads c ≡ k → same_entries entries n (place c) (place first) ≡ true
      one c h q =
          test (same_entries entries n (place c) (place first)) (λ t. t)
          (λ f. clash (any_intro 16 (head_differs entries heads passed n k (place first)) c h (and_intro (eq-eqb (at heads c) k q) (not_intro f))) all)

  -- where one differs, there are two with two vectors
  pub record Two : Type 0 where
    pub i : ℕ
    pub j : ℕ
    pub i_card : i < 16
    pub j_card : j < 16
    pub i_head : at heads i ≡ k
    pub j_head : at heads j ≡ k
    pub less : j < i
    pub differs : same_entries entries n (place i) (place j) ≡ false

  pub heads_two : heads_differ entries heads passed n k ≡ true → Two
  heads_two e = test (ltb (first_with heads k) 16) found (λ f. clash e (cond_false (any_below 16 (head_differs entries heads passed n k (place first))) false f))
    where
      found : ltb (first_with heads k) 16 ≡ true → Two
      found t = pair (ltb-true (first_with heads k) 16 t) (any_elim 16 (head_differs entries heads passed n k (place first)) (sym (cond_true (any_below 16 (head_differs entries heads passed n k (place first))) false t) ∙ e))
        where
          pair : first_with heads k < 16 → Found 16 (head_differs entries heads passed n k (place first)) → Two
          pair l q = ordered q.0 q.1 (eqb-true (at heads q.0) k (and_left (eqb (at heads q.0) k) (not (same_entries entries n (place q.0) (place first))) q.2)) (not_true (same_entries entries n (place q.0) (place first)) (and_right (eqb (at heads q.0) k) (not (same_entries entries n (place q.0) (place first))) q.2))
            where
              f_head : at heads (first_with heads k) ≡ k
              f_head = eqb-true (at heads (first_with heads k)) k (first_at 16 (λ c. eqb (at heads c) k) l)

              ordered : (c : ℕ) → c < 16 → at heads c ≡ k → same_entries entries n (place c) (place first) ≡ false → Two
              ordered c h g d =
                  by_cases (dec_lt (first_with heads k) c)
                  (λ (u : first_with heads k < c). record { i = c; j = first_with heads k; i_card = h; j_card = l; i_head = g; j_head = f_head; less = u; differs = d })
                  (λ (u : ¬ (first_with heads k < c)).
                  by_cases (ℕ_discrete c (first_with heads k))
                  (λ (z : c ≡ first_with heads k). clash (subst (λ (x : ℕ). same_entries entries n (place x) (place first) ≡ true) (sym z) (same_self entries n (place first))) d)
                  (λ (z : ¬ (c ≡ first_with heads k)). record { i = first_with heads k; j = c; i_card = l; j_card = h; i_head = f_head; j_head = g; less = omega (arith, u, z); differs = fails (same_entries entries n (place first) (place c)) (λ (s : same_entries entries n (place first) (place c) ≡ true). clash (same_back entries n (place first) (place c) s) d) }))

-- ---- the definition, by the places of the frames
module _ (changes entries bases counts : List ℕ) (n : ℕ) where
  abbrev out : Readout
  out = lists_read changes entries [] bases counts n

  -- the frames at two places have one change and two vectors
  abbrev places_differ : ℕ → ℕ → Bool
  places_differ p q = eqb (get_or changes p 0) (get_or changes q 0) && not (same_entries entries n p q)

  -- the place of frame a of card i
  abbrev ring_at : ℕ → ℕ → ℕ
  ring_at i a = ring_place i (suc (at bases i + a))

  pages_count : length (pages_of out) ≡ n
  pages_count = length_tabulate n (page_of out)

  differ_on : (i j a b : ℕ) → i < n → j < n → a < at counts i → b < at counts j → differ (length (pages_of out)) (frame_on (pages_of out) i a) (frame_on (pages_of out) j b) ≡ places_differ (ring_at i a) (ring_at j b)
  differ_on i j a b hi hj ha hb =
      rw (pages_count, frame_on_lem out i hi a ha, frame_on_lem out j hj b hb)
      (ap (λ (t : Bool). eqb (get_or changes (ring_at i a) 0) (get_or changes (ring_at j b) 0) && not t)
      (all_same n (λ k. eqb (get_or (row i a) k 0) (get_or (row j b) k 0)) (λ k. eqb (get_or entries (ring_at i a * 16 + k) 0) (get_or entries (ring_at j b * 16 + k) 0))
      (λ k h. ap₂ eqb (get_d_tabulate n (λ k. get_or entries (ring_at i a * 16 + k) 0) 0 k h) (get_d_tabulate n (λ k. get_or entries (ring_at j b * 16 + k) 0) 0 k h))))
    where
      row : ℕ → ℕ → List ℕ
      row i a = tabulate n (λ k. get_or entries (ring_at i a * 16 + k) 0)

  ring_some : (i j a b : ℕ) → i < n → j < i → a < at counts i → b < at counts j → places_differ (ring_at i a) (ring_at j b) ≡ true → true ≡ two_vectors (pages_of out)
  ring_some i j a b hi hj ha hb e =
      let lj : j < n = omega arith in
      sym (two_some (pages_of out) i j a b (rw pages_count hi) hj (rw (count_on out i hi) ha) (rw (count_on out j lj) hb) (differ_on i j a b hi lj ha hb ∙ e))

  ring_none : ((i j a b : ℕ) → i < n → j < i → a < at counts i → b < at counts j → places_differ (ring_at i a) (ring_at j b) ≡ false) → false ≡ two_vectors (pages_of out)
  ring_none f =
      sym (two_none (pages_of out)
      (λ i j a b hi hj ha hb.
      let li : i < n = rw pages_count at hi in
      let lj : j < n = omega arith in
      let la : a < at counts i = rw (count_on out i li) at ha in
      let lb : b < at counts j = rw (count_on out j lj) at hb in
      differ_on i j a b li lj la lb ∙ f i j a b li hj la lb))

-- ---- what was met: frames of one number up to k have one vector
pub record Agreed (changes entries bases ends : List ℕ) (n k : ℕ) : Type 0 where
  pub same : (i j x y : ℕ) → i < 16 → j < 16 → at bases i < x → x ≤ at ends i → at bases j < y → y ≤ at ends j → change_at changes i x ≡ change_at changes j y → change_at changes i x ≤ k
      → same_entries entries n (i * 48 + x % 48) (j * 48 + y % 48) ≡ true

pub record Looked (changes entries bases ends : List ℕ) (n : ℕ) (passed heads : List ℕ) (k x : ℕ) : Type 0 where
  pub heads_so : heads ≡ head_numbers changes passed ends
  pub walked : Passed changes bases ends passed k
  pub next : NextOf (ahead changes bases ends) k x
  pub agreed : Agreed changes entries bases ends n k
  pub fits : x < 4294967296

module _ (changes entries bases ends : List ℕ) (n : ℕ) (r : Rises changes bases ends) where
  -- the number of a frame is ahead
  seen : (i x : ℕ) → i < 16 → at bases i < x → x ≤ at ends i → ahead changes bases ends (change_at changes i x) ≡ true
  seen i x h a b =
      let e : suc (at bases i + (x - suc (at bases i))) ≡ x = omega arith in
      any_intro 16 (λ c. card_ahead (change_at changes c) (at bases c) (at ends c) (change_at changes i x)) i h
      (any_intro (at ends i - at bases i) (λ s. eqb (change_at changes i (suc (at bases i + s))) (change_at changes i x)) (x - suc (at bases i)) (omega arith)
      (eq-eqb (change_at changes i (suc (at bases i + (x - suc (at bases i))))) (change_at changes i x) (ap (change_at changes i) e)))

  pub looked_none : {heads : List ℕ} {x : ℕ} → heads ≡ head_numbers changes bases ends → x ≡ least_of heads → x < 4294967296 → Looked changes entries bases ends n bases heads 0 x
  looked_none {heads} {x} eh e f =
      record {
        heads_so = eh;
        walked = walk_start r;
        next = subst (λ (v : ℕ). NextOf (ahead changes bases ends) 0 v) (sym e) (walk_next r (walk_start r) eh);
        agreed = record { same = λ i j x y hi hj ai bi aj bj q l. let p : 0 < change_at changes i x = (r.card i hi).some x ai bi in absurd (omega arith) };
        fits = f;
      }

  module _ {passed heads : List ℕ} {k x : ℕ} (s : Looked changes entries bases ends n passed heads k x) (g : k < x) where
    -- the frame that has the number x is at the head of its card
    at_head : (i y : ℕ) → i < 16 → at bases i < y → y ≤ at ends i → change_at changes i y ≡ x → y ≡ suc (at passed i)
    at_head i y h a b e = head_is (r.card i h) (s.walked.card i h) y x a b e g (walk_low r s.walked x s.next.least i h)

    -- a card with the number x at its head: the state is there
    head_there : (i : ℕ) → i < 16 → at heads i ≡ x → (at passed i < at ends i) × (change_at changes i (suc (at passed i)) ≡ x)
    head_there i h e =
        test (ltb (at passed i) (at ends i))
        (λ t. (ltb-true (at passed i) (at ends i) t, sym (cond_true (change_at changes i (suc (at passed i))) 0 t) ∙ sym (head_at changes passed ends s.heads_so i h) ∙ e))
        (λ t. let z : 0 ≡ x = sym (cond_false (change_at changes i (suc (at passed i))) 0 t) ∙ sym (head_at changes passed ends s.heads_so i h) ∙ e in absurd (omega arith))

    agreed_more : heads_differ entries heads passed n x ≡ false → Agreed changes entries bases ends n x
    agreed_more e = record { same = each }
      where
        each : (i j y z : ℕ) → i < 16 → j < 16 → at bases i < y → y ≤ at ends i → at bases j < z → z ≤ at ends j → change_at changes i y ≡ change_at changes j z → change_at changes i y ≤ x
            → same_entries entries n (i * 48 + y % 48) (j * 48 + z % 48) ≡ true
        each i j y z hi hj ai bi aj bj q l =
            by_cases (dec_lt k (change_at changes i y))
            (λ (u : k < change_at changes i y).
            by_cases (ℕ_discrete (change_at changes i y) x) (λ (v : change_at changes i y ≡ x). heads_of v)
            (λ (v : ¬ (change_at changes i y ≡ x)). clash (seen i y hi ai bi) (s.next.least (change_at changes i y) u (omega (arith, v)))))
            (λ (u : ¬ (k < change_at changes i y)). s.agreed.same i j y z hi hj ai bi aj bj q (omega (arith, u)))
          where
            heads_of : change_at changes i y ≡ x → same_entries entries n (i * 48 + y % 48) (j * 48 + z % 48) ≡ true
            heads_of v =
                let ei : y ≡ suc (at passed i) = at_head i y hi ai bi v in
                let ej : z ≡ suc (at passed j) = at_head j z hj aj bj (sym q ∙ v) in
                let ni : at heads i ≡ x = head_at changes passed ends s.heads_so i hi ∙ cond_true (change_at changes i (suc (at passed i))) 0 (lt-ltb (at passed i) (at ends i) (omega arith)) ∙ ap (change_at changes i) (sym ei) ∙ v in
                let nj : at heads j ≡ x = head_at changes passed ends s.heads_so j hj ∙ cond_true (change_at changes j (suc (at passed j))) 0 (lt-ltb (at passed j) (at ends j) (omega arith)) ∙ ap (change_at changes j) (sym ej) ∙ sym q ∙ v in
                ap₂ (λ (a b : ℕ). same_entries entries n (i * 48 + a % 48) (j * 48 + b % 48)) ei ej ∙ heads_same entries heads passed n x e i j hi hj ni nj

    pub looked_more : {later ahead' : List ℕ} {y : ℕ} {t : Bool} → t ≡ heads_differ entries heads passed n x → t ≡ false → later ≡ all_past passed ends heads x → ahead' ≡ head_numbers changes later ends → y ≡ least_of ahead' → y < 4294967296
        → Looked changes entries bases ends n later ahead' x y
    looked_more {later} {ahead'} {y} d f el ea ey fy =
        let w : Passed changes bases ends later x = subst (λ (l : List ℕ). Passed changes bases ends l x) (sym el) (walk_past r s.walked x s.next.least s.heads_so g) in
        record {
          heads_so = ea;
          walked = w;
          next = subst (λ (v : ℕ). NextOf (ahead changes bases ends) x v) (sym ey) (walk_next r w ea);
          agreed = agreed_more (sym d ∙ f);
          fits = fy;
        }

    module _ (counts : List ℕ) (es : ends ≡ ends_of (stored_numbers bases counts) n) where
      its_end : (i : ℕ) → i < 16 → at ends i ≡ cond (ltb i n) (at bases i + at counts i) 0
      its_end i h = ap (λ (l : List ℕ). at l i) es ∙ end_of bases counts n i h

      -- a card that has states left is there
      there : (i : ℕ) → i < 16 → at passed i < at ends i → (i < n) × (at ends i ≡ at bases i + at counts i)
      there i h l =
          test (ltb i n) (λ t. (ltb-true i n t, its_end i h ∙ cond_true (at bases i + at counts i) 0 t))
          (λ t. let z : at ends i ≡ 0 = its_end i h ∙ cond_false (at bases i + at counts i) 0 t in absurd (omega arith))

      two_here : Two entries heads passed n x → true ≡ two_vectors (pages_of (lists_read changes entries [] bases counts n))
      two_here w = found w.i w.j w.i_card w.j_card (head_there w.i w.i_card w.i_head) (head_there w.j w.j_card w.j_head) w.less w.differs
        where
          found : (i j : ℕ) → i < 16 → j < 16 → (at passed i < at ends i) × (change_at changes i (suc (at passed i)) ≡ x) → (at passed j < at ends j) × (change_at changes j (suc (at passed j)) ≡ x) → j < i
              → same_entries entries n (head_place i (at passed i)) (head_place j (at passed j)) ≡ false → true ≡ two_vectors (pages_of (lists_read changes entries [] bases counts n))
          found i j hi hj pi pj l d =
              let ti : (i < n) × (at ends i ≡ at bases i + at counts i) = there i hi pi.0 in
              let tj : (j < n) × (at ends j ≡ at bases j + at counts j) = there j hj pj.0 in
              let bi : at bases i ≤ at passed i = (s.walked.card i hi).begun in
              let bj : at bases j ≤ at passed j = (s.walked.card j hj).begun in
              let si : suc (at bases i + (at passed i - at bases i)) ≡ suc (at passed i) = omega arith in
              let sj : suc (at bases j + (at passed j - at bases j)) ≡ suc (at passed j) = omega arith in
              let li : at passed i < at ends i = pi.0 in
              let lj : at passed j < at ends j = pj.0 in
              let qi : at ends i ≡ at bases i + at counts i = ti.1 in
              let qj : at ends j ≡ at bases j + at counts j = tj.1 in
              let e : places_differ changes entries bases counts n (head_place i (at passed i)) (head_place j (at passed j)) ≡ true =
              and_intro (eq-eqb (change_at changes i (suc (at passed i))) (change_at changes j (suc (at passed j))) (pi.1 ∙ sym pj.1)) (not_intro d) in
              ring_some changes entries bases counts n i j (at passed i - at bases i) (at passed j - at bases j) ti.0 l (omega arith) (omega arith)
              (ap₂ (λ (a b : ℕ). places_differ changes entries bases counts n (ring_place i a) (ring_place j b)) si sj ∙ e)

      pub looked_found : {t : Bool} → t ≡ heads_differ entries heads passed n x → t ≡ true → true ≡ two_vectors (pages_of (lists_read changes entries [] bases counts n))
      looked_found d f = two_here (heads_two entries heads passed n x (sym d ∙ f))

  -- nothing is left: each pair has one vector
  pub looked_done : {passed heads : List ℕ} {k x : ℕ} → Looked changes entries bases ends n passed heads k x → x ≤ k → (counts : List ℕ) → ends ≡ ends_of (stored_numbers bases counts) n → n ≤ 16 → false ≡ two_vectors (pages_of (lists_read changes entries [] bases counts n))
  looked_done {passed} {heads} {k} {x} s l counts es few = ring_none changes entries bases counts n each
    where
      none : x ≡ 0
      none = by_cases (ℕ_discrete x 0) (λ (z : x ≡ 0). z) (λ (z : ¬ (x ≡ 0)). let u : k < x = s.next.above z in absurd (omega arith))

      met : (i y : ℕ) → i < 16 → at bases i < y → y ≤ at ends i → change_at changes i y ≤ k
      met i y h a b =
          by_cases (dec_lt k (change_at changes i y)) (λ (u : k < change_at changes i y). clash (seen i y h a b) (s.next.none none (change_at changes i y) u))
          (λ (u : ¬ (k < change_at changes i y)). omega (arith, u))

      its_end : (i : ℕ) → i < n → at ends i ≡ at bases i + at counts i
      its_end i h = ap (λ (m : List ℕ). at m i) es ∙ end_of bases counts n i (omega arith) ∙ cond_true (at bases i + at counts i) 0 (lt-ltb i n h)

      each : (i j a b : ℕ) → i < n → j < i → a < at counts i → b < at counts j → places_differ changes entries bases counts n (ring_place i (suc (at bases i + a))) (ring_place j (suc (at bases j + b))) ≡ false
      each i j a b hi hj ha hb =
          let x : ℕ = suc (at bases i + a) in
          let y : ℕ = suc (at bases j + b) in
          let same : Bool = same_entries entries n (ring_place i x) (ring_place j y) in
          fails (eqb (change_at changes i x) (change_at changes j y) && not same)
          (λ (t : eqb (change_at changes i x) (change_at changes j y) && not same ≡ true).
          let ei : at ends i ≡ at bases i + at counts i = its_end i hi in
          let ej : at ends j ≡ at bases j + at counts j = its_end j (omega arith) in
          let q : change_at changes i x ≡ change_at changes j y = eqb-true (change_at changes i x) (change_at changes j y) (and_left (eqb (change_at changes i x) (change_at changes j y)) (not same) t) in
          let d : same ≡ false = not_true same (and_right (eqb (change_at changes i x) (change_at changes j y)) (not same) t) in
          clash (s.agreed.same i j x y (omega arith) (omega arith) (omega arith) (omega arith) (omega arith) (omega arith) q (met i x (omega arith) (omega arith) (omega arith))) d)
