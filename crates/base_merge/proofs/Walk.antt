-- What a merge over rising numbers meets: the least number at the heads is the least of all ahead, and once the cards are
-- brought past it, exactly the numbers above it are ahead. So it meets each number once, rising. Assumes nothing.
use Prim.Native.Nat.{ℕ, zero, suc, ◌+◌, ◌-◌, ◌≤◌, ◌<◌}
use mathlib.Core.Path.{◌≡◌, refl, sym, ◌∙◌, ap, subst}
use mathlib.Core.Bool.{Bool, true, false, ◌&&◌, cond}
use mathlib.Core.Logic.{by_cases}
use mathlib.Core.List.{List}
use native.Mathlib.Decide.{dec_lt, ℕ_discrete}
use native.Mathlib.Omega.{arith}
use lib.Dec.{eqb, ltb}
use borrow.Author.Tests.{lt-ltb, le-ltb, eq-eqb, eqb-true, ltb-true}
use Rattle.base_laws.proofs.Logic.{fails, clash, same_test, and_intro, and_left, and_right}
use Rattle.base_laws.proofs.Below.{Found, any_intro, any_elim}
use Rattle.base_laws.proofs.Fill.{get_d_tabulate}
use Rattle.base_merge.specs.Merge.{at, change_at, head_number, head_numbers, least_of, card_past, all_past, CardRises, Rises, card_ahead, ahead, NextOf, CardPassed, Passed}
use Rattle.base_merge.proofs.Next.{next_least}
use Rattle.base_merge.proofs.Head.{head_there, past_head, past_other, past_end}

-- ---- one card
module _ {f : ℕ → ℕ} {from end : ℕ} (r : CardRises f from end) where
  -- a later state has a greater number
  pub greater : (x d : ℕ) → from < x → suc (x + d) ≤ end → f x < f (suc (x + d))
  greater x zero h l =
      let e : x + 0 ≡ x = omega arith in
      rw e (r.next x h (omega arith))
  greater x (suc d) h l =
      let e : x + suc d ≡ suc (x + d) = omega arith in
      let a : f x < f (suc (x + d)) = greater x d h (omega arith) in
      let b : f (suc (x + d)) < f (suc (suc (x + d))) = r.next (suc (x + d)) (omega arith) (omega arith) in
      rw e (omega arith)

  pub rising : (x y : ℕ) → from < x → x < y → y ≤ end → f x < f y
  rising x y h l u =
      let e : y ≡ suc (x + (y - suc x)) = omega arith in
      rw e (greater x (y - suc x) h (omega arith))

  -- none is passed yet
  pub card_start : CardPassed f from end from 0
  card_start = record { begun = omega arith; behind = λ x h l. absurd (omega arith); before = r.some }

  module _ {passed k : ℕ} (w : CardPassed f from end passed k) where
    -- no state ahead has a lesser number than the head
    head_least : (x : ℕ) → passed < x → x ≤ end → f (suc passed) ≤ f x
    head_least x h l =
        by_cases (ℕ_discrete x (suc passed)) (λ (e : x ≡ suc passed). let q : f x ≡ f (suc passed) = ap f e in omega arith)
        (λ (n : ¬ (x ≡ suc passed)).
        let b : from ≤ passed = w.begun in
        let g : f (suc passed) < f x = rising (suc passed) x (omega arith) (omega (arith, n)) l in
        omega arith)

    -- the state that has a number which no head is below is the head
    pub head_is : (x n : ℕ) → from < x → x ≤ end → f x ≡ n → k < n → (passed < end → n ≤ f (suc passed)) → x ≡ suc passed
    head_is x n h l e g low =
        by_cases (dec_lt passed x)
        (λ (p : passed < x).
        by_cases (ℕ_discrete x (suc passed)) (λ (q : x ≡ suc passed). q)
        (λ (q : ¬ (x ≡ suc passed)).
        let b : from ≤ passed = w.begun in
        let a : n ≤ f (suc passed) = low (omega arith) in
        let z : f (suc passed) < f x = rising (suc passed) x (omega arith) (omega (arith, q)) l in
        absurd (omega arith)))
        (λ (p : ¬ (passed < x)). let a : f x ≤ k = w.behind x h (omega (arith, p)) in absurd (omega arith))

    card_next : NextOf (card_ahead f from end) k (head_number f passed end)
    card_next = by_cases (dec_lt passed end) there none_left
      where
        there : passed < end → NextOf (card_ahead f from end) k (head_number f passed end)
        there h =
            let b : from ≤ passed = w.begun in
            let g : k < f (suc passed) = w.before (suc passed) (omega arith) (omega arith) in
            let e : head_number f passed end ≡ f (suc passed) = ap (λ (t : Bool). cond t (f (suc passed)) 0) (lt-ltb passed end h) in
            let s : suc (from + (passed - from)) ≡ suc passed = omega arith in
            subst (λ (v : ℕ). NextOf (card_ahead f from end) k v) (sym e)
            (record {
              none = λ (z : f (suc passed) ≡ 0) j l. absurd (omega arith);
              above = λ z. g;
              passes = λ z. any_intro (end - from) (λ s. eqb (f (suc (from + s))) (f (suc passed))) (passed - from) (omega arith) (eq-eqb (f (suc (from + (passed - from)))) (f (suc passed)) (ap f s));
              least = λ j l u. fails (card_ahead f from end j) (λ (t : card_ahead f from end j ≡ true). lower j l u (any_elim (end - from) (λ s. eqb (f (suc (from + s))) j) t));
            })
          where
            lower : (j : ℕ) → k < j → j < f (suc passed) → Found (end - from) (λ s. eqb (f (suc (from + s))) j) → ⊥
            lower j l u q =
                let x : ℕ = suc (from + q.0) in
                let i : q.0 < end - from = q.1 in
                let e : f (suc (from + q.0)) ≡ j = eqb-true (f (suc (from + q.0))) j q.2 in
                by_cases (dec_lt passed (suc (from + q.0)))
                (λ (p : passed < suc (from + q.0)). let a : f (suc passed) ≤ f (suc (from + q.0)) = head_least (suc (from + q.0)) p (omega arith) in omega arith)
                (λ (p : ¬ (passed < suc (from + q.0))). let a : f (suc (from + q.0)) ≤ k = w.behind (suc (from + q.0)) (omega arith) (omega (arith, p)) in omega arith)

        none_left : ¬ (passed < end) → NextOf (card_ahead f from end) k (head_number f passed end)
        none_left h =
            let e : head_number f passed end ≡ 0 = ap (λ (t : Bool). cond t (f (suc passed)) 0) (le-ltb passed end (omega (arith, h))) in
            subst (λ (v : ℕ). NextOf (card_ahead f from end) k v) (sym e)
            (record {
              none = λ z j l. fails (card_ahead f from end j) (λ (t : card_ahead f from end j ≡ true). all_behind j l (any_elim (end - from) (λ s. eqb (f (suc (from + s))) j) t));
              above = λ z. absurd (z refl);
              passes = λ z. absurd (z refl);
              least = λ j l u. absurd (omega arith);
            })
          where
            all_behind : (j : ℕ) → k < j → Found (end - from) (λ s. eqb (f (suc (from + s))) j) → ⊥
            all_behind j l q =
                let i : q.0 < end - from = q.1 in
                let e : f (suc (from + q.0)) ≡ j = eqb-true (f (suc (from + q.0))) j q.2 in
                let a : f (suc (from + q.0)) ≤ k = w.behind (suc (from + q.0)) (omega arith) (omega (arith, h)) in
                omega arith

    -- a number above k that no head is below is passed
    card_past_lem : (n head : ℕ) → head ≡ head_number f passed end → k < n → (passed < end → n ≤ f (suc passed)) → CardPassed f from end (card_past passed end head n) n
    card_past_lem n head eh g low = by_cases (dec_lt passed end) (λ (h : passed < end). by_cases (ℕ_discrete (f (suc passed)) n) (moved h) (stays h)) ended
      where
        P : ℕ → Type 0
        P x = CardPassed f from end x n

        one : passed + 1 ≡ suc passed
        one = omega arith

        head_is_next : passed < end → head ≡ f (suc passed)
        head_is_next h = eh ∙ sym (head_there f passed end h)

        moved : passed < end → f (suc passed) ≡ n → P (card_past passed end head n)
        moved h e =
            subst P (sym one ∙ past_head passed end head n h (head_is_next h ∙ e))
            (record {
              begun = let b : from ≤ passed = w.begun in omega arith;
              behind = λ x a l. by_cases (ℕ_discrete x (suc passed)) (λ (q : x ≡ suc passed). let z : f x ≡ f (suc passed) = ap f q in omega arith)
                  (λ (q : ¬ (x ≡ suc passed)). let z : f x ≤ k = w.behind x a (omega (arith, q)) in omega arith);
              before = λ x a l. let b : from ≤ passed = w.begun in let z : f (suc passed) < f x = rising (suc passed) x (omega arith) a l in omega arith;
            })

        stays : passed < end → ¬ (f (suc passed) ≡ n) → P (card_past passed end head n)
        stays h e =
            subst P (past_other passed end head n h (λ (z : head ≡ n). e (sym (head_is_next h) ∙ z)))
            (record {
              begun = w.begun;
              behind = λ x a l. let z : f x ≤ k = w.behind x a l in omega arith;
              before = λ x a l. let z : f (suc passed) ≤ f x = head_least x a l in let y : n ≤ f (suc passed) = low h in omega (arith, e);
            })

        ended : ¬ (passed < end) → P (card_past passed end head n)
        ended h =
            subst P (past_end passed end head n (omega (arith, h)))
            (record {
              begun = w.begun;
              behind = λ x a l. let z : f x ≤ k = w.behind x a l in omega arith;
              before = λ x a l. absurd (omega (arith, h));
            })

-- ---- all cards
pub head_at : (changes passed ends : List ℕ) {heads : List ℕ} → heads ≡ head_numbers changes passed ends → (c : ℕ) → c < 16 → at heads c ≡ head_number (change_at changes c) (at passed c) (at ends c)
head_at changes passed ends e c h = ap (λ (l : List ℕ). at l c) e ∙ get_d_tabulate 16 (λ c. head_number (change_at changes c) (at passed c) (at ends c)) 0 c h

module _ {changes from ends : List ℕ} (r : Rises changes from ends) where
  -- no number is passed yet
  pub walk_start : Passed changes from ends from 0
  walk_start = record { card = λ c h. card_start (r.card c h) }

  -- the least number at the heads is the least of all above those passed
  pub walk_next : {passed heads : List ℕ} {k : ℕ} → Passed changes from ends passed k → heads ≡ head_numbers changes passed ends → NextOf (ahead changes from ends) k (least_of heads)
  walk_next {passed} {heads} {k} w e =
      next_least 16 (λ c. card_ahead (change_at changes c) (at from c) (at ends c)) (at heads) k
      (λ c h. subst (λ (v : ℕ). NextOf (card_ahead (change_at changes c) (at from c) (at ends c)) k v) (sym (head_at changes passed ends e c h)) (card_next (r.card c h) (w.card c h)))

  module _ {passed : List ℕ} {k : ℕ} (w : Passed changes from ends passed k) (n : ℕ) (none : (j : ℕ) → k < j → j < n → ahead changes from ends j ≡ false) where
    -- where no number ahead is below n, no head is
    pub walk_low : (c : ℕ) → c < 16 → at passed c < at ends c → n ≤ change_at changes c (suc (at passed c))
    walk_low c h l =
        by_cases (dec_lt (change_at changes c (suc (at passed c))) n)
        (λ (u : change_at changes c (suc (at passed c)) < n). clash (seen (w.card c h)) (none (change_at changes c (suc (at passed c))) ((w.card c h).before (suc (at passed c)) (omega arith) (omega arith)) u))
        (λ (u : ¬ (change_at changes c (suc (at passed c)) < n)). omega (arith, u))
      where
        seen : CardPassed (change_at changes c) (at from c) (at ends c) (at passed c) k → ahead changes from ends (change_at changes c (suc (at passed c))) ≡ true
        seen v =
            let b : at from c ≤ at passed c = v.begun in
            let s : suc (at from c + (at passed c - at from c)) ≡ suc (at passed c) = omega arith in
            any_intro 16 (λ i. card_ahead (change_at changes i) (at from i) (at ends i) (change_at changes c (suc (at passed c)))) c h
            (any_intro (at ends c - at from c) (λ s. eqb (change_at changes c (suc (at from c + s))) (change_at changes c (suc (at passed c)))) (at passed c - at from c) (omega arith)
            (eq-eqb (change_at changes c (suc (at from c + (at passed c - at from c)))) (change_at changes c (suc (at passed c))) (ap (change_at changes c) s)))

    -- and the cards brought past n have passed the numbers up to it
    pub walk_past : {heads : List ℕ} → heads ≡ head_numbers changes passed ends → k < n → Passed changes from ends (all_past passed ends heads n) n
    walk_past {heads} e g =
        record {
          card = λ c h.
              subst (λ (x : ℕ). CardPassed (change_at changes c) (at from c) (at ends c) x n)
              (sym (get_d_tabulate 16 (λ c. card_past (at passed c) (at ends c) (at heads c) n) 0 c h))
              (card_past_lem (r.card c h) (w.card c h) n (at heads c) (head_at changes passed ends e c h) g (walk_low c h));
        }

  -- exactly the numbers above those passed are ahead
  pub walk_ahead : {passed : List ℕ} {k : ℕ} → Passed changes from ends passed k → (j : ℕ) → ahead changes passed ends j ≡ ltb k j && ahead changes from ends j
  walk_ahead {passed} {k} w j = same_test (ahead changes passed ends j) (ltb k j && ahead changes from ends j) forth back
    where
      forth : ahead changes passed ends j ≡ true → ltb k j && ahead changes from ends j ≡ true
      forth t = card (any_elim 16 (λ c. card_ahead (change_at changes c) (at passed c) (at ends c) j) t)
        where
          card : Found 16 (λ c. card_ahead (change_at changes c) (at passed c) (at ends c) j) → ltb k j && ahead changes from ends j ≡ true
          card q = state q.0 q.1 (w.card q.0 q.1) (any_elim (at ends q.0 - at passed q.0) (λ s. eqb (change_at changes q.0 (suc (at passed q.0 + s))) j) q.2)
            where
              state : (c : ℕ) → c < 16 → CardPassed (change_at changes c) (at from c) (at ends c) (at passed c) k → Found (at ends c - at passed c) (λ s. eqb (change_at changes c (suc (at passed c + s))) j) → ltb k j && ahead changes from ends j ≡ true
              state c h v s =
                  let i : s.0 < at ends c - at passed c = s.1 in
                  let b : at from c ≤ at passed c = v.begun in
                  let e : change_at changes c (suc (at passed c + s.0)) ≡ j = eqb-true (change_at changes c (suc (at passed c + s.0))) j s.2 in
                  let g : k < change_at changes c (suc (at passed c + s.0)) = v.before (suc (at passed c + s.0)) (omega arith) (omega arith) in
                  let x : suc (at from c + (at passed c + s.0 - at from c)) ≡ suc (at passed c + s.0) = omega arith in
                  and_intro (lt-ltb k j (omega arith))
                  (any_intro 16 (λ i. card_ahead (change_at changes i) (at from i) (at ends i) j) c h
                  (any_intro (at ends c - at from c) (λ s. eqb (change_at changes c (suc (at from c + s))) j) (at passed c + s.0 - at from c) (omega arith)
                  (eq-eqb (change_at changes c (suc (at from c + (at passed c + s.0 - at from c)))) j (ap (change_at changes c) x ∙ e))))

      back : ltb k j && ahead changes from ends j ≡ true → ahead changes passed ends j ≡ true
      back t = card (ltb-true k j (and_left (ltb k j) (ahead changes from ends j) t)) (any_elim 16 (λ c. card_ahead (change_at changes c) (at from c) (at ends c) j) (and_right (ltb k j) (ahead changes from ends j) t))
        where
          card : k < j → Found 16 (λ c. card_ahead (change_at changes c) (at from c) (at ends c) j) → ahead changes passed ends j ≡ true
          card g q = state q.0 q.1 (w.card q.0 q.1) (any_elim (at ends q.0 - at from q.0) (λ s. eqb (change_at changes q.0 (suc (at from q.0 + s))) j) q.2)
            where
              state : (c : ℕ) → c < 16 → CardPassed (change_at changes c) (at from c) (at ends c) (at passed c) k → Found (at ends c - at from c) (λ s. eqb (change_at changes c (suc (at from c + s))) j) → ahead changes passed ends j ≡ true
              state c h v s =
                  let i : s.0 < at ends c - at from c = s.1 in
                  let e : change_at changes c (suc (at from c + s.0)) ≡ j = eqb-true (change_at changes c (suc (at from c + s.0))) j s.2 in
                  by_cases (dec_lt (at passed c) (suc (at from c + s.0)))
                  (λ (l : at passed c < suc (at from c + s.0)).
                  let x : suc (at passed c + (at from c + s.0 - at passed c)) ≡ suc (at from c + s.0) = omega arith in
                  any_intro 16 (λ i. card_ahead (change_at changes i) (at passed i) (at ends i) j) c h
                  (any_intro (at ends c - at passed c) (λ s. eqb (change_at changes c (suc (at passed c + s))) j) (at from c + s.0 - at passed c) (omega arith)
                  (eq-eqb (change_at changes c (suc (at passed c + (at from c + s.0 - at passed c)))) j (ap (change_at changes c) x ∙ e))))
                  (λ (l : ¬ (at passed c < suc (at from c + s.0))).
                  let y : change_at changes c (suc (at from c + s.0)) ≤ k = v.behind (suc (at from c + s.0)) (omega arith) (omega (arith, l)) in
                  absurd (omega arith))
