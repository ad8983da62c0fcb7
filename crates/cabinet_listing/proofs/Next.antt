-- The number of the change lost that comes next in the merge is the least above those met. Assumes nothing.
use Prim.Native.Nat.{ℕ, suc, ◌+◌, ◌-◌, ◌<◌}
use mathlib.Core.Path.{◌≡◌, refl, sym, ◌∙◌, ap, subst}
use mathlib.Core.Bool.{Bool, true, false, not, ◌&&◌, ◌||◌, cond}
use mathlib.Core.List.{List}
use mathlib.Core.Logic.{by_cases}
use native.Mathlib.Decide.{dec_lt}
use native.Mathlib.Omega.{arith}
use lib.Dec.{eqb, ltb}
use borrow.Author.Tests.{lt-ltb, le-ltb, eq-eqb, ne_eqb}
use Rattle.base_laws.specs.Below.{any_below}
use Rattle.base_laws.proofs.Logic.{fails, clash, or_left}
use Rattle.base_laws.proofs.Fill.{any_same}
use Rattle.cabinet_layout.specs.Shape.{at}
use Rattle.base_merge.specs.Merge.{NextOf, Rises, Passed, change_at, ends_of, head_numbers, least_of, all_past, card_ahead, ahead}
use Rattle.base_merge.proofs.Next.{next_either, next_least, next_same}
use Rattle.base_merge.proofs.Head.{end_at}
use Rattle.base_merge.proofs.Walk.{walk_next, walk_past}
use Rattle.cabinet_listing.specs.Lost.{number_above, least_ended, next_lost, framed_by, ended_by, lost_by}

-- of one number
pub next_one : (x k : ℕ) → NextOf (λ j. eqb x j) k (number_above x k)
next_one x k =
    by_cases (dec_lt k x)
    (λ (h : k < x). let e : number_above x k ≡ x = ap (λ (b : Bool). cond b x 0) (lt-ltb k x h) in
    subst (λ (r : ℕ). NextOf (λ j. eqb x j) k r) (sym e)
    (record {
      none = λ (z : x ≡ 0) j l. absurd (omega arith);
      above = λ z. h;
      passes = λ z. eq-eqb x x refl;
      least = λ j l u. ne_eqb x j (λ (z : x ≡ j). absurd (omega arith));
    }))
    (λ (h : ¬ (k < x)). let e : number_above x k ≡ 0 = ap (λ (b : Bool). cond b x 0) (le-ltb k x (omega (arith, h))) in
    subst (λ (r : ℕ). NextOf (λ j. eqb x j) k r) (sym e)
    (record {
      none = λ z j l. ne_eqb x j (λ (q : x ≡ j). absurd (h (omega arith)));
      above = λ z. absurd (z refl);
      passes = λ z. absurd (z refl);
      least = λ j l u. absurd (omega arith);
    }))

next_ended : (ended : List ℕ) (k : ℕ) → NextOf (ended_by ended) k (least_ended ended k)
next_ended ended k = next_least 8 (λ p j. eqb (at ended p) j) (λ p. number_above (at ended p) k) k (λ p h. next_one (at ended p) k)

-- the change j is lost, by the last states of the cards
abbrev pub lost_to : (changes line ends ended : List ℕ) → ℕ → Bool
lost_to changes line ends ended j = not (eqb j 0) && (ahead changes line ends j || ended_by ended j)

module _ (changes line reached ended : List ℕ) (cards : ℕ) where
  -- a card that is not there has nothing ahead
  card_ahead_lem : (j c : ℕ) → c < 16 → card_ahead (change_at changes c) (at line c) (at (ends_of reached cards) c) j ≡ ltb c cards && framed_by changes c (at line c) (at reached c) j
  card_ahead_lem j c h =
      ap (λ (x : ℕ). card_ahead (change_at changes c) (at line c) x j) (end_at reached cards c h) ∙ there (ltb c cards)
    where
      there : (b : Bool) → card_ahead (change_at changes c) (at line c) (cond b (at reached c) 0) j ≡ b && framed_by changes c (at line c) (at reached c) j
      there true = refl
      there false = let e : 0 - at line c ≡ 0 = omega arith in ap (λ (x : ℕ). any_below x (λ s. eqb (change_at changes c (suc (at line c + s))) j)) e

  pub lost_to_lem : lost_to changes line (ends_of reached cards) ended ≡ lost_by changes line reached ended cards
  lost_to_lem i j =
      ap (λ (a : Bool). not (eqb j 0) && (a || ended_by ended j))
      (any_same 16 (λ c. card_ahead (change_at changes c) (at line c) (at (ends_of reached cards) c) j) (λ c. ltb c cards && framed_by changes c (at line c) (at reached c) j) (card_ahead_lem j)) i

module _ (changes line ends ended : List ℕ) (r : Rises changes line ends) {passed heads : List ℕ} {k : ℕ} (w : Passed changes line ends passed k) (eh : heads ≡ head_numbers changes passed ends) where
  same : (j : ℕ) → k < j → lost_to changes line ends ended j ≡ ahead changes line ends j || ended_by ended j
  same j h = ap (λ (b : Bool). not b && (ahead changes line ends j || ended_by ended j)) (ne_eqb j 0 (λ (z : j ≡ 0). absurd (omega arith)))

  pub lost_next : NextOf (lost_to changes line ends ended) k (next_lost heads ended k)
  lost_next =
      next_same (lost_to changes line ends ended) same
      (next_either (ahead changes line ends) (ended_by ended) k (least_of heads) (least_ended ended k) (walk_next r w eh) (next_ended ended k))

  -- the cards brought past it
  pub lost_past : (x : ℕ) → NextOf (lost_to changes line ends ended) k x → k < x → Passed changes line ends (all_past passed ends heads x) x
  lost_past x n h =
      walk_past r w x
      (λ j l u. fails (ahead changes line ends j) (λ (t : ahead changes line ends j ≡ true). clash (same j l ∙ or_left (ended_by ended j) t) (n.least j l u)))
      eh h
