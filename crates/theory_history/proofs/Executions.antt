-- A state consistent by Definition 3 is a cut without the bound of stored, and the other way round. Assumes nothing.
use Prim.Native.Nat.{ℕ, zero, suc, ◌+◌, ◌<◌}
use mathlib.Core.Path.{◌≡◌, refl, sym, ◌∙◌, ap}
use mathlib.Core.Bool.{Bool, true, false, ◌&&◌, ◌||◌}
use mathlib.Core.Logic.{by_cases}
use native.Mathlib.Nat.{le_step, lt-suc_self, lt_trans}
use native.Mathlib.Decide.{dec_lt}
use native.Mathlib.Omega.{arith}
use lib.Dec.{eqb}
use borrow.Author.Tests.{eqb-true, eq-eqb, ne_eqb}
use Rattle.base_laws.specs.Below.{one_if, count_below, any_below}
use Rattle.base_laws.proofs.Logic.{fails, same_test}
use Rattle.base_laws.proofs.Below.{Found, any_intro, any_elim, count_same, count_once, count_past, Nth, nth}
use Rattle.theory_history.specs.Change.{History, Numbers, writers, Precedes, writers_in, Closed, ConsistentCut}
use Rattle.theory_history.specs.Report.{Consistent}
use Rattle.theory_history.proofs.Precedence.{by_document, by_report, forward}

-- the members of T's first l
abbrev pub listed : (ℕ → ℕ) → ℕ → ℕ → Bool
listed T l i = any_below l (λ x. eqb (T x) i)

pub listed_at : (T : ℕ → ℕ) (l x : ℕ) → x < l → listed T l (T x) ≡ true
listed_at T l x h = any_intro l (λ y. eqb (T y) (T x)) x h (eq-eqb (T x) (T x) refl)

pub at_listed : (T : ℕ → ℕ) (l i : ℕ) → listed T l i ≡ true → (x : ℕ) × (x < l) × (T x ≡ i)
at_listed T l i e =
    let r : Found l (λ x. eqb (T x) i) = any_elim l (λ x. eqb (T x) i) e in (r.0, r.1, eqb-true (T r.0) i r.2)

none_counted : (n : ℕ) → count_below n (λ i. false) ≡ 0
none_counted zero = refl
none_counted (suc n) = let e : count_below n (λ i. false) ≡ 0 = none_counted n in omega arith

-- a list without doubles passes a test as often as the set of its members does
pub count_listed : (l n : ℕ) (T : ℕ → ℕ) (f : ℕ → Bool) → ((x y : ℕ) → x < l → y < l → T x ≡ T y → x ≡ y) → ((x : ℕ) → x < l → T x < n)
    → count_below l (λ x. f (T x)) ≡ count_below n (λ i. listed T l i && f i)
count_listed zero n T f d b = sym (none_counted n)
count_listed (suc l) n T f d b = more (count_listed l n T f (λ x y p q. d x y (le_step p) (le_step q)) (λ x p. b x (le_step p)))
  where
    new : listed T l (T l) ≡ false
    new =
        fails (listed T l (T l))
        (λ e. let r : (x : ℕ) × (x < l) × (T x ≡ T l) = at_listed T l (T l) e in absurd (omega (arith, r.1, d r.0 l (le_step r.1) (lt-suc_self l) r.2)))

    p : ℕ → Bool
    p i = listed T l i && f i

    q : ℕ → Bool
    q i = listed T (suc l) i && f i

    p_new : p (T l) ≡ false
    p_new = rw new

    elsewhere : (i : ℕ) → i < n → ¬ (i ≡ T l) → p i ≡ q i
    elsewhere i h z = rw (ne_eqb (T l) i (λ (y : T l ≡ i). z (sym y))) (or_none (listed T l i) (f i))
      where
        or_none : (a c : Bool) → a && c ≡ (a || false) && c
        or_none true c = refl
        or_none false c = refl

    q_new : q (T l) ≡ f (T l)
    q_new = rw (listed_at T (suc l) l (lt-suc_self l))

    more : count_below l (λ x. f (T x)) ≡ count_below n p → count_below l (λ x. f (T x)) + one_if (f (T l)) ≡ count_below n q
    more h =
        let z : one_if (q (T l)) ≡ one_if (f (T l)) = ap one_if q_new in
        omega (arith, count_once n (T l) p q (b l (lt-suc_self l)) p_new elsewhere)

-- ---- from Definition 3 to a cut
module _ (w : ℕ) (H : History) (start : Numbers) (n : ℕ) (g : Numbers) where
  pub consistent_cut : Consistent w H start n g → ConsistentCut w H start n g
  consistent_cut k =
      record {
        set = listed k.T k.l;
        closed = closed;
        leaves = λ c h. k.represents c h ∙ ap (λ (x : ℕ). start c + x) (count_listed k.l n k.T (λ i. (H i).writes c) k.distinct k.clause_a);
      }
    where
      closed : Closed w H n (listed k.T k.l)
      closed i h e t p =
          let r : (x : ℕ) × (x < k.l) × (k.T x ≡ i) = at_listed k.T k.l i e in
          let s : (y : ℕ) × (y < k.l) × (k.T y ≡ t) = k.clause_b r.0 r.1 t (rw r.2 (by_report w H start p)) in
          rw s.2 at (listed_at k.T k.l s.0 s.1)

-- ---- from a cut to Definition 3: its changes in the order of the history
module _ (n : ℕ) (P : ℕ → Bool) where
  choose : (x : ℕ) → Dec (x < count_below n P) → ℕ
  choose x (yes h) = (nth n P x h).at
  choose x (no h) = 0

  -- the changes of the set, by their place in it
  member : ℕ → ℕ
  member x = choose x (dec_lt x (count_below n P))

  chosen : (x : ℕ) (d : Dec (x < count_below n P)) → x < count_below n P → (choose x d < n) × (P (choose x d) ≡ true) × (count_below (choose x d) P ≡ x)
  unfolding choose
  chosen x (yes h) z = let r : Nth n P x = nth n P x h in (r.below, r.passes, r.before)
  chosen x (no h) z = absurd (h z)

  member_is : (x : ℕ) → x < count_below n P → (member x < n) × (P (member x) ≡ true) × (count_below (member x) P ≡ x)
  unfolding member
  member_is x z = chosen x (dec_lt x (count_below n P)) z

  -- two members before which equally many stand are the same
  same_place : (i k : ℕ) → P i ≡ true → P k ≡ true → count_below i P ≡ count_below k P → i ≡ k
  same_place i k p q e =
      by_cases (dec_lt i k) (λ h. absurd (omega (arith, count_past P h p)))
      (λ h. by_cases (dec_lt k i) (λ z. absurd (omega (arith, count_past P z q))) (λ z. omega (arith, h, z)))

  place : (i : ℕ) → i < n → P i ≡ true → (x : ℕ) × (x < count_below n P) × (member x ≡ i)
  place i h p =
      let z : count_below i P < count_below n P = count_past P h p in
      let r : (member (count_below i P) < n) × (P (member (count_below i P)) ≡ true) × (count_below (member (count_below i P)) P ≡ count_below i P) = member_is (count_below i P) z in
      (count_below i P, z, same_place (member (count_below i P)) i r.1 p r.2)

module _ (w : ℕ) (H : History) (start : Numbers) (n : ℕ) (g : Numbers) where
  pub cut_consistent : ConsistentCut w H start n g → Consistent w H start n g
  cut_consistent k =
      record {
        l = count_below n P;
        T = member n P;
        distinct = distinct;
        represents = λ c h. k.leaves c h ∙ ap (λ (x : ℕ). start c + x) (sym (counts c));
        clause_a = λ x z. (member_is n P x z).0;
        clause_b = λ x z t p. let q : Precedes w H t (member n P x) = by_document w H start p in
            place n P t (lt_trans (forward q) (member_is n P x z).0) (k.closed (member n P x) (member_is n P x z).0 (member_is n P x z).1 t q);
        clause_c = λ x y u z p. let q : member n P x < member n P y = forward (by_document w H start p) in
            omega (arith, count_past P q (member_is n P x u).1, (member_is n P x u).2, (member_is n P y z).2);
      }
    where
      P : ℕ → Bool
      P = k.set

      distinct : (x y : ℕ) → x < count_below n P → y < count_below n P → member n P x ≡ member n P y → x ≡ y
      distinct x y u z e = sym (member_is n P x u).2 ∙ ap (λ (i : ℕ). count_below i P) e ∙ (member_is n P y z).2

      counts : (c : ℕ) → writers (λ x. H (member n P x)) c (count_below n P) ≡ writers_in P H c n
      counts c =
          count_listed (count_below n P) n (member n P) (λ i. (H i).writes c) distinct (λ x z. (member_is n P x z).0)
          ∙ count_same n (λ i. listed (member n P) (count_below n P) i && (H i).writes c) (λ i. P i && (H i).writes c)
          (λ i h. ap (λ (b : Bool). b && (H i).writes c) (same_test (listed (member n P) (count_below n P) i) (P i)
          (λ e. let r : (x : ℕ) × (x < count_below n P) × (member n P x ≡ i) = at_listed (member n P) (count_below n P) i e in rw r.2 at (member_is n P r.0 r.1).1)
          (λ e. let r : (x : ℕ) × (x < count_below n P) × (member n P x ≡ i) = place n P i h e in rw r.2 at (listed_at (member n P) (count_below n P) r.0 r.1))))
