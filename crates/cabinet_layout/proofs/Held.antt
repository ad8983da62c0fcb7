-- Vectors as lists of 16 entries, sets as numbers of 16 bits, slots as what they hold. Assumes nothing.
use Prim.Native.Nat.{ℕ, suc, ◌+◌, ◌≤◌, ◌<◌, max}
use mathlib.Core.Path.{◌≡◌, refl, sym, ◌∙◌, ap, ap₂}
use mathlib.Core.Bool.{Bool, true, false, not, ◌&&◌, ◌||◌, cond}
use mathlib.Core.List.{List}
use mathlib.Core.Logic.{by_cases}
use native.Mathlib.Decide.{dec_lt, ℕ_discrete}
use native.Mathlib.Omega.{arith}
use lib.ListN.{length, set, replicate, length-set, get_or-eq_default}
use lib.Seq.{get_or-set_same, get_or-set_other}
use native.Mathlib.Numerals.{add-one}
use lib.Dec.{eqb, leb, ltb}
use borrow.Author.Tests.{lt-ltb, le-ltb, le-leb, lt-leb, eq-eqb, ne_eqb}
use Rattle.base_laws.specs.Below.{all_below, greatest, tabulate}
use Rattle.base_laws.proofs.Fill.{all_same, tabulate_ext, tabulate_same, length_tabulate, get_d_tabulate}
use Rattle.base_bits.specs.Member.{member, number}
use Rattle.base_bits.specs.Sets.{either, one, truncate}
use Rattle.base_bits.proofs.Members.{number_members, number_same, members_are, member_none}
use Rattle.theory_history.specs.Change.{CardSet, Numbers}
use Rattle.theory_history.specs.Vector.{no_entries, joined, with_own}
use Rattle.theory_protocol.specs.Model.{OpenChange, free_slot, with_card, no_cards}
use Rattle.cabinet_layout.specs.declared.Slot.{Slot}
use Rattle.cabinet_layout.specs.Shape.{limits16, at, list_of, set_of, open_of, empty_slot, slot_for}
use Rattle.cabinet_layout.proofs.Limits.{width16}

-- ---- vectors
pub list_by : (l : List ℕ) (f : Numbers) → length l ≡ 16 → ((k : ℕ) → k < 16 → at l k ≡ f k) → l ≡ list_of f
list_by l f e h = tabulate_ext 0 16 f l e h ∙ ap (λ (n : ℕ). tabulate n f) (sym width16)

pub list_known : (l : List ℕ) → length l ≡ 16 → l ≡ list_of (at l)
list_known l e = list_by l (at l) e (λ k h. refl)

pub list_same : (f g : Numbers) → ((k : ℕ) → k < 16 → f k ≡ g k) → list_of f ≡ list_of g
list_same f g h = tabulate_same limits16.width f g (λ k l. h k (omega (arith, width16)))

pub at_list : (f : Numbers) (k : ℕ) → k < 16 → at (list_of f) k ≡ f k
at_list f k h = get_d_tabulate limits16.width f 0 k (omega (arith, width16))

-- a vector read back: f, where f has no entries beyond the width
pub at_list_all : (f : Numbers) → ((k : ℕ) → 16 ≤ k → f k ≡ 0) → at (list_of f) ≡ f
at_list_all f h = λ i d. each d i
  where
    each : (k : ℕ) → at (list_of f) k ≡ f k
    each k = by_cases (dec_lt k 16) (at_list f k) (λ l. get_or-eq_default (list_of f) 0 (omega (arith, l, length_tabulate limits16.width f, width16)) ∙ sym (h k (omega (arith, l))))

-- the vector whose entry for card c is set to state s
pub own_set : (v : List ℕ) (c s : ℕ) → length v ≡ 16 → c < 16 → set v c (s + 1) ≡ list_of (with_own c s (at v))
own_set v c s e h = list_by (set v c (s + 1)) (with_own c s (at v)) (length-set v c (s + 1) ∙ e) each
  where
    here : (k : ℕ) → k ≡ c → at (set v c (s + 1)) k ≡ with_own c s (at v) k
    here k q =
        ap (λ (i : ℕ). at (set v c (s + 1)) i) q ∙ get_or-set_same v c (s + 1) 0 (omega (arith, e)) ∙ add-one s
        ∙ sym (ap (λ (b : Bool). cond b (suc s) (at v k)) (eq-eqb k c q))

    other : (k : ℕ) → ¬ (k ≡ c) → at (set v c (s + 1)) k ≡ with_own c s (at v) k
    other k q = get_or-set_other v c k (s + 1) 0 q ∙ sym (ap (λ (b : Bool). cond b (suc s) (at v k)) (ne_eqb k c q))

    each : (k : ℕ) → k < 16 → at (set v c (s + 1)) k ≡ with_own c s (at v) k
    each k l = by_cases (ℕ_discrete k c) (here k) (other k)

pub zero_listed : replicate 16 0 ≡ list_of no_entries
unfolding limits16
zero_listed = refl

-- the greatest of one vector more
pub join_step : (f : ℕ → Numbers) (c : ℕ) (out s : List ℕ) → out ≡ list_of (λ j. greatest c (λ i. f i j)) → s ≡ list_of (f c)
    → list_of (joined (at out) (at s)) ≡ list_of (λ j. greatest (c + 1) (λ i. f i j))
join_step f c out s eo es =
    list_same (joined (at out) (at s)) (λ j. greatest (c + 1) (λ i. f i j))
    (λ k h. ap₂ max (ap (λ (l : List ℕ). at l k) eo ∙ at_list (λ j. greatest c (λ i. f i j)) k h) (ap (λ (l : List ℕ). at l k) es ∙ at_list (f c) k h)
    ∙ ap (λ (n : ℕ). greatest n (λ i. f i k)) (sym (add-one c)))

-- ---- sets
pub not_not : (b : Bool) → not (not b) ≡ b
not_not true = refl
not_not false = refl

pub not_ltb : (a b : ℕ) → not (ltb a b) ≡ leb b a
not_ltb a b = by_cases (dec_lt a b) (λ (h : a < b). rw (lt-ltb a b h, lt-leb b a h)) (λ (h : ¬ (a < b)). let l : b ≤ a = omega (arith, h) in rw (le-ltb a b l, le-leb b a l))

pub set_by : (x : ℕ) (p : CardSet) → x < 65536 → ((i : ℕ) → i < 16 → member x i ≡ p i) → x ≡ set_of p
set_by x p h f = sym (number_members 16 x h) ∙ number_same 16 (member x) p f ∙ ap (λ (w : ℕ). number w p) (sym width16)

pub set_known : (x : ℕ) → x < 65536 → x ≡ set_of (member x)
set_known x h = set_by x (member x) h (λ i l. refl)

-- a set read back: p, where p has no card beyond the width
pub member_set : (p : CardSet) → ((k : ℕ) → 16 ≤ k → p k ≡ false) → member (set_of p) ≡ p
member_set p h = ap (λ (w : ℕ). member (number w p)) width16 ∙ members_are 16 p h

-- a card put in
pub put_same : (x c : ℕ) (i : ℕ) → i < 16 → truncate 16 (either (member x) (one c)) i ≡ with_card (member x) c i
put_same x c i h = ap (λ (b : Bool). b && (member x i || eqb i c)) (lt-ltb i 16 h) ∙ turned (member x i) (eqb i c)
  where
    turned : (a b : Bool) → a || b ≡ b || a
    turned true true = refl
    turned true false = refl
    turned false true = refl
    turned false false = refl

-- all of a set are in one with a card put in
pub all_put : (s : CardSet) (x y c : ℕ) → member y ≡ truncate 16 (either (member x) (one c))
    → all_below limits16.width (λ k. not (s k) || member y k) ≡ all_below limits16.width (λ k. not (s k) || with_card (member x) c k)
all_put s x y c e =
    all_same limits16.width _ _
    (λ k h. ap (λ (b : Bool). not (s k) || b) (ap (λ (p : CardSet). p k) e ∙ put_same x c k (omega (arith, width16))))

pub set_put : (x y c : ℕ) → y < 65536 → member y ≡ truncate 16 (either (member x) (one c)) → y ≡ set_of (with_card (member x) c)
set_put x y c h e = set_by y (with_card (member x) c) h (λ i l. ap (λ (p : CardSet). p i) e ∙ put_same x c i l)

-- ---- slots
pub slot_by : {p q : Slot} → p.vector ≡ q.vector → p.number ≡ q.number → p.reads ≡ q.reads → p.writes ≡ q.writes → p.yes ≡ q.yes → p.taken ≡ q.taken → p ≡ q
slot_by ev en er ew ey et = λ i. record { vector = ev i; number = en i; reads = er i; writes = ew i; yes = ey i; taken = et i }

pub zero_set : set_of no_cards ≡ 0
unfolding limits16
zero_set = refl

pub no_members : member 0 ≡ no_cards
no_members = λ i c. member_none c i

open_by : {o q : OpenChange} → o.change.number ≡ q.change.number → o.change.reads ≡ q.change.reads → o.change.writes ≡ q.change.writes → o.yes ≡ q.yes → o.taken ≡ q.taken → o.vector ≡ q.vector → o ≡ q
open_by en er ew ey et ev = λ i. record { change = record { number = en i; reads = er i; writes = ew i }; yes = ey i; taken = et i; vector = ev i }

-- what an open change must be to stand in a place: no card and no entry beyond the width
pub record Fits (o : OpenChange) : Type 0 where
  pub reads : (k : ℕ) → 16 ≤ k → o.change.reads k ≡ false
  pub writes : (k : ℕ) → 16 ≤ k → o.change.writes k ≡ false
  pub yes : (k : ℕ) → 16 ≤ k → o.yes k ≡ false
  pub taken : (k : ℕ) → 16 ≤ k → o.taken k ≡ false
  pub vector : (k : ℕ) → 16 ≤ k → o.vector k ≡ 0

pub open_back : (o : OpenChange) → Fits o → open_of (slot_for o) ≡ o
open_back o f =
    open_by refl (member_set o.change.reads f.reads) (member_set o.change.writes f.writes) (member_set o.yes f.yes) (member_set o.taken f.taken)
    (at_list_all o.vector f.vector)

pub free_fits : Fits free_slot
free_fits = record { reads = λ k h. refl; writes = λ k h. refl; yes = λ k h. refl; taken = λ k h. refl; vector = λ k h. refl }

pub no_slot : open_of empty_slot ≡ free_slot
no_slot = open_by refl no_members no_members no_members no_members refl
