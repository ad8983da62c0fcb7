-- Frames of 16 entries, judged for any number of cards: those that they have, and further cards, none each. Assumes nothing.
use Prim.Native.Nat.{ℕ, zero, suc, ◌+◌, ◌-◌, ◌≤◌, ◌<◌, min}
use mathlib.Core.Path.{◌≡◌, refl, sym, ◌∙◌, ap}
use mathlib.Core.Bool.{Bool, true, false, not, ◌&&◌, ◌||◌}
use mathlib.Core.List.{List}
use native.Mathlib.Omega.{arith}
use lib.Dec.{eqb}
use lib.ListN.{length, get_or, get_or-eq_default}
use borrow.Author.Tests.{le-leb, eq-eqb, ne_eqb, eqb-true}
use Rattle.base_laws.specs.Below.{all_below}
use Rattle.base_laws.proofs.Below.{all_at, all_intro, all_same}
use Rattle.base_laws.proofs.Logic.{same_test}
use Rattle.sheet_lines.specs.Format.{Format}
use Rattle.sheet_lines.specs.Lines.{entry_allowed, entries_allowed}

-- a test of every number below a + b is one below a and one of the b behind it
all_split : (a b : ℕ) (p : ℕ → Bool) → all_below (a + b) p ≡ (all_below a p && all_below b (λ j. p (a + j)))
all_split a zero p = let z : a + 0 ≡ a = omega arith in rw z (sym (last (all_below a p)))
  where
    last : (x : Bool) → x && true ≡ x
    last true = refl
    last false = refl
all_split a (suc b) p =
    let z : a + suc b ≡ suc (a + b) = omega arith in
    rw (z, all_split a b p) (group (all_below a p) (all_below b (λ j. p (a + j))) (p (a + b)))
  where
    group : (x y w : Bool) → (x && y) && w ≡ x && (y && w)
    group true y w = refl
    group false y w = refl

-- the test of a further card's entry
abbrev absent : ℕ → ℕ → ℕ → Bool
absent card state j = not (eqb (16 + j) card) || eqb 0 state

-- in every format none passes but for the own entry
absent_is : (f : Format) (card state j : ℕ) → entry_allowed f card state (16 + j) 0 0 ≡ absent card state j
absent_is f card state j = rw (le-leb 0 0 (omega arith), le-leb 0 f.states (omega arith)) (ap (λ (b : Bool). b && absent card state j) (either f.short))
  where
    either : (b : Bool) → b || true ≡ true
    either true = refl
    either false = refl

entries_split :
    (f : Format) (card state n : ℕ) (ps es : List ℕ) {m : ℕ} →
    length ps ≡ 16 →
    length es ≡ 16 →
    m ≡ min n 16 →
    (entries_allowed f card state m ps es && all_below (n - 16) (absent card state)) ≡ entries_allowed f card state n ps es
unfolding entries_allowed
entries_split f card state n ps es {m} x y e =
    let p : ℕ → Bool = λ j. entry_allowed f card state j (get_or ps j 0) (get_or es j 0) in
    let z : n ≡ m + (n - 16) = omega (arith, e) in
    ap (λ (b : Bool). all_below m p && b)
    (all_same (n - 16) (absent card state) (λ j. p (m + j))
    (λ j h.
    let k : m + j ≡ 16 + j = omega (arith, e, h) in
    let u : get_or ps (m + j) 0 ≡ 0 = get_or-eq_default ps 0 (omega arith) in
    let v : get_or es (m + j) 0 ≡ 0 = get_or-eq_default es 0 (omega arith) in
    sym (rw (u, v, k) (absent_is f card state j))))
    ∙ sym (ap (λ (k : ℕ). all_below k p) z ∙ all_split m (n - 16) p)

-- an entry of another card passes where it is none
other_absent : (card state j : ℕ) → (16 + j ≡ card → ⊥) → absent card state j ≡ true
other_absent card state j h = rw (ne_eqb (16 + j) card h)

pub absent_other : (card state n : ℕ) → ((j : ℕ) → j < n - 16 → 16 + j ≡ card → ⊥) → true ≡ all_below (n - 16) (absent card state)
absent_other card state n h = sym (all_intro (n - 16) (absent card state) (λ j l. other_absent card state j (h j l)))

-- where the own entry is among them it is state − 1 only at state 0
pub absent_own : (card state n : ℕ) → 16 ≤ card → card < n → eqb state 0 ≡ all_below (n - 16) (absent card state)
absent_own card state n h l = same_test (eqb state 0) (all_below (n - 16) (absent card state)) all_pass own_passes
  where
    at_own : 16 + (card - 16) ≡ card
    at_own = omega arith

    all_pass : eqb state 0 ≡ true → all_below (n - 16) (absent card state) ≡ true
    all_pass e =
        let z : 0 ≡ state = sym (eqb-true state 0 e) in
        all_intro (n - 16) (absent card state) (λ j b. rw (eq-eqb 0 state z) (either (not (eqb (16 + j) card))))
      where
        either : (b : Bool) → b || true ≡ true
        either true = refl
        either false = refl

    own_passes : all_below (n - 16) (absent card state) ≡ true → eqb state 0 ≡ true
    own_passes e =
        let q : absent card state (card - 16) ≡ true = all_at (n - 16) (absent card state) e (card - 16) (omega arith) in
        let w : eqb 0 state ≡ true = rw (eq-eqb (16 + (card - 16)) card at_own) at q in
        eq-eqb state 0 (sym (eqb-true 0 state w))

-- ---- the two tests of the code, put together

module _ (f : Format) (card state n : ℕ) (ps es : List ℕ) {m : ℕ} (x : length ps ≡ 16) (y : length es ≡ 16) (e : m ≡ min n 16) {r : Bool} (q : r ≡ entries_allowed f card state m ps es) where
  pub entries_fail : r ≡ false → entries_allowed f card state n ps es ≡ false
  entries_fail g =
      let z : entries_allowed f card state m ps es ≡ false = sym q ∙ g in
      sym (entries_split f card state n ps es x y e) ∙ ap (λ (b : Bool). b && all_below (n - 16) (absent card state)) z

  pub entries_pass : {a : Bool} → r ≡ true → a ≡ all_below (n - 16) (absent card state) → entries_allowed f card state n ps es ≡ a
  entries_pass t v =
      let z : entries_allowed f card state m ps es ≡ true = sym q ∙ t in
      sym (entries_split f card state n ps es x y e) ∙ ap (λ (b : Bool). b && all_below (n - 16) (absent card state)) z ∙ sym v
