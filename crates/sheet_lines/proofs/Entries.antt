-- Entries of either kind: what is held for them, case by case, and both ways round. Assumes nothing.
use Prim.Native.Nat.{ℕ, ◌+◌, ◌-◌, ◌≤◌}
use mathlib.Core.Path.{◌≡◌, refl, sym, ◌∙◌}
use mathlib.Core.Bool.{Bool, true, false}
use native.Mathlib.Omega.{arith}
use lib.Dec.{eqb}
use borrow.Author.Tests.{eqb-true, eqb-false, eq-eqb, ne_eqb}
use Rattle.base_laws.proofs.Logic.{test}
use Rattle.sheet_lines.specs.Format.{dependency, entry_of, need_of, held_by, shown_by}

-- ---- what is held

pub held_none : (short : Bool) (all e : ℕ) → e ≡ all → 0 ≡ held_by short all e
unfolding dependency need_of
held_none true all e h = rw (eq-eqb e all h)
held_none false all e h = rw (eq-eqb e all h)

pub held_long : (short : Bool) (all e : ℕ) → (e ≡ all → ⊥) → short ≡ false → e + 1 ≡ held_by short all e
unfolding dependency
held_long short all e h s = rw (s, ne_eqb e all h)

pub held_zero : (short : Bool) (all e : ℕ) → (e ≡ all → ⊥) → short ≡ true → e ≡ 0 → all ≡ held_by short all e
unfolding need_of
held_zero short all e h s z = rw (s, ne_eqb e all h, eq-eqb e 0 z)

pub held_need : (short : Bool) (all e : ℕ) → (e ≡ all → ⊥) → short ≡ true → (e ≡ 0 → ⊥) → e ≡ held_by short all e
unfolding need_of
held_need short all e h s z = rw (s, ne_eqb e all h, ne_eqb e 0 z)

-- ---- what is written

pub shown_none : (short : Bool) (all d : ℕ) → d ≡ 0 → all ≡ shown_by short all d
unfolding entry_of need_of
shown_none true all d h = rw h (test (eqb 0 all) (λ (e : eqb 0 all ≡ true). rw e (sym (eqb-true 0 all e))) (λ (e : eqb 0 all ≡ false). rw e))
shown_none false all d h = rw (eq-eqb d 0 h)

pub shown_long : (short : Bool) (all d : ℕ) → (d ≡ 0 → ⊥) → short ≡ false → d - 1 ≡ shown_by short all d
unfolding entry_of
shown_long short all d h s = rw (s, ne_eqb d 0 h)

pub shown_zero : (short : Bool) (all d : ℕ) → short ≡ true → d ≡ all → 0 ≡ shown_by short all d
unfolding need_of
shown_zero short all d s z = rw (s, eq-eqb d all z)

pub shown_need : (short : Bool) (all d : ℕ) → (d ≡ 0 → ⊥) → short ≡ true → (d ≡ all → ⊥) → d ≡ shown_by short all d
unfolding need_of
shown_need short all d h s z = rw (s, ne_eqb d all z, ne_eqb d 0 h)

-- ---- both ways round

-- 0 and the greatest number change places
swapped : (all e : ℕ) → need_of all (need_of all e) ≡ e
unfolding need_of
swapped all e =
    test (eqb e all)
    (λ (p : eqb e all ≡ true). rw p (test (eqb 0 all) (λ (q : eqb 0 all ≡ true). rw q (eqb-true 0 all q ∙ sym (eqb-true e all p))) (λ (q : eqb 0 all ≡ false). rw q (sym (eqb-true e all p)))))
    (λ (p : eqb e all ≡ false).
    test (eqb e 0) (λ (q : eqb e 0 ≡ true). rw (p, q, eq-eqb all all refl) (sym (eqb-true e 0 q))) (λ (q : eqb e 0 ≡ false). rw (p, q, p, q)))

pub entry_back : (short : Bool) (all d : ℕ) → d ≤ all → held_by short all (shown_by short all d) ≡ d
unfolding dependency entry_of
entry_back true all d h = swapped all d
entry_back false all d h = test (eqb d 0) (λ (e : eqb d 0 ≡ true). rw (e, eq-eqb all all refl) (sym (eqb-true d 0 e))) (λ (e : eqb d 0 ≡ false). rw (e, ne_eqb (d - 1) all (λ (q : d - 1 ≡ all). positive (eqb-false d 0 e) q)) (omega (arith, eqb-false d 0 e)))
  where
    positive : (d ≡ 0 → ⊥) → d - 1 ≡ all → ⊥
    positive z q = omega arith

pub entry_again : (short : Bool) (all e : ℕ) → shown_by short all (held_by short all e) ≡ e
unfolding dependency entry_of
entry_again true all e = swapped all e
entry_again false all e = test (eqb e all) (λ (q : eqb e all ≡ true). rw q (sym (eqb-true e all q))) (λ (q : eqb e all ≡ false). let z : e + 1 ≡ 0 → ⊥ = λ (w : e + 1 ≡ 0). omega arith in rw (q, ne_eqb (e + 1) 0 z) (omega arith))

-- what is written of numbers up to the greatest is such a number
pub entry_small : (short : Bool) (all d : ℕ) → d ≤ all → shown_by short all d ≤ all
unfolding entry_of need_of
entry_small true all d h =
    test (eqb d all) (λ (p : eqb d all ≡ true). rw p (omega arith)) (λ (p : eqb d all ≡ false). rw p (test (eqb d 0) (λ (q : eqb d 0 ≡ true). rw q (omega arith)) (λ (q : eqb d 0 ≡ false). rw q h)))
entry_small false all d h = test (eqb d 0) (λ (q : eqb d 0 ≡ true). rw q (omega arith)) (λ (q : eqb d 0 ≡ false). rw q (omega arith))
