-- The first slot of a list that passes a test, counted along the list, is the first number at which the list's slot passes. Assumes nothing.
use Prim.Native.Nat.{ℕ, ◌+◌, ◌<◌}
use mathlib.Core.Path.{◌≡◌, refl, sym, ◌∙◌, ap}
use mathlib.Core.Bool.{Bool, true, false}
use mathlib.Core.List.{List, ◌∷◌}
use native.Mathlib.Numerals.{add-one}
use lib.ListN.{length, get_or}
use Rattle.std.specs.Prelude.{Option}
use Rattle.std.specs.List.{AllWithin, HoldsAt}
use Rattle.std.specs.Option.{MatchOption, unwrap_or}
use Rattle.std.proofs.lemmas.Iterator.{index_from_first}
use Rattle.base_laws.specs.Below.{first_below}
use Rattle.base_laws.proofs.Logic.{cond_true, cond_false}
use Rattle.cabinet_layout.specs.declared.Slot.{Slot}
use Rattle.cabinet_layout.specs.Shape.{empty_slot}

abbrev first_in : (Slot → Bool) → List Slot → ℕ
first_in q l = first_below (length l) (λ p. q (get_or l p empty_slot))

pub first_slot : (q : Slot → Bool) (l : List Slot) {n w : ℕ} (r : Option ℕ) → length l ≡ n → w ≡ n
    → MatchOption r (AllWithin (λ x. q x ≡ false) l 0 (length l)) (λ i. (i < length l) × HoldsAt (λ x. q x ≡ true) l i × AllWithin (λ x. q x ≡ false) l 0 i)
    → unwrap_or r n ≡ first_below w (λ p. q (get_or l p empty_slot))
first_slot q l {n} {w} r e d m =
    ap (unwrap_or r) (sym e)
    ∙ sym (index_from_first (first_in q) (λ x. q x ≡ true) (λ x. q x ≡ false) refl hit miss l r m)
    ∙ ap (λ k. first_below k (λ p. q (get_or l p empty_slot))) (e ∙ sym d)
  where
    hit : (x : Slot) (xs : List Slot) → q x ≡ true → first_in q (x ∷ xs) ≡ 0
    hit x xs h = cond_true 0 _ h

    miss : (x : Slot) (xs : List Slot) → q x ≡ false → first_in q (x ∷ xs) ≡ first_in q xs + 1
    miss x xs h = cond_false 0 _ h ∙ sym (add-one (first_in q xs))
