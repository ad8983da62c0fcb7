-- The card records that fix answers: how many there are, and when two such lists are the same. Assumes nothing.
use Prim.Native.Nat.{ℕ, zero, suc, ◌+◌, ◌<◌}
use mathlib.Core.Path.{◌≡◌, refl, ◌∙◌, ap, ap₂}
use mathlib.Core.Bool.{Bool, true, false, cond}
use mathlib.Core.List.{List, [], ◌∷◌, ◌++◌}
use native.Mathlib.Omega.{arith}
use lib.ListN.{length, length-append}
use Rattle.base_laws.specs.Below.{count_below, selected, one_if}
use Rattle.base_laws.proofs.Logic.{test}

pub length_selected : {A : Type 0} (n : ℕ) (p : ℕ → Bool) (f : ℕ → A) → length (selected n p f) ≡ count_below n p
length_selected zero p f = refl
length_selected (suc n) p f = length-append (selected n p f) (cond (p n) (f n ∷ []) []) ∙ ap₂ (λ (a b : ℕ). a + b) (length_selected n p f) (last (p n))
  where
    last : (b : Bool) → length (cond b (f n ∷ []) []) ≡ one_if b
    last true = refl
    last false = refl

pub selected_same : {A : Type 0} (n : ℕ) (p : ℕ → Bool) (f g : ℕ → A) → ((k : ℕ) → k < n → p k ≡ true → f k ≡ g k) → selected n p f ≡ selected n p g
selected_same zero p f g e = refl
selected_same {A = A} (suc n) p f g e = ap₂ (λ (a b : List A). a ++ b) (selected_same n p f g (λ k h t. e k (omega arith) t)) (test (p n) (λ t. ap (λ (x : A). cond (p n) (x ∷ []) []) (e n (omega arith) t)) (λ t. rw t))
