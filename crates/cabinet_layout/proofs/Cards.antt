-- A set of cards and the cards of a cabinet. Assumes nothing.
use Prim.Native.Nat.{ℕ}
use mathlib.Core.Path.{◌≡◌, refl, sym, ◌∙◌, ap}
use mathlib.Core.Bool.{Bool, true, false, not, ◌&&◌, ◌||◌}
use Rattle.base_laws.specs.Below.{any_below}
use Rattle.base_laws.proofs.Fill.{all_same, not_any}
use Rattle.base_bits.specs.Sets.{subset, below}
use Rattle.theory_history.specs.Change.{CardSet}
use Rattle.theory_protocol.specs.Model.{strays}
use Rattle.cabinet_layout.specs.declared.Head.{Head}
use Rattle.cabinet_layout.specs.Shape.{limits16, present_of, head_model}
use Rattle.cabinet_layout.proofs.Held.{not_not}
use Rattle.cabinet_layout.proofs.Limits.{width16}

-- no card of the set is outside a cabinet of n cards
pub strays_within : (w n : ℕ) (s : CardSet) → not (any_below w (λ c. s c && not (present_of n c))) ≡ subset w s (below n)
strays_within w n s = not_any w (λ c. s c && not (present_of n c)) ∙ all_same w _ _ (λ k h. turned (s k) (present_of n k))
  where
    turned : (a b : Bool) → not (a && not b) ≡ not a || b
    turned true true = refl
    turned true false = refl
    turned false b = refl

pub inside_strays : (h : Head) (s : CardSet) → subset 16 s (below h.cards) ≡ not (strays limits16 (head_model h) s)
inside_strays h s =
    sym (strays_within 16 h.cards s) ∙ ap (λ (w : ℕ). not (any_below w (λ c. s c && not (present_of h.cards c)))) (sym width16)

pub outside_strays : (h : Head) (s : CardSet) → not (subset 16 s (below h.cards)) ≡ strays limits16 (head_model h) s
outside_strays h s = ap not (inside_strays h s) ∙ not_not _
