-- What safe finds of the line and of the slots is what its plan says. Assumes nothing.
use Prim.Native.Nat.{ℕ}
use mathlib.Core.Path.{◌≡◌, ◌∙◌, ap, ap₂}
use mathlib.Core.Bool.{Bool, not, ◌&&◌, ◌||◌}
use mathlib.Core.List.{List}
use lib.Dec.{eqb}
use Rattle.base_laws.specs.Below.{any_below}
use Rattle.theory_protocol.specs.Edit.{remembered}
use Rattle.theory_protocol.specs.Calls.{is_safe}
use Rattle.cabinet_layout.specs.declared.Core.{Core}
use Rattle.cabinet_layout.specs.Shape.{limits16, open_at, model_of}
use Rattle.cabinet_listing.specs.Lost.{some_framed}
use Rattle.cabinet_listing.proofs.Shown.{found_line, framed_line}

-- the change is not lost, were every card lost: no frame of it is above the line, and no slot would be remembered by its number
pub by_line : (entries changes : List ℕ) (core : Core) (k : ℕ) (line : List ℕ) (above ends : Bool) → line ≡ found_line entries changes core
    → above ≡ some_framed changes line core.reached core.head.cards k → ends ≡ any_below limits16.slots (λ p. eqb (remembered limits16 (open_at core.slots p)) k)
    → not (not (eqb k 0) && (above || ends)) ≡ is_safe limits16 (model_of entries changes core) k
by_line entries changes core k line above ends l a e =
    ap₂ (λ (x y : Bool). not (not (eqb k 0) && (x || y)))
    (a ∙ ap (λ (z : List ℕ). some_framed changes z core.reached core.head.cards k) l ∙ framed_line entries changes core k) e
