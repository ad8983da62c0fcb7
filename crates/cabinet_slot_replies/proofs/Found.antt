-- The change of a number as the code finds it, and what the checks say of it. Assumes nothing.
use Prim.Native.Nat.{ℕ, ◌≤◌, ◌<◌}
use mathlib.Core.Path.{◌≡◌, sym, ◌∙◌, ap, ap₂}
use mathlib.Core.Bool.{Bool, not}
use mathlib.Core.List.{List, []}
use mathlib.Core.Logic.{by_cases}
use native.Mathlib.Decide.{dec_lt}
use native.Mathlib.Omega.{arith}
use lib.Dec.{leb, ltb}
use borrow.Author.Tests.{lt-ltb, le-ltb, le-leb, lt-leb}
use Rattle.theory_protocol.specs.Model.{slot_of, is_known, decided}
use Rattle.cabinet_layout.specs.declared.Head.{Head}
use Rattle.cabinet_layout.specs.declared.Slot.{Slot}
use Rattle.cabinet_layout.specs.Shape.{limits16, open_of, open_at, slots_model}
use Rattle.cabinet_layout.proofs.Held.{not_ltb}
use Rattle.cabinet_layout.proofs.Limits.{slots8}

module _ (head : Head) (all : List Slot) (k : ℕ) {p : ℕ} (e : p ≡ slot_of limits16 (slots_model head all [] []) k) where
  pub unknown : leb 8 p ≡ not (is_known limits16 (slots_model head all [] []) k)
  unknown = ap₂ (λ (x y : ℕ). leb x y) (let d : 8 ≡ limits16.slots = omega (arith, slots8) in d) e ∙ (let h = not_ltb (slot_of limits16 (slots_model head all [] []) k) limits16.slots in sym h)

  pub found : (o : Slot) → open_of o ≡ open_at all p → open_of o ≡ open_at all (slot_of limits16 (slots_model head all [] []) k)
  found o f = f ∙ ap (open_at all) e

  pub made : {b : Bool} (o : Slot) → open_of o ≡ open_at all p → b ≡ decided limits16 (open_of o) → b ≡ decided limits16 (open_at all (slot_of limits16 (slots_model head all [] []) k))
  made o f d = d ∙ ap (decided limits16) (found o f)
