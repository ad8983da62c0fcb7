-- The checks of a call one after the other answer as its plan does. Assumes nothing.
use Rattle.std.specs.Prelude.{Ok, Err}
use mathlib.Core.Path.{◌≡◌, refl, ap}
use mathlib.Core.Bool.{Bool, true, false}
use mathlib.Core.List.{List, [], ◌∷◌}
use Rattle.base_refusal.specs.declared.Refusal.{Refusal}
use Rattle.theory_protocol.specs.Plan.{Answer, Check, ◌⇒◌, checked, accepted, refused}
use Rattle.theory_protocol.specs.Edit.{Edit}
use Rattle.cabinet_layout.specs.Answers.{first_failing}

-- where no check fails
pub record Passes (b : Bool) (cs : List Check) : Type 0 where
  pub here : b ≡ false
  pub after : first_failing cs ≡ Ok tt

pub passes : (b : Bool) (r : Refusal) (cs : List Check) → first_failing (b ⇒ r ∷ cs) ≡ Ok tt → Passes b cs
passes true r cs e = let z : ◌≡◌ {A = Prim.Native.Nat.ℕ} 0 1 = cc in absurd (omega native.Mathlib.Omega.arith)
passes false r cs e = record { here = refl; after = e }

-- what a plan answers and changes, by its checks
pub done_plan : (cs : List Check) (a : Answer) (es : List Edit) → first_failing cs ≡ Ok tt → checked cs a es ≡ record { reply = accepted a; edits = es }
done_plan [] a es e = refl
done_plan ((true ⇒ r) ∷ cs) a es e = let z : ◌≡◌ {A = Prim.Native.Nat.ℕ} 0 1 = cc in absurd (omega native.Mathlib.Omega.arith)
done_plan ((false ⇒ r) ∷ cs) a es e = done_plan cs a es e

pub refused_plan : (cs : List Check) (a : Answer) (es : List Edit) (q : Refusal) → first_failing cs ≡ Err q → checked cs a es ≡ record { reply = refused q; edits = [] }
refused_plan [] a es q e = let z : ◌≡◌ {A = Prim.Native.Nat.ℕ} 0 1 = cc in absurd (omega native.Mathlib.Omega.arith)
refused_plan ((true ⇒ r) ∷ cs) a es q e = let z : r ≡ q = cc in ap (λ (x : Refusal). record { reply = refused x; edits = [] }) z
refused_plan ((false ⇒ r) ∷ cs) a es q e = refused_plan cs a es q e
