-- A call that found its checks hands back what its plan says. Assumes nothing.
use Rattle.std.specs.Prelude.{Ok, Err}
use Prim.Native.Nat.{ℕ, ◌<◌}
use mathlib.Core.Path.{◌≡◌, refl, sym, ◌∙◌, ap}
use mathlib.Core.Bool.{Bool, true, false, not, ◌&&◌}
use mathlib.Core.List.{List, [], ◌∷◌}
use native.Mathlib.Omega.{arith}
use lib.Dec.{ltb, eqb}
use borrow.Author.Tests.{ltb-true, not-false}
use Rattle.base_laws.proofs.Logic.{and_left}
use Rattle.base_laws.proofs.Below.{first_at}
use Rattle.base_refusal.specs.declared.Refusal.{Refusal}
use Rattle.theory_protocol.specs.Model.{Model, is_card, is_known, is_open, slot_of}
use Rattle.theory_protocol.specs.Valid.{valid}
use Rattle.theory_protocol.specs.Edit.{Edit}
use Rattle.theory_protocol.specs.Plan.{Answer, done, Check, ◌⇒◌, Plan, checked, accepted, refused}
use Rattle.theory_protocol.specs.Plan as plan
use Rattle.base_refusal.specs.Reply.{Reply}
use Rattle.cabinet_layout.specs.Answers.{reply_of, first_failing, after28}
use Rattle.cabinet_layout.specs.Shape.{limits16, model_of}
use Rattle.cabinet_layout.proofs.Limits.{width16, slots8}
use Rattle.cabinet_layout.proofs.Checks.{passes, done_plan, refused_plan}
use Rattle.cabinet_layout.specs.declared.Core.{Core}
use Rattle.cabinet_layout.specs.Applied.{applied_all, CoreCarried}
use Rattle.cabinet_plans.specs.Plans.{Stands}

-- ---- a call on a core that found its checks hands back what its plan says
pub core_as : (s next : Core) (cs : List Check) (a : Answer) (es : List Edit) (reply : plan.Reply) → first_failing cs ≡ Ok tt → reply ≡ accepted a → next ≡ applied_all es s → CoreCarried s (checked cs a es) reply next
core_as s next cs a es reply e d n =
    let p : checked cs a es ≡ record { reply = accepted a; edits = es } = done_plan cs a es e in
    record { answer = d ∙ sym (ap (λ (x : Plan). x.reply) p); core = n ∙ sym (ap (λ (x : Plan). applied_all x.edits s) p) }

pub core_not : (s next : Core) (cs : List Check) (a : Answer) (es : List Edit) (reply : plan.Reply) (q : Refusal) → first_failing cs ≡ Err q → reply ≡ refused q → next ≡ s → CoreCarried s (checked cs a es) reply next
core_not s next cs a es reply q e d n =
    let p : checked cs a es ≡ record { reply = refused q; edits = [] } = refused_plan cs a es q e in
    record { answer = d ∙ sym (ap (λ (x : Plan). x.reply) p); core = n ∙ sym (ap (λ (x : Plan). applied_all x.edits s) p) }

pub core_done : (s next : Core) (cs : List Check) (es : List Edit) (r : Reply) → r ≡ first_failing cs → r ≡ Ok tt → next ≡ applied_all es s → CoreCarried s (checked cs done es) (reply_of r) next
core_done s next cs es r e d n = core_as s next cs done es (reply_of r) (sym e ∙ d) (ap reply_of d) n

pub core_refused : (s next : Core) (cs : List Check) (es : List Edit) (r : Reply) (q : Refusal) → r ≡ first_failing cs → r ≡ Err q → next ≡ s → CoreCarried s (checked cs done es) (reply_of r) next
core_refused s next cs es r q e d n = core_not s next cs done es (reply_of r) q (sym e ∙ d) (ap reply_of d) n

-- a call that was accepted has a core that stands, and its checks pass over the frames that it stands with
pub record Passed (s : Core) (cs : List Check) : Type 0 where
  pub stands : Stands s
  pub checks : first_failing (after28 (not (valid limits16 (model_of stands.entries stands.changes s))) cs) ≡ Ok tt

pub passed : (whole : Bool) (s : Core) (cs : List Check) → (whole ≡ true → Stands s) → first_failing (after28 (not whole) cs) ≡ Ok tt → Passed s cs
passed true s cs f e = let g : Stands s = f refl in record { stands = g; checks = ap (λ (b : Bool). first_failing (after28 (not b) cs)) g.passes ∙ e }
passed false s cs f e = let z : ◌≡◌ {A = ℕ} 0 1 = cc in absurd (omega arith)

-- a card of the cabinet is below 16
pub card_below : (m : Model) (c : ℕ) → not (is_card limits16 m c) ≡ false → c < 16
card_below m c e = let l : c < limits16.width = ltb-true c limits16.width (and_left (ltb c limits16.width) (m.present c) (not-false (is_card limits16 m c) e)) in omega (arith, width16)

-- what the checks of a call that was accepted show: the first, the second, and so on, did not fail
module _ (b₁ : Bool) (r₁ : Refusal) (b₂ : Bool) (r₂ : Refusal) (cs : List Check) (e : first_failing (b₁ ⇒ r₁ ∷ b₂ ⇒ r₂ ∷ cs) ≡ Ok tt) where
  pub first_passes : b₁ ≡ false
  first_passes = (passes b₁ r₁ (b₂ ⇒ r₂ ∷ cs) e).here

  pub second_passes : b₂ ≡ false
  second_passes = (passes b₂ r₂ cs (passes b₁ r₁ (b₂ ⇒ r₂ ∷ cs) e).after).here

  pub two_pass : first_failing cs ≡ Ok tt
  two_pass = (passes b₂ r₂ cs (passes b₁ r₁ (b₂ ⇒ r₂ ∷ cs) e).after).after

-- a change that is known stands in one of the slots, and is open there
pub record Found (m : Model) (k : ℕ) : Type 0 where
  pub slot : slot_of limits16 m k < 8
  pub open_there : is_open (m.slot (slot_of limits16 m k)) ≡ true

pub found : (m : Model) (k : ℕ) → not (is_known limits16 m k) ≡ false → Found m k
found m k n =
    let l : slot_of limits16 m k < limits16.slots = ltb-true (slot_of limits16 m k) limits16.slots (not-false (is_known limits16 m k) n) in
    record {
      slot = omega (arith, slots8);
      open_there = and_left (is_open (m.slot (slot_of limits16 m k))) (eqb (m.slot (slot_of limits16 m k)).change.number k) (first_at limits16.slots (λ p. is_open (m.slot p) && eqb (m.slot p).change.number k) l);
    }
