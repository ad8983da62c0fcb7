-- Nothing in a cabinet of 16 cards stands beyond card 15: kept by every edit that brings nothing beyond it. Assumes nothing.
use Prim.Native.Nat.{ℕ, ◌≤◌, ◌<◌, max}
use mathlib.Core.Path.{◌≡◌, refl, ap₂}
use mathlib.Core.Bool.{Bool, false, ◌||◌}
use native.Mathlib.Omega.{arith}
use lib.Dec.{eqb}
use borrow.Author.Tests.{ne_eqb}
use Rattle.base_laws.proofs.Logic.{cond_case}
use Rattle.theory_history.specs.Change.{CardSet}
use Rattle.theory_history.specs.Vector.{Vector, joined}
use Rattle.theory_protocol.specs.Model.{Model, with_card}
use Rattle.theory_protocol.specs.Edit.{Edit, edited}
use Rattle.theory_protocol.specs.Edit as edit
use Rattle.cabinet_layout.specs.Shape.{limits16}
use Rattle.cabinet_layout.proofs.Held.{Fits, free_fits}

-- no entry beyond the width
abbrev pub Short : Vector → Type 0
Short v = (k : ℕ) → 16 ≤ k → v k ≡ 0

pub record Narrow (m : Model) : Type 0 where
  pub slots : (p : ℕ) → Fits (m.slot p)
  pub last : (c : ℕ) → Short (m.memory.last c)
  pub pending : (c : ℕ) → Short (m.memory.pending c)

-- what an edit brings
abbrev pub Brings : Edit → Type 0
Brings (edit.place p o) = Fits o
Brings (edit.latest k) = Unit {0}
Brings (edit.grow c k v) = Short v
Brings (edit.raise c v) = Short v
Brings (edit.keep c x) = Unit {0}
Brings (edit.begin c x) = Unit {0}
Brings (edit.end c x) = Unit {0}
Brings (edit.rebase bases) = Unit {0}
Brings (edit.fall cards) = Unit {0}
Brings edit.halt = Unit {0}
Brings (edit.fix line) = Unit {0}
Brings (edit.lower c) = Unit {0}
Brings edit.renew = Unit {0}

pub joined_short : (u v : Vector) → Short u → Short v → Short (joined u v)
joined_short u v a b k h = ap₂ max (a k h) (b k h)

-- a value put at one place of a family of which each member has the property
put_each : {A : Type 0} (P : A → Type 0) (f : ℕ → A) (i : ℕ) (v : A) → ((k : ℕ) → P (f k)) → P v → (k : ℕ) → P (edit.put f i v k)
put_each P f i v a b k = cond_case P (eqb k i) (λ e. b) (λ e. a k)

none_short : (c : ℕ) → Short (λ k. 0)
none_short c k h = refl

pub edit_narrow : (e : Edit) (m : Model) → Narrow m → Brings e → Narrow (edited limits16 e m)
edit_narrow (edit.place p o) m w b = record { slots = put_each Fits m.slot p o w.slots b; last = w.last; pending = w.pending }
edit_narrow (edit.latest k) m w b = record { slots = w.slots; last = w.last; pending = w.pending }
edit_narrow (edit.grow c k v) m w b = record { slots = w.slots; last = put_each Short m.memory.last c v w.last b; pending = put_each Short m.memory.pending c v w.pending b }
edit_narrow (edit.raise c v) m w b =
    record { slots = w.slots; last = w.last; pending = put_each Short m.memory.pending c (joined (m.memory.pending c) v) w.pending (joined_short (m.memory.pending c) v (w.pending c) b) }
edit_narrow (edit.keep c x) m w b = record { slots = w.slots; last = w.last; pending = w.pending }
edit_narrow (edit.begin c x) m w b = record { slots = w.slots; last = w.last; pending = w.pending }
edit_narrow (edit.end c x) m w b = record { slots = w.slots; last = w.last; pending = w.pending }
edit_narrow (edit.rebase bases) m w b = record { slots = w.slots; last = w.last; pending = w.pending }
edit_narrow (edit.fall cards) m w b = record { slots = w.slots; last = w.last; pending = w.pending }
edit_narrow edit.halt m w b = record { slots = λ p. free_fits; last = w.last; pending = w.pending }
edit_narrow (edit.fix line) m w b = record { slots = w.slots; last = w.last; pending = w.pending }
edit_narrow (edit.lower c) m w b = record { slots = w.slots; last = w.last; pending = w.pending }
edit_narrow edit.renew m w b = record { slots = w.slots; last = none_short; pending = none_short }

-- a set of 16 cards with one of them put in
pub with_narrow : (s : CardSet) (c : ℕ) → c < 16 → ((k : ℕ) → 16 ≤ k → s k ≡ false) → (k : ℕ) → 16 ≤ k → with_card s c k ≡ false
with_narrow s c h z k l = ap₂ (λ (a b : Bool). a || b) (ne_eqb k c (λ (q : k ≡ c). absurd (omega arith))) (z k l)
