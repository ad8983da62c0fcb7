use Rattle.cabinet_bars.proofs.Bars.{bars_more}
use Rattle.theory_protocol.specs.Calls.{bars}
use Rattle.base_bits.specs.Member.{member}
use Rattle.cabinet_layout.specs.Shape.{limits16, open_at}
use Rattle.cabinet_layout.proofs.Held.{no_members}
use Rattle.cabinet_layout.proofs.Limits.{slots8}
use Rattle.base_laws.specs.Below.{any_below}
use Prim.Native.Nat.{ℕ, ◌-◌, ◌≤◌}
use mathlib.Core.Path.{◌≡◌, ◌∙◌, ap}
use mathlib.Core.Bool.{Bool}
use native.Mathlib.Omega.{arith}
use borrow.Author.Rules.{rules}
use Rattle.cabinet_bars.proofs.barred_set.Given as goal

abbrev pub invariant-loop-p : goal.invariant-loop-p
invariant-loop-p l = (l.p ≤ 8) × (member l.out ≡ (λ c. any_below l.p (λ q. bars (open_at l.all q) (member l.reads) (member l.writes) c)))
