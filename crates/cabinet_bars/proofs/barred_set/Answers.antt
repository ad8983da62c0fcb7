use Rattle.cabinet_bars.proofs.Bars.{bars_more}
use Rattle.theory_protocol.specs.Calls.{bars}
use Rattle.base_bits.specs.Member.{member}
use Rattle.cabinet_layout.specs.Shape.{limits16, open_at}
use Rattle.cabinet_layout.proofs.Held.{no_members}
use Rattle.cabinet_layout.proofs.Limits.{slots8}
use Rattle.base_laws.specs.Below.{any_below}
use Prim.Native.Nat.{ℕ, ◌-◌, ◌≤◌}
use mathlib.Core.Path.{◌≡◌, ◌∙◌, ap}
use mathlib.Core.Bool.{Bool}
use native.Mathlib.Omega.{arith}
use borrow.Author.Rules.{rules}
use Rattle.cabinet_bars.proofs.barred_set.Goals as goal

pub loop-p-init : goal.loop-p-init
loop-p-init c = (search rules, no_members)

pub loop-p-preserved : goal.loop-p-preserved
loop-p-preserved c = (omega (arith, c.loop-p-test.true), bars_more (λ q. bars (open_at c.args.all q) (member c.args.reads) (member c.args.writes)) c.loop-p.p c.loop-p.out c.bar_set-more.result c.union-out.result c.loop-p.invariant.1 c.bar_set-more.ensures c.union-out.ensures)

pub returns : goal.returns
returns c = let e : c.loop-p.p ≡ limits16.slots = omega (arith, slots8, c.loop-p-test.false, c.loop-p.invariant.0) in c.loop-p.invariant.1 ∙ ap {B = ℕ → Bool} (λ (n : ℕ) (c' : ℕ). any_below n (λ q. bars (open_at c.args.all q) (member c.args.reads) (member c.args.writes) c')) e
