-- `base_text::fill` stores the first bytes of a text. Assumes nothing.
use Prim.Native.Nat.{ℕ, ◌-◌, ◌≤◌}
use mathlib.Core.Path.{◌≡◌, ◌∙◌, ap}
use lib.ListN.{take}
use lib.Seq.{sets}
use Rattle.base_text.proofs.Puts.{Filled, filled_none, filled_more}
use borrow.Author.Rules.{rules}
use Rattle.base_text.proofs.fill.Goals as goal

pub loop-i-init : goal.loop-i-init
loop-i-init c = (filled_none _ _ _, search rules)

pub loop-i-preserved : goal.loop-i-preserved
loop-i-preserved c = (filled_more c.loop-i.invariant.0 (search rules), search rules)

pub returns : goal.returns
returns c = let e : c.loop-i.i ≡ c.args.count = search rules in c.loop-i.invariant.0.bytes ∙ ap (λ (k : ℕ). sets c.args.b.now c.args.at (take k c.args.text.now)) e
