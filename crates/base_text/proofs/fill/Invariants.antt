-- `base_text::fill` stores the first bytes of a text. Assumes nothing.
use Prim.Native.Nat.{ℕ, ◌-◌, ◌≤◌}
use mathlib.Core.Path.{◌≡◌, ◌∙◌, ap}
use lib.ListN.{take}
use lib.Seq.{sets}
use Rattle.base_text.proofs.Puts.{Filled, filled_none, filled_more}
use borrow.Author.Rules.{rules}
use Rattle.base_text.proofs.fill.Given as goal

abbrev pub invariant-loop-i : goal.invariant-loop-i
invariant-loop-i l = (Filled l.initial.b l.at l.text l.b l.i) × (l.i ≤ l.count)
