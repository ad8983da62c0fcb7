use Prim.Native.Nat.{ℕ}
use mathlib.Core.Path.{sym, ◌∙◌, ap}
use mathlib.Core.Bool.{not, ◌&&◌}
use native.Mathlib.Omega.{arith}
use lib.Dec.{ltb}
use Rattle.cabinet_layout.specs.Shape.{present_of}
use Rattle.base_laws.specs.Below.{any_below}
use Rattle.cabinet_layout.proofs.Limits.{width16}
use Rattle.cabinet_numbers.proofs.Tests.{cards_limits}
use Rattle.cabinet_numbers.proofs.cards_valid.Goals as goal

pub returns : goal.returns
returns c = sym (cards_limits 16 c.args.head.cards (omega arith)) ∙ ap (λ (w : ℕ). any_below w (present_of c.args.head.cards) && not (ltb w c.args.head.cards)) (sym width16)
