use Prim.Native.Nat.{ℕ}
use mathlib.Core.Path.{sym, ◌∙◌, ap}
use mathlib.Core.Bool.{◌&&◌}
use lib.Dec.{leb}
use Rattle.cabinet_layout.proofs.Limits.{width16}
use Rattle.cabinet_layout.proofs.Held.{not_not}
use Rattle.cabinet_parts.proofs.cards_fit.Goals as goal

pub returns : goal.returns
returns c =
    let n : ℕ = c.args.cards in
    ap (λ (w : ℕ). leb 1 n && leb n w) (sym width16) ∙ sym (not_not (leb 1 n && leb n _))
