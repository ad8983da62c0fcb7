-- `cabinet_awaited::awaited` counts the touched cards that are not in the set. Assumes nothing.
use Prim.Native.Nat.{ℕ}
use mathlib.Core.Path.{sym, ◌∙◌, ap}
use mathlib.Core.Bool.{Bool}
use Rattle.base_laws.specs.Below.{count_below}
use Rattle.base_bits.specs.Member.{member}
use Rattle.base_bits.specs.Sets.{either, except}
use Rattle.cabinet_layout.proofs.Limits.{width16}
use Rattle.cabinet_awaited.proofs.awaited.Goals as goal

pub returns : goal.returns
returns c =
    let a = c.args in
    c.count.ensures ∙ ap (count_below 16) (c.difference-left.ensures ∙ ap (λ (s : ℕ → Bool). except s (member a.have)) c.union-touched.ensures)
    ∙ ap (λ (w : ℕ). count_below w (except (either (member a.reads) (member a.writes)) (member a.have))) (sym width16)
