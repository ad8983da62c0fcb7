-- `base_merge::head_number` reads the number of a card's next state. Assumes nothing.
use Prim.Native.Nat.{ℕ}
use mathlib.Core.Path.{◌∙◌, ap}
use lib.ListN.{get_or}
use borrow.Author.Rules.{rules}
use Rattle.base_merge.specs.Merge.{change_at}
use Rattle.base_merge.proofs.Head.{head_there, head_none}
use Rattle.base_merge.proofs.head_number.Goals as goal

pub returns-then-passed-end : goal.returns-then-passed-end
returns-then-passed-end c =
    let a : _ = c.args in
    ap (λ (p : ℕ). get_or a.changes.now p 0) c.head_place-place.ensures
    ∙ head_there (change_at a.changes.now a.c) a.passed a.end c.if-passed-end.true

pub returns-else-passed-end : goal.returns-else-passed-end
returns-else-passed-end c = let a : _ = c.args in head_none (change_at a.changes.now a.c) a.passed a.end c.if-passed-end.false
