-- `base_rows::row_at` copies a row. The invariant: the entries passed are stored. Assumes nothing.
use Prim.Native.Nat.{◌+◌, ◌*◌, ◌-◌}
use mathlib.Core.Path.{refl, sym, ◌∙◌}
use borrow.Author.Rules.{rules}
use lib.ListN.{get_or}
use borrow.Author.Tests.{lt-ltb, le-ltb}
use Rattle.base_laws.specs.Below.{tabulate}
use Rattle.base_laws.proofs.Logic.{cond_true, cond_false}
use Rattle.base_laws.proofs.Fill.{FilledSoFar, filled_none, filled_more, filled_done}
use Rattle.base_rows.specs.Row.{entries_at}
use Rattle.base_rows.proofs.row_at.Goals as goal

pub loop-j-init : goal.loop-j-init
loop-j-init c = filled_none refl

pub loop-j-preserved : goal.loop-j-preserved
loop-j-preserved c = filled_more c.loop-j.invariant c.loop-j-test.true refl

pub returns-after-loop-j : goal.returns-after-loop-j
returns-after-loop-j c =
    let a = c.args in
    filled_done c.loop-j.invariant c.loop-j-test.false refl ∙ sym (cond_true (entries_at a.entries.now a.place) (tabulate 16 (λ j. 0)) (lt-ltb a.place 768 c.if-place-lt-FRAMES.true))

pub returns-else-place-lt-FRAMES : goal.returns-else-place-lt-FRAMES
returns-else-place-lt-FRAMES c =
    let a = c.args in
    sym (cond_false (entries_at a.entries.now a.place) (tabulate 16 (λ j. 0)) (le-ltb a.place 768 c.if-place-lt-FRAMES.false))
