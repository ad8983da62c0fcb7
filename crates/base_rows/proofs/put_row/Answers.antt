-- `base_rows::put_row` writes a row. The invariant: writing the entries left gives the whole. Assumes nothing.
use Prim.Native.Nat.{ℕ, ◌+◌, ◌*◌, ◌-◌, ◌≤◌}
use mathlib.Core.Path.{◌≡◌, sym, ◌∙◌, ap}
use borrow.Author.Rules.{rules}
use native.Mathlib.Omega.{arith}
use lib.ListN.{length, drop}
use lib.Seq.{sets}
use borrow.Author.Tests.{lt-ltb, le-ltb}
use Rattle.base_laws.proofs.Logic.{cond_true, cond_false}
use Rattle.base_rows.proofs.Rows.{store_step, store_done}
use Rattle.base_rows.proofs.put_row.Goals as goal

pub loop-j-init : goal.loop-j-init
loop-j-init c =
    let a = c.args in
    let e : a.place * 16 + 0 ≡ a.place * 16 = omega arith in
    (omega arith, ap (λ (i : ℕ). sets a.entries.now i a.row) e)

pub loop-j-preserved : goal.loop-j-preserved
loop-j-preserved c =
    let a = c.args in
    let l = c.loop-j in
    let s : length a.row ≡ 16 = search rules in
    (omega arith, store_step l.entries a.row (a.place * 16) l.j (omega arith) ∙ l.invariant.1)

pub returns-after-loop-j : goal.returns-after-loop-j
returns-after-loop-j c =
    let a = c.args in
    let l = c.loop-j in
    let s : length a.row ≡ 16 = search rules in
    sym (store_done l.entries a.row (a.place * 16) l.j (omega arith)) ∙ l.invariant.1 ∙ sym (cond_true (sets a.entries.now (a.place * 16) a.row) a.entries.now (lt-ltb a.place 768 c.if-place-lt-FRAMES.true))

pub returns-else-place-lt-FRAMES : goal.returns-else-place-lt-FRAMES
returns-else-place-lt-FRAMES c =
    let a = c.args in
    sym (cond_false (sets a.entries.now (a.place * 16) a.row) a.entries.now (le-ltb a.place 768 c.if-place-lt-FRAMES.false))
