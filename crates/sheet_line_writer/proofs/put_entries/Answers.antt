-- `sheet_line_writer::put_entries` writes the entries of a frame. The invariant: writing those left gives the whole. Assumes nothing.
use Prim.Native.Nat.{ℕ, ◌+◌, ◌*◌}
use mathlib.Core.Path.{◌≡◌, ◌∙◌, ap}
use borrow.Author.Rules.{rules}
use native.Mathlib.Omega.{arith}
use lib.ListN.{length}
use lib.Seq.{sets}
use Rattle.sheet_digits.specs.Digits.{digits}
use Rattle.sheet_lines.specs.Format.{shown_by}
use Rattle.sheet_line_writer.proofs.Puts.{entry_put}
use Rattle.sheet_line_writer.proofs.put_entries.Goals as goal

pub loop-j-preserved : goal.loop-j-preserved
loop-j-preserved c =
    let a = c.args in
    let l = c.loop-j in
    let s : length a.entries ≡ 16 = search rules in
    (omega arith, c.put_state.auto.b ∙ l.invariant.1, entry_put a.width (shown_by a.short a.none) l.b a.entries a.at a.n l.j (omega arith) (omega arith) (c.put_state.ensures ∙ ap (λ (v : ℕ). sets l.b (a.at + l.j * a.width) (digits a.width v)) c.entry_of.ensures) ∙ l.invariant.2)
