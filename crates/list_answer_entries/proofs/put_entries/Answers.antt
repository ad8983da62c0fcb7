-- `list_answer_entries::put_entries` writes the entries of the cards that are there. Assumes nothing.
use Prim.Native.Nat.{ℕ}
use mathlib.Core.Path.{◌≡◌, sym, ◌∙◌, ap}
use Rattle.base_laws.specs.Below.{selected}
use Rattle.cabinet_layout.specs.Shape.{at, present_of}
use Rattle.cabinet_layout.proofs.Limits.{width16}
use Rattle.base_text.proofs.Puts.{put_then, put_as}
use Rattle.list_answer_entries.specs.Entries.{entries_text}
use Rattle.list_answer_entries.proofs.Entries.{entries_more}
use borrow.Author.Rules.{rules}
use Rattle.list_answer_entries.proofs.put_entries.Goals as goal

pub loop-j-preserved : goal.loop-j-preserved
loop-j-preserved c =
    let a = c.args in
    put_as (entries_more (present_of a.cards) (at a.vector) c.loop-j.j) (put_then c.loop-j.invariant c.put_entry-at.ensures)

pub returns : goal.returns
returns c =
    let a = c.args in
    let e : c.loop-j.j ≡ 16 = search rules in
    put_as (ap (λ (k : ℕ). entries_text (selected k (present_of a.cards) (at a.vector))) (e ∙ sym width16)) c.loop-j.invariant
