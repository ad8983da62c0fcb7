-- `cabinet_report::accepted_text` is the lines of the cards and the session after recovery. Assumes nothing.
use Prim.Native.Nat.{◌+◌}
use mathlib.Core.List.{[], ◌∷◌}
use native.Mathlib.Omega.{arith}
use lib.ListN.{length-append}
use Rattle.base_text.proofs.Puts.{put_then}
use Rattle.cabinet_layout.specs.Shape.{at}
use Rattle.cabinet_report.specs.Report.{rows_text, session_text}
use Rattle.cabinet_report.proofs.Pushes.{whole_text, line_length}
use borrow.Author.Rules.{rules}
use Rattle.cabinet_report.proofs.accepted_text.Goals as goal

pub returns : goal.returns
returns c =
    let a = c.args in
    let l = line_length (115 ∷ 101 ∷ 115 ∷ 115 ∷ 105 ∷ 111 ∷ 110 ∷ []) (a.session + 1) (search rules) in
    let r = c.put_cards-w.ensures.room in
    whole_text (put_then c.put_cards-w.ensures.so c.put_line-w.ensures) (omega (arith, l, r, length-append (rows_text a.cards (at a.stored) (at a.line)) (session_text (a.session + 1)))) c.text_at.ensures
