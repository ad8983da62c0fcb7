-- `cabinet_report::refused_text` is the line of a refusal. Assumes nothing.
use mathlib.Core.List.{[], ◌∷◌}
use native.Mathlib.Omega.{arith}
use Rattle.cabinet_report.proofs.Pushes.{whole_text, line_length}
use borrow.Author.Rules.{rules}
use Rattle.cabinet_report.proofs.refused_text.Goals as goal

pub returns : goal.returns
returns c = let l = line_length (114 ∷ 101 ∷ 102 ∷ 117 ∷ 115 ∷ 101 ∷ 100 ∷ []) c.args.n (search rules) in whole_text c.put_line-w.ensures (omega (arith, l)) c.text_at.ensures
