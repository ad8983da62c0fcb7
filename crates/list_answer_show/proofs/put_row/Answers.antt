-- `list_answer_show::put_row` writes the line of a card. Assumes nothing.
use mathlib.Core.Path.{sym}
use Rattle.base_laws.proofs.Logic.{cond_false}
use borrow.Author.Tests.{ne_eqb}
use Rattle.base_text.proofs.Puts.{put_then, put_as}
use borrow.Author.Rules.{rules}
use Rattle.list_answer_show.proofs.put_row.Goals as goal

pub returns : goal.returns
returns c = put_as (sym (cond_false _ _ (ne_eqb c.args.writing 0 (search rules)))) (put_then c.put_number-w.ensures (put_then c.put_numbers-w.ensures c.put_line.ensures))
