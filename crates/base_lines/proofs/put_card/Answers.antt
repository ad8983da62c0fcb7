-- `base_lines::put_card` writes the line of a card that the cabinet has. Assumes nothing.
use mathlib.Core.Path.{sym}
use Rattle.base_laws.proofs.Logic.{cond_true, cond_false}
use borrow.Author.Tests.{lt-ltb, le-ltb}
use Rattle.base_text.proofs.Puts.{put_nothing, put_as}
use borrow.Author.Rules.{rules}
use Rattle.base_lines.proofs.put_card.Goals as goal

pub returns-then-card-cards : goal.returns-then-card-cards
returns-then-card-cards c = put_as (sym (cond_true _ _ (lt-ltb c.args.card c.args.cards (search rules)))) c.put_row.ensures

pub returns : goal.returns
returns c = put_as (sym (cond_false _ _ (le-ltb c.args.card c.args.cards (search rules)))) (put_nothing _ _)
