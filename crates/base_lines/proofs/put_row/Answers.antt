-- `base_lines::put_row` writes the line of a card. Assumes nothing.
use Rattle.base_decimal.specs.Digits.{decimal}
use Rattle.base_text.proofs.Puts.{put_then, put_as}
use Rattle.base_lines.proofs.Spaced.{line_as}
use Rattle.base_lines.proofs.put_row.Goals as goal

pub returns : goal.returns
returns c = put_as (line_as (decimal c.args.card) c.args.numbers.now) (put_then (put_then c.put_number-w.ensures c.put_numbers-w.ensures) c.put.ensures)
