-- `base_lines::put_line` writes a word and numbers as a line. Assumes nothing.
use Rattle.base_text.proofs.Puts.{put_then, put_as}
use Rattle.base_lines.proofs.Spaced.{line_as}
use Rattle.base_lines.proofs.put_line.Goals as goal

pub returns : goal.returns
returns c = put_as (line_as c.args.word.now c.args.numbers.now) (put_then (put_then c.put-w.ensures c.put_numbers-w.ensures) c.put.ensures)
