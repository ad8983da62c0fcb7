-- `list_answer_head::put_head` writes the first line of show. Assumes nothing.
use Rattle.base_text.proofs.Puts.{put_then, put_as}
use Rattle.list_answer_head.proofs.Pieces.{head_as}
use Rattle.list_answer_head.proofs.put_head.Goals as goal

pub returns : goal.returns
returns c = put_as (head_as c.args.head) (put_then (put_then (put_then (put_then (put_then c.put-w.ensures c.put_numbers-w.ensures) c.put-w-2.ensures) c.put_phase-w.ensures) c.put-w-3.ensures) c.put_line.ensures)
