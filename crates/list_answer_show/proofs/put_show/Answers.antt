-- `list_answer_show::put_show` writes what a cabinet is. Assumes nothing.
use Rattle.base_text.proofs.Puts.{put_then}
use Rattle.list_answer_show.proofs.put_show.Goals as goal

pub returns : goal.returns
returns c = put_then c.put_head-w.ensures c.put_cards.ensures
