-- `list_answer_sheet::put_bytes` writes an accepted sheet. Assumes nothing.
use Rattle.base_text.proofs.Puts.{put_then}
use Rattle.list_answer_sheet.proofs.put_bytes.Goals as goal

pub returns : goal.returns
returns c = put_then c.put_line-w.ensures c.put.ensures
