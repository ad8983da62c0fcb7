-- `list_answer_entries::put_frame` writes the line of a state. Assumes nothing.
use Rattle.base_laws.specs.Below.{selected}
use Rattle.cabinet_layout.specs.Shape.{limits16, at, present_of}
use Rattle.base_text.proofs.Puts.{put_then, put_as}
use Rattle.list_answer_entries.proofs.Entries.{frame_as}
use Rattle.list_answer_entries.proofs.put_frame.Goals as goal

pub returns : goal.returns
returns c =
    let a = c.args in
    put_as (frame_as a.state a.f.change (selected limits16.width (present_of a.cards) (at a.f.entries)))
    (put_then (put_then (put_then c.put_number-w.ensures c.put_numbers-w.ensures) c.put_entries-w.ensures) c.put.ensures)
