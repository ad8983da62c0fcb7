-- `sheet_line_writer::put_frame` writes a frame line. Assumes nothing.
use mathlib.Core.Path.{◌≡◌}
use borrow.Author.Rules.{rules}
use lib.ListN.{length}
use Rattle.sheet_lines.specs.Format.{format_of}
use Rattle.sheet_line_writer.proofs.Puts.{frame_put}
use Rattle.sheet_line_writer.proofs.put_frame.Goals as goal

pub returns : goal.returns
returns c =
    let a = c.args in
    let pre = c.requires in
    let good = c.well_formed in
    let s : length a.next.entries ≡ 16 = search (rules, good) in
    frame_put (format_of a.f) a.b.now a.at a.n a.start a.state a.next pre.0.none s pre.1 pre.2 c.put_number.ensures c.put_number-2.ensures c.put_entries.ensures c.end_line.ensures
