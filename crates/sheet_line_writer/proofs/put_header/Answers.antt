-- `sheet_line_writer::put_header` writes a header line. Assumes nothing.
use Rattle.sheet_lines.specs.Format.{format_of}
use Rattle.sheet_line_writer.proofs.Puts.{header_put}
use Rattle.sheet_line_writer.proofs.put_header.Goals as goal

pub returns : goal.returns
returns c =
    let a = c.args in
    header_put (format_of a.f) a.b.now a.at a.h c.start_of-start.result c.requires c.put_number.ensures c.put_number-2.ensures c.put_number-3.ensures c.put_number-4.ensures c.put_number-5.ensures c.start_of-start.ensures c.end_line.ensures
