-- `sheet_header_reader::header_in` takes the numbers of a header from its digits. Assumes nothing.
use Prim.Native.Nat.{◌+◌}
use lib.Seq.{drop-drop}
use Rattle.sheet_lines.specs.Lines.{header_in}
use Rattle.sheet_header_reader.proofs.header_in.Goals as goal

pub returns : goal.returns
unfolding header_in
returns c =
    let a = c.args in
    rw (c.number_at-5.ensures, c.number_at-4.ensures, c.number_at-3.ensures, c.number_at-2.ensures, c.number_at.ensures, drop-drop 8 a.at a.s.now, drop-drop 10 a.at a.s.now, drop-drop 12 a.at a.s.now, drop-drop (a.f.width + 12) a.at a.s.now)
