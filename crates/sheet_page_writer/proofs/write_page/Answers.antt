-- `sheet_page_writer::write_page` writes a sheet in the layout that it picks. Assumes nothing.
use mathlib.Core.Path.{◌∙◌, ap}
use borrow.Author.Rules.{rules}
use Rattle.sheet_lines.specs.Format.{Format, format_of}
use Rattle.sheet_lines.specs.Lines.{header_allowed}
use Rattle.sheet_page_writer.proofs.Rows.{told_page}
use Rattle.sheet_page_writer.proofs.write_page.Goals as goal

pub write_in-requires : goal.write_in-requires
write_in-requires c =
    let h = c.args.h in
    (c.layout_of-f.ensures.fits, ap (λ (f : Format). header_allowed f h.card 0 h) c.layout_of-f.ensures.format ∙ c.requires)

pub returns : goal.returns
returns c =
    let a = c.args in
    told_page a.changes.now a.entries.now a.h a.b.now (format_of c.layout_of-f.result) c.layout_of-f.ensures.format c.requires c.write_in.ensures
