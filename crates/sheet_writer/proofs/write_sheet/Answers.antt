-- `sheet_writer::write_sheet` writes the sheet that a ring holds for a header, or refuses it and changes no byte. Assumes nothing.
use mathlib.Core.Path.{sym, ◌∙◌, ap}
use borrow.Author.Rules.{rules}
use borrow.Author.Tests.{not-true, not-false}
use Rattle.sheet_lines.specs.Format.{Format}
use Rattle.sheet_lines.specs.Lines.{header_allowed}
use Rattle.sheet_writer.proofs.Single.{told_7, told_9, told_passed}
use Rattle.sheet_writer.proofs.write_sheet.Goals as goal

pub returns-then-not-header_allowed : goal.returns-then-not-header_allowed
returns-then-not-header_allowed c =
    let a = c.args in
    told_7 a.changes.now a.entries.now a.h a.b.now c.layout_of-f.ensures.format c.header_allowed.ensures c.if-not-header_allowed.true

pub frames_pass-requires : goal.frames_pass-requires
frames_pass-requires c = (c.layout_of-f.ensures.fits, sym c.header_allowed.ensures ∙ c.if-not-header_allowed.false)

pub returns-then-not-frames_pass : goal.returns-then-not-frames_pass
returns-then-not-frames_pass c =
    let a = c.args in
    told_9 a.changes.now a.entries.now a.h a.b.now c.layout_of-f.ensures.format c.header_allowed.ensures c.if-not-header_allowed.false c.frames_pass.ensures c.if-not-frames_pass.true

pub write_page-requires : goal.write_page-requires
write_page-requires c =
    let h = c.args.h in
    ap (λ (f : Format). header_allowed f h.card 0 h) (sym c.layout_of-f.ensures.format)
    ∙ sym c.header_allowed.ensures
    ∙ c.if-not-header_allowed.false

pub returns : goal.returns
returns c =
    let a = c.args in
    told_passed a.changes.now a.entries.now a.h a.b.now c.layout_of-f.ensures.format c.header_allowed.ensures c.if-not-header_allowed.false c.frames_pass.ensures c.if-not-frames_pass.false c.write_page.ensures
