-- `sheet_lines::layout_of` gives the layout of a sheet. Assumes nothing.
use mathlib.Core.Path.{◌∙◌, ap}
use borrow.Author.Rules.{rules}
use Rattle.sheet_lines.specs.Format.{format_of}
use Rattle.sheet_lines.proofs.Layouts.{plain_format, plain_fits}
use Rattle.sheet_lines.proofs.layout_of.Goals as goal

pub returns : goal.returns
returns c = record { format = ap format_of c.plain.ensures ∙ plain_format; fits = rw c.plain.ensures plain_fits }
