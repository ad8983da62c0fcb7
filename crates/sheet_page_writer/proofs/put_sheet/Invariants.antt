-- `sheet_page_writer::put_sheet` writes a sheet. The invariant: writing what is left gives the whole. Assumes nothing.
use Prim.Native.Nat.{ℕ, ◌+◌, ◌*◌, ◌-◌, ◌≤◌, zero-le}
use mathlib.Core.Path.{◌≡◌, refl, sym, ◌∙◌, ap}
use mathlib.Core.List.{◌++◌}
use borrow.Author.Rules.{rules}
use native.Mathlib.Omega.{arith}
use lib.ListN.{length}
use lib.Seq.{sets}
use Rattle.base_laws.specs.Below.{tabulate}
use Rattle.sheet_lines.specs.Format.{format_of}
use Rattle.sheet_lines.specs.Lines.{header_digits, frame_digits, start_of, header_line}
use Rattle.sheet_lines.proofs.Judged.{row_small}
use Rattle.sheet_lines.proofs.Passed.{Header-in-limits, header_limits}
use Rattle.sheet_pages.specs.Pages.{frames_bytes}
use Rattle.sheet_page_writer.proofs.Rows.{rows_of, next_row, row_length, writing, writing_start, writing_again, writing_none, lines_fit, next_line_lem}
use Rattle.sheet_page_writer.proofs.put_sheet.Given as goal

abbrev pub invariant-loop-k : goal.invariant-loop-k
invariant-loop-k l = (l.k ≤ l.h.count)
    × (length l.b ≡ length l.initial.b)
    × (l.at ≡ header_digits (format_of l.f) + 5 + l.k * l.line)
    × (sets l.b l.at (writing (format_of l.f) ((format_of l.f).start l.h.card l.h.session) l.n l.h.base l.h.count (rows_of l.changes l.entries l.h.card l.h.base) l.k) ≡ sets l.initial.b l.initial.at (writing (format_of l.f) ((format_of l.f).start l.h.card l.h.session) l.n l.h.base l.h.count (rows_of l.changes l.entries l.h.card l.h.base) l.initial.k))
