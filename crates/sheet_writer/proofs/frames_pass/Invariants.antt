-- `sheet_writer::frames_pass` judges the frames of a sheet. The invariant: what is left to judge decides. Assumes nothing.
use Prim.Native.Nat.{◌-◌, ◌≤◌, ◌<◌, zero-le}
use mathlib.Core.Path.{◌≡◌, refl}
use borrow.Author.Rules.{rules}
use borrow.Author.Tests.{not-true, not-false}
use native.Mathlib.Omega.{arith}
use Rattle.sheet_lines.specs.Format.{format_of}
use Rattle.sheet_lines.specs.Lines.{cards_of, no_frame}
use Rattle.sheet_lines.proofs.Passed.{header_limits}
use Rattle.sheet_page_writer.proofs.Rows.{rows_of, next_row}
use Rattle.sheet_writer.proofs.Single.{judging, judging_stop, judging_again, judging_done, judged_all}
use Rattle.sheet_writer.proofs.frames_pass.Given as goal

abbrev pub invariant-loop-k : goal.invariant-loop-k
invariant-loop-k l = (l.k ≤ l.h.count) × (judging (format_of l.f) l.h.card l.n l.h.base l.h.count (rows_of l.changes l.entries l.h.card l.h.base) l.last l.k ≡ judging (format_of l.f) l.h.card l.n l.h.base l.h.count (rows_of l.changes l.entries l.h.card l.h.base) no_frame 0)
