-- `sheet_walk::read_sheets` reads sheets. At each place, going on from what is taken in so far gives the whole. Assumes nothing.
use Prim.Native.Nat.{ℕ, ◌+◌, ◌-◌, ◌≤◌, ◌<◌}
use mathlib.Core.Bool.{cond}
use mathlib.Core.Path.{◌≡◌, refl, sym, ◌∙◌, ap}
use borrow.Author.Rules.{rules}
use native.Mathlib.Omega.{arith}
use lib.Dec.{eqb}
use lib.ListN.{length, drop}
use Rattle.sheet_digits.proofs.Lines.{whole_room}
use mathlib.Core.List.{List}
use mathlib.Core.Logic.{⊎_elim}
use Rattle.base_refusal.specs.Reply.{Reply}
use Rattle.sheet_lines.specs.declared.Header.{Header}
use Rattle.sheet_lines.specs.declared.Frame.{Frame}
use Rattle.sheet_lines.specs.declared.Layout.{Layout}
use Rattle.sheet_lines.specs.Format.{Format, formats, format_of, Fits}
use Rattle.sheet_lines.specs.Lines.{format_in, header_digits, header_in, header_verdict, frame_digits, frame_in, frame_verdict, frame_read_of, padded}
use Rattle.sheet_lines.proofs.Judged.{row_small}
use Rattle.sheet_lines.proofs.Passed.{Header-in-limits, header_within, header_passed, frame_passed}
use Rattle.sheet_pages.specs.declared.Reading.{Reading}
use Rattle.sheet_pages.specs.Walk.{read_up_to}
use Rattle.base_rows.proofs.Rows.{put_there}
use Rattle.sheet_pages.proofs.Walk.{Outer, Inner, header_read_is, header_fault_is, frame_read_is, frame_fault_is, outer_start, outer_end, outer_fault, outer_inner, inner_fault, inner_end, inner_again, sheets_fewer, lift_pos, read_as, kept, wiped}
use Rattle.sheet_walk.proofs.read_sheets.Given as goal

abbrev pub invariant-loop-k : goal.invariant-loop-k
invariant-loop-k l = Inner formats (format_of l.f) l.s l.card l.all l.due l.left l.n l.h.base l.h.count l.h.session l.i l.r l.at l.last l.k

abbrev pub invariant-sheets : goal.invariant-sheets
invariant-sheets l = Outer formats l.s l.card l.all l.r l.at l.due l.first l.left

abbrev pub decreases-sheets : goal.decreases-sheets
decreases-sheets l = cond (eqb l.first 0) 17 l.left
