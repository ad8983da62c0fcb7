-- `sheet_walk::read_sheets` reads sheets. At each place, going on from what is taken in so far gives the whole. Assumes nothing.
use Rattle.std.specs.Prelude.{Ok, Err}
use Prim.Native.Nat.{ℕ, ◌+◌, ◌-◌, ◌≤◌, ◌<◌}
use mathlib.Core.Bool.{cond}
use mathlib.Core.Path.{◌≡◌, refl, sym, ◌∙◌, ap}
use borrow.Author.Rules.{rules}
use native.Mathlib.Omega.{arith}
use lib.Dec.{eqb}
use lib.ListN.{length, drop}
use Rattle.sheet_digits.proofs.Lines.{whole_room}
use mathlib.Core.List.{List}
use mathlib.Core.Logic.{⊎_elim}
use Rattle.base_refusal.specs.Reply.{Reply}
use Rattle.sheet_lines.specs.declared.Header.{Header}
use Rattle.sheet_lines.specs.declared.Frame.{Frame}
use Rattle.sheet_lines.specs.declared.Layout.{Layout}
use Rattle.sheet_lines.specs.Format.{Format, formats, format_of, Fits}
use Rattle.sheet_lines.specs.Lines.{format_in, header_digits, header_in, header_verdict, frame_digits, frame_in, frame_verdict, frame_read_of, padded}
use Rattle.sheet_lines.proofs.Judged.{row_small}
use Rattle.sheet_lines.proofs.Passed.{Header-in-limits, header_within, header_passed, frame_passed}
use Rattle.sheet_pages.specs.declared.Reading.{Reading}
use Rattle.sheet_pages.specs.Walk.{read_up_to}
use Rattle.base_rows.proofs.Rows.{put_there}
use Rattle.sheet_pages.proofs.Walk.{Outer, Inner, header_read_is, header_fault_is, frame_read_is, frame_fault_is, outer_start, outer_end, outer_fault, outer_inner, inner_fault, inner_end, inner_again, sheets_fewer, lift_pos, read_as, kept, wiped}
use Rattle.sheet_walk.proofs.read_sheets.Goals as goal
use Rattle.sheet_walk.proofs.read_sheets.Goals.{then-left-eq0, else-left-eq0+in_default, else-left-eq0+in-Ok+then-loop-k-test+in_default-read}

pub sheets-init : goal.sheets-init
sheets-init c = rw c.no_readout-r.ensures (outer_start formats c.args.s.now c.args.card c.args.all)

pub header_at-line-requires : goal.header_at-line-requires
header_at-line-requires c = c.layout_of-f.ensures.fits.width

pub overflow_cast-i : goal.overflow_cast-i
overflow_cast-i c =
    let hd = header_read_is _ _ _ (sym c.header_at-line.ensures ∙ c.in-Ok.is) in
    let w = header_within (format_of c.layout_of-f.result) _ _ _ hd.0 in
    omega (arith, w.below, w.cards, w.card)

pub offset_bounds-r-i : goal.offset_bounds-r-i
offset_bounds-r-i c =
    let hd = header_read_is _ _ _ (sym c.header_at-line.ensures ∙ c.in-Ok.is) in
    let w = header_within (format_of c.layout_of-f.result) _ _ _ hd.0 in
    omega (arith, w.below, w.cards, w.card)

pub bounds-r-i : goal.bounds-r-i
bounds-r-i c =
    let hd = header_read_is _ _ _ (sym c.header_at-line.ensures ∙ c.in-Ok.is) in
    let w = header_within (format_of c.layout_of-f.result) _ _ _ hd.0 in
    omega (arith, w.below, w.cards, w.card)

pub offset_bounds-r-i-in-sheets : goal.offset_bounds-r-i-in-sheets
offset_bounds-r-i-in-sheets c =
    let hd = header_read_is _ _ _ (sym c.header_at-line.ensures ∙ c.in-Ok.is) in
    let w = header_within (format_of c.layout_of-f.result) _ _ _ hd.0 in
    omega (arith, w.below, w.cards, w.card)

pub bounds-r-i-in-sheets : goal.bounds-r-i-in-sheets
bounds-r-i-in-sheets c =
    let hd = header_read_is _ _ _ (sym c.header_at-line.ensures ∙ c.in-Ok.is) in
    let w = header_within (format_of c.layout_of-f.result) _ _ _ hd.0 in
    omega (arith, w.below, w.cards, w.card)

pub overflow_add-at : goal.overflow_add-at
overflow_add-at c = omega (arith, c.layout_of-f.ensures.fits.width)

pub overflow_add-at-in-sheets : goal.overflow_add-at-in-sheets
overflow_add-at-in-sheets c = omega (arith, c.layout_of-f.ensures.fits.width)

pub overflow_add-at-in-sheets-2 : goal.overflow_add-at-in-sheets-2
overflow_add-at-in-sheets-2 c =
    let f = format_of c.layout_of-f.result in
    let hd = header_read_is _ _ _ (sym c.header_at-line.ensures ∙ c.in-Ok.is) in
    let r : c.sheets.at + header_digits f + 5 ≤ length c.args.s.now = whole_room (header_digits f) c.sheets.at c.args.s.now (header_passed f _ _ _ hd.0).whole in
    omega (arith, c.well_formed.0.0)

pub loop-k-init : goal.loop-k-init
loop-k-init c =
    let hd = header_read_is _ _ _ (sym c.header_at-line.ensures ∙ c.in-Ok.is) in
    outer_inner c.sheets.invariant c.in-Ok.h (lift_pos _ c.if-left-eq0.false) (omega arith) (c.layout_of-f.ensures.format ∙ ap formats c.told_at.ensures) (sym hd.1) hd.0 c.unraised-n.ensures c.sheets_left-left.ensures refl

pub overflow_add-state : goal.overflow_add-state
overflow_add-state c = omega (arith, c.loop-k.invariant.states)

pub overflow_add-state-in-loop-k : goal.overflow_add-state-in-loop-k
overflow_add-state-in-loop-k c = omega (arith, c.loop-k.invariant.states)

pub frame_at-read-requires : goal.frame_at-read-requires
frame_at-read-requires c = (c.layout_of-f.ensures.fits, c.loop-k.invariant.cards)

pub overflow_add-r : goal.overflow_add-r
overflow_add-r c = omega (arith, c.loop-k.invariant.frames, c.loop-k.invariant.passed, c.loop-k-test.true)

pub offset_bounds-r-i-in-loop-k : goal.offset_bounds-r-i-in-loop-k
offset_bounds-r-i-in-loop-k c = omega (arith, c.loop-k.invariant.below, c.loop-k.invariant.cards, c.loop-k.invariant.index)

pub bounds-r-i-in-loop-k : goal.bounds-r-i-in-loop-k
bounds-r-i-in-loop-k c = omega (arith, c.loop-k.invariant.below, c.loop-k.invariant.cards, c.loop-k.invariant.index)

pub offset_bounds-r-place : goal.offset_bounds-r-place
offset_bounds-r-place c = omega (arith, c.loop-k.invariant.below, c.loop-k.invariant.cards)

pub bounds-r-place : goal.bounds-r-place
bounds-r-place c = omega (arith, c.loop-k.invariant.below, c.loop-k.invariant.cards)

pub overflow_add-at-in-loop-k : goal.overflow_add-at-in-loop-k
overflow_add-at-in-loop-k c = omega (arith, c.layout_of-f.ensures.fits.width)

pub overflow_cast-at : goal.overflow_cast-at
overflow_cast-at c = omega (arith, c.loop-k.invariant.cards)

pub overflow_mul-at : goal.overflow_mul-at
overflow_mul-at c = omega (arith, row_small c.unraised-n.result c.layout_of-f.result.width c.loop-k.invariant.cards c.layout_of-f.ensures.fits.width)

pub overflow_add-at-in-loop-k-2 : goal.overflow_add-at-in-loop-k-2
overflow_add-at-in-loop-k-2 c = omega (arith, c.layout_of-f.ensures.fits.width, row_small c.unraised-n.result c.layout_of-f.result.width c.loop-k.invariant.cards c.layout_of-f.ensures.fits.width)

pub overflow_add-at-in-loop-k-3 : goal.overflow_add-at-in-loop-k-3
overflow_add-at-in-loop-k-3 c = omega (arith, c.layout_of-f.ensures.fits.width, row_small c.unraised-n.result c.layout_of-f.result.width c.loop-k.invariant.cards c.layout_of-f.ensures.fits.width)

pub overflow_add-at-in-loop-k-4 : goal.overflow_add-at-in-loop-k-4
overflow_add-at-in-loop-k-4 c =
    let f = format_of c.layout_of-f.result in
    let fr = rw c.start_of-start.ensures at c.frame_at-read.ensures in
    let e = frame_read_is _ _ _ (sym fr ∙ c.in-Ok-read.is) in
    let r : c.loop-k.at + frame_digits f c.unraised-n.result + 5 ≤ length c.args.s.now = whole_room (frame_digits f c.unraised-n.result) c.loop-k.at c.args.s.now (frame_passed f _ _ _ _ _ _ e.0).whole in
    omega (arith, c.well_formed.0.0)

pub loop-k-preserved : goal.loop-k-preserved
loop-k-preserved c =
    let fr = rw c.start_of-start.ensures at c.frame_at-read.ensures in
    let e = frame_read_is _ _ _ (sym fr ∙ c.in-Ok-read.is) in
    inner_again c.loop-k.invariant c.loop-k-test.true e.0 e.1 e.2 c.ring_place-place.ensures (put_there c.loop-k.r.entries c.in-Ok-read.next.entries c.ring_place-place.result (omega (arith, c.ring_place-place.ensures, c.loop-k.invariant.below, c.loop-k.invariant.cards)) c.put_row.ensures)

pub overflow_add-due : goal.overflow_add-due
overflow_add-due c = omega (arith, c.loop-k.invariant.below, c.loop-k.invariant.cards)

pub overflow_sub-left : goal.overflow_sub-left
overflow_sub-left c = omega (arith, c.loop-k.invariant.some)

pub sheets-smaller : goal.sheets-smaller
sheets-smaller c = sheets_fewer c.args.all c.sheets.first c.sheets.left c.unraised-n.result c.sheets_left-left.result c.sheets_left-left.ensures c.sheets.invariant.begun (lift_pos _ c.if-left-eq0.false) (omega (arith, c.loop-k.invariant.below)) c.loop-k.invariant.cards

pub sheets-preserved : goal.sheets-preserved
sheets-preserved c = inner_end c.loop-k.invariant c.loop-k-test.false

pub returns-in-Err : goal.returns-in-Err
returns-in-Err c =
    let up : ◌≡◌ {A = Reading} (record { readout = c.if-left-eq0.r; verdict = c.if-left-eq0.verdict }) (read_up_to formats c.args.all c.args.card c.args.s.now) =
    elim c.if-left-eq0.branch [
      | then-left-eq0 w ↦ read_as w.r-is w.verdict-is (outer_end c.sheets.invariant w.if-left-eq0.true w.end_at-verdict.ensures)
      | else-left-eq0+in_default w ↦
          let is : w.header_at-line.result ≡ Err w.in_default.field-0 = w.in_default.is in
          let e = header_fault_is _ _ w.in_default.field-0 (sym w.header_at-line.ensures ∙ is) in
          read_as w.r-is w.verdict-is (rw (w.verdict_of-verdict.ensures, is) (outer_fault c.sheets.invariant (lift_pos _ w.if-left-eq0.false) (w.layout_of-f.ensures.format ∙ ap formats w.told_at.ensures) e))
      | else-left-eq0+in-Ok+then-loop-k-test+in_default-read w ↦
          let fr = rw w.start_of-start.ensures at w.frame_at-read.ensures in
          let is : w.frame_at-read.result ≡ Err w.in_default-read.field-0 = w.in_default-read.is in
          let e = frame_fault_is _ _ w.in_default-read.field-0 (sym fr ∙ is) in
          read_as w.r-is w.verdict-is (rw (w.verdict_of-verdict-in_default-read.ensures, is) (inner_fault w.loop-k.invariant w.loop-k-test.true e))
    ] in
    wiped formats c.args.all c.args.card c.args.s.now up c.in-Err.is c.nothing_read.ensures

pub returns-in-Ok-verdict : goal.returns-in-Ok-verdict
returns-in-Ok-verdict c =
    let up : ◌≡◌ {A = Reading} (record { readout = c.if-left-eq0.r; verdict = c.if-left-eq0.verdict }) (read_up_to formats c.args.all c.args.card c.args.s.now) =
    elim c.if-left-eq0.branch [
      | then-left-eq0 w ↦ read_as w.r-is w.verdict-is (outer_end c.sheets.invariant w.if-left-eq0.true w.end_at-verdict.ensures)
      | else-left-eq0+in_default w ↦
          let is : w.header_at-line.result ≡ Err w.in_default.field-0 = w.in_default.is in
          let e = header_fault_is _ _ w.in_default.field-0 (sym w.header_at-line.ensures ∙ is) in
          read_as w.r-is w.verdict-is (rw (w.verdict_of-verdict.ensures, is) (outer_fault c.sheets.invariant (lift_pos _ w.if-left-eq0.false) (w.layout_of-f.ensures.format ∙ ap formats w.told_at.ensures) e))
      | else-left-eq0+in-Ok+then-loop-k-test+in_default-read w ↦
          let fr = rw w.start_of-start.ensures at w.frame_at-read.ensures in
          let is : w.frame_at-read.result ≡ Err w.in_default-read.field-0 = w.in_default-read.is in
          let e = frame_fault_is _ _ w.in_default-read.field-0 (sym fr ∙ is) in
          read_as w.r-is w.verdict-is (rw (w.verdict_of-verdict-in_default-read.ensures, is) (inner_fault w.loop-k.invariant w.loop-k-test.true e))
    ] in
    kept formats c.args.all c.args.card c.args.s.now up c.in-Ok-verdict.is
