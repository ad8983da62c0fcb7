-- `sheet_page_writer::put_sheet` writes a sheet. The invariant: writing what is left gives the whole. Assumes nothing.
use Prim.Native.Nat.{ℕ, ◌+◌, ◌*◌, ◌-◌, ◌≤◌, zero-le}
use mathlib.Core.Path.{◌≡◌, refl, sym, ◌∙◌, ap}
use mathlib.Core.List.{◌++◌}
use borrow.Author.Rules.{rules}
use native.Mathlib.Omega.{arith}
use lib.ListN.{length}
use lib.Seq.{sets}
use Rattle.base_laws.specs.Below.{tabulate}
use Rattle.sheet_lines.specs.Format.{format_of}
use Rattle.sheet_lines.specs.Lines.{header_digits, frame_digits, start_of, header_line}
use Rattle.sheet_lines.proofs.Judged.{row_small}
use Rattle.sheet_lines.proofs.Passed.{Header-in-limits, header_limits}
use Rattle.sheet_pages.specs.Pages.{frames_bytes}
use Rattle.sheet_page_writer.proofs.Rows.{rows_of, next_row, row_length, writing, writing_start, writing_again, writing_none, lines_fit, next_line_lem}
use Rattle.sheet_page_writer.proofs.put_sheet.Goals as goal

pub overflow_cast-n : goal.overflow_cast-n
overflow_cast-n c =
    let limits : Header-in-limits (format_of c.args.f) c.args.h.card 0 c.args.h = header_limits (format_of c.args.f) _ _ _ c.requires.1 in
    let few : c.unraised-n.result ≤ 16 = let l = limits in omega (arith, l.cards, c.unraised-n.ensures) in
    omega (arith, few)

pub put_header-requires : goal.put_header-requires
put_header-requires c = omega (arith, c.requires.2)

pub overflow_add-line : goal.overflow_add-line
overflow_add-line c =
    let limits : Header-in-limits (format_of c.args.f) c.args.h.card 0 c.args.h = header_limits (format_of c.args.f) _ _ _ c.requires.1 in
    let few : c.unraised-n.result ≤ 16 = let l = limits in omega (arith, l.cards, c.unraised-n.ensures) in
    omega (arith, c.requires.0.width, row_small c.unraised-n.result c.args.f.width (few) c.requires.0.width)

pub overflow_mul-line : goal.overflow_mul-line
overflow_mul-line c =
    let limits : Header-in-limits (format_of c.args.f) c.args.h.card 0 c.args.h = header_limits (format_of c.args.f) _ _ _ c.requires.1 in
    let few : c.unraised-n.result ≤ 16 = let l = limits in omega (arith, l.cards, c.unraised-n.ensures) in
    omega (arith, c.requires.0.width, row_small c.unraised-n.result c.args.f.width (few) c.requires.0.width)

pub overflow_add-line-2 : goal.overflow_add-line-2
overflow_add-line-2 c =
    let limits : Header-in-limits (format_of c.args.f) c.args.h.card 0 c.args.h = header_limits (format_of c.args.f) _ _ _ c.requires.1 in
    let few : c.unraised-n.result ≤ 16 = let l = limits in omega (arith, l.cards, c.unraised-n.ensures) in
    omega (arith, c.requires.0.width, row_small c.unraised-n.result c.args.f.width (few) c.requires.0.width)

pub overflow_add-line-3 : goal.overflow_add-line-3
overflow_add-line-3 c =
    let limits : Header-in-limits (format_of c.args.f) c.args.h.card 0 c.args.h = header_limits (format_of c.args.f) _ _ _ c.requires.1 in
    let few : c.unraised-n.result ≤ 16 = let l = limits in omega (arith, l.cards, c.unraised-n.ensures) in
    omega (arith, c.requires.0.width, row_small c.unraised-n.result c.args.f.width (few) c.requires.0.width)

pub overflow_add-at : goal.overflow_add-at
overflow_add-at c =
    let limits : Header-in-limits (format_of c.args.f) c.args.h.card 0 c.args.h = header_limits (format_of c.args.f) _ _ _ c.requires.1 in
    let few : c.unraised-n.result ≤ 16 = let l = limits in omega (arith, l.cards, c.unraised-n.ensures) in
    omega (arith, c.requires.0.width, row_small c.unraised-n.result c.args.f.width (few) c.requires.0.width)

pub overflow_add-at-2 : goal.overflow_add-at-2
overflow_add-at-2 c =
    let limits : Header-in-limits (format_of c.args.f) c.args.h.card 0 c.args.h = header_limits (format_of c.args.f) _ _ _ c.requires.1 in
    let few : c.unraised-n.result ≤ 16 = let l = limits in omega (arith, l.cards, c.unraised-n.ensures) in
    omega (arith, c.requires.0.width, row_small c.unraised-n.result c.args.f.width (few) c.requires.0.width)

pub loop-k-init : goal.loop-k-init
loop-k-init c = (zero-le, refl, omega arith, refl)

pub overflow_add-state : goal.overflow_add-state
overflow_add-state c =
    let limits : Header-in-limits (format_of c.args.f) c.args.h.card 0 c.args.h = header_limits (format_of c.args.f) _ _ _ c.requires.1 in
    let l = limits in omega (arith, l.states, l.count)

pub overflow_add-state-in-loop-k : goal.overflow_add-state-in-loop-k
overflow_add-state-in-loop-k c =
    let limits : Header-in-limits (format_of c.args.f) c.args.h.card 0 c.args.h = header_limits (format_of c.args.f) _ _ _ c.requires.1 in
    let l = limits in omega (arith, l.states, l.count)

pub put_frame-requires : goal.put_frame-requires
put_frame-requires c =
    let limits : Header-in-limits (format_of c.args.f) c.args.h.card 0 c.args.h = header_limits (format_of c.args.f) _ _ _ c.requires.1 in
    let few : c.unraised-n.result ≤ 16 = let l = limits in omega (arith, l.cards, c.unraised-n.ensures) in
    let fits : header_digits (format_of c.args.f) + 5 + c.args.h.count * (frame_digits (format_of c.args.f) c.unraised-n.result + 5) ≤ length c.args.b.now = rw c.unraised-n.ensures c.requires.2 in
    let l = c.loop-k in
    let g = lines_fit l.k c.args.h.count (frame_digits (format_of c.args.f) c.unraised-n.result + 5) c.loop-k-test.true in
    let x = l.invariant.2 in
    (c.requires.0, few, omega (arith, l.invariant.1, x, g, fits, c.put_header.auto.b))

pub overflow_add-at-in-loop-k : goal.overflow_add-at-in-loop-k
overflow_add-at-in-loop-k c =
    let fits : header_digits (format_of c.args.f) + 5 + c.args.h.count * (frame_digits (format_of c.args.f) c.unraised-n.result + 5) ≤ length c.args.b.now = rw c.unraised-n.ensures c.requires.2 in
    let l = c.loop-k in
    let g = lines_fit l.k c.args.h.count (frame_digits (format_of c.args.f) c.unraised-n.result + 5) c.loop-k-test.true in
    let x = l.invariant.2 in
    omega (arith, l.invariant.1, x, g, fits, c.put_header.auto.b, c.well_formed.1.0.0)

pub loop-k-preserved : goal.loop-k-preserved
loop-k-preserved c =
    let limits : Header-in-limits (format_of c.args.f) c.args.h.card 0 c.args.h = header_limits (format_of c.args.f) _ _ _ c.requires.1 in
    let few : c.unraised-n.result ≤ 16 = let l = limits in omega (arith, l.cards, c.unraised-n.ensures) in
    let a = c.args in
    let f = format_of a.f in
    let n = c.unraised-n.result in
    let l = c.loop-k in (
      omega (arith, c.loop-k-test.true),
      c.put_frame.auto.b ∙ l.invariant.1,
      next_line_lem (header_digits f + 5) l.k (frame_digits f n + 5) l.at l.invariant.2,
      writing_again f (f.start a.h.card a.h.session) n a.h.base a.h.count (rows_of a.changes.now a.entries.now a.h.card a.h.base) l.b l.at l.k c.loop-k-test.true (few) (row_length a.changes.now a.entries.now a.h.card a.h.base l.k)
          (next_row a.changes.now a.entries.now a.h.card a.h.base l.k (let m = limits in omega (arith, m.below, m.cards)) c.frame_of-next.ensures) c.start_of-start.ensures c.put_frame.ensures
          ∙ l.invariant.3,
    )

pub shape_of-b : goal.shape_of-b
shape_of-b c = c.loop-k.invariant.1 ∙ c.put_header.auto.b

pub returns : goal.returns
returns c =
    let a = c.args in
    let f = format_of a.f in
    let start = start_of f a.h in
    let n = c.unraised-n.result in
    let g = rows_of a.changes.now a.entries.now a.h.card a.h.base in
    let l = c.loop-k in
    sym (ap (sets l.b l.at) (writing_none f start n a.h.base a.h.count g l.k c.loop-k-test.false))
    ∙ l.invariant.3
    ∙ writing_start f start n a.h.base a.h.count g a.h a.b.now c.put_header.new.b c.put_header.ensures
    ∙ ap (λ (m : ℕ). sets a.b.now 0 (header_line f a.h ++ frames_bytes f start m (a.h.base + 1) (tabulate a.h.count g))) c.unraised-n.ensures
