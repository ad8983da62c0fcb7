-- `sheet_page_writer::write_in` writes a sheet where the buffer is long enough, else changes no byte. Assumes nothing.
use Prim.Native.Nat.{◌+◌, ◌*◌, ◌≤◌}
use mathlib.Core.Path.{◌≡◌}
use borrow.Author.Rules.{rules}
use native.Mathlib.Omega.{arith}
use lib.ListN.{length}
use Rattle.sheet_lines.specs.Format.{format_of}
use Rattle.sheet_lines.specs.Lines.{header_digits, frame_digits}
use Rattle.sheet_lines.proofs.Judged.{row_small}
use Rattle.sheet_lines.proofs.Passed.{Header-in-limits, header_limits}
use Rattle.sheet_pages.specs.Pages.{bytes_in}
use Rattle.sheet_page_writer.specs.Write.{ring_rows}
use Rattle.sheet_page_writer.proofs.Rows.{told_short, told_whole, sheet_length, line_bound, lines_bound}
use Rattle.sheet_page_writer.proofs.write_in.Goals as goal

pub overflow_add-length : goal.overflow_add-length
overflow_add-length c =
    let limits : Header-in-limits (format_of c.args.f) c.args.h.card 0 c.args.h = header_limits (format_of c.args.f) _ _ _ c.requires.1 in
    let few : c.unraised-cards.result ≤ 16 = let l = limits in omega (arith, l.cards, c.unraised-cards.ensures) in
    let row : c.unraised-cards.result * c.args.f.width ≤ 128 = row_small c.unraised-cards.result c.args.f.width (few) c.requires.0.width in
    let line : frame_digits (format_of c.args.f) c.unraised-cards.result + 5 ≤ 149 = line_bound c.args.f.width c.unraised-cards.result c.requires.0.width (few) in
    let lines : c.args.h.count * (frame_digits (format_of c.args.f) c.unraised-cards.result + 5) ≤ 7152 = lines_bound c.args.h.count (frame_digits (format_of c.args.f) c.unraised-cards.result + 5) (limits).count (line) in
    omega (arith, c.requires.0.width, row, line, lines)

pub overflow_add-length-2 : goal.overflow_add-length-2
overflow_add-length-2 c =
    let limits : Header-in-limits (format_of c.args.f) c.args.h.card 0 c.args.h = header_limits (format_of c.args.f) _ _ _ c.requires.1 in
    let few : c.unraised-cards.result ≤ 16 = let l = limits in omega (arith, l.cards, c.unraised-cards.ensures) in
    let row : c.unraised-cards.result * c.args.f.width ≤ 128 = row_small c.unraised-cards.result c.args.f.width (few) c.requires.0.width in
    let line : frame_digits (format_of c.args.f) c.unraised-cards.result + 5 ≤ 149 = line_bound c.args.f.width c.unraised-cards.result c.requires.0.width (few) in
    let lines : c.args.h.count * (frame_digits (format_of c.args.f) c.unraised-cards.result + 5) ≤ 7152 = lines_bound c.args.h.count (frame_digits (format_of c.args.f) c.unraised-cards.result + 5) (limits).count (line) in
    omega (arith, c.requires.0.width, row, line, lines)

pub overflow_cast-length : goal.overflow_cast-length
overflow_cast-length c =
    let limits : Header-in-limits (format_of c.args.f) c.args.h.card 0 c.args.h = header_limits (format_of c.args.f) _ _ _ c.requires.1 in
    let few : c.unraised-cards.result ≤ 16 = let l = limits in omega (arith, l.cards, c.unraised-cards.ensures) in
    let row : c.unraised-cards.result * c.args.f.width ≤ 128 = row_small c.unraised-cards.result c.args.f.width (few) c.requires.0.width in
    let line : frame_digits (format_of c.args.f) c.unraised-cards.result + 5 ≤ 149 = line_bound c.args.f.width c.unraised-cards.result c.requires.0.width (few) in
    let lines : c.args.h.count * (frame_digits (format_of c.args.f) c.unraised-cards.result + 5) ≤ 7152 = lines_bound c.args.h.count (frame_digits (format_of c.args.f) c.unraised-cards.result + 5) (limits).count (line) in
    omega (arith, c.requires.0.width, row, line, lines)

pub overflow_add-length-3 : goal.overflow_add-length-3
overflow_add-length-3 c =
    let limits : Header-in-limits (format_of c.args.f) c.args.h.card 0 c.args.h = header_limits (format_of c.args.f) _ _ _ c.requires.1 in
    let few : c.unraised-cards.result ≤ 16 = let l = limits in omega (arith, l.cards, c.unraised-cards.ensures) in
    let row : c.unraised-cards.result * c.args.f.width ≤ 128 = row_small c.unraised-cards.result c.args.f.width (few) c.requires.0.width in
    let line : frame_digits (format_of c.args.f) c.unraised-cards.result + 5 ≤ 149 = line_bound c.args.f.width c.unraised-cards.result c.requires.0.width (few) in
    let lines : c.args.h.count * (frame_digits (format_of c.args.f) c.unraised-cards.result + 5) ≤ 7152 = lines_bound c.args.h.count (frame_digits (format_of c.args.f) c.unraised-cards.result + 5) (limits).count (line) in
    omega (arith, c.requires.0.width, row, line, lines)

pub overflow_cast-length-2 : goal.overflow_cast-length-2
overflow_cast-length-2 c =
    let limits : Header-in-limits (format_of c.args.f) c.args.h.card 0 c.args.h = header_limits (format_of c.args.f) _ _ _ c.requires.1 in
    let few : c.unraised-cards.result ≤ 16 = let l = limits in omega (arith, l.cards, c.unraised-cards.ensures) in
    let row : c.unraised-cards.result * c.args.f.width ≤ 128 = row_small c.unraised-cards.result c.args.f.width (few) c.requires.0.width in
    let line : frame_digits (format_of c.args.f) c.unraised-cards.result + 5 ≤ 149 = line_bound c.args.f.width c.unraised-cards.result c.requires.0.width (few) in
    let lines : c.args.h.count * (frame_digits (format_of c.args.f) c.unraised-cards.result + 5) ≤ 7152 = lines_bound c.args.h.count (frame_digits (format_of c.args.f) c.unraised-cards.result + 5) (limits).count (line) in
    omega (arith, c.requires.0.width, row, line, lines)

pub overflow_mul-length : goal.overflow_mul-length
overflow_mul-length c =
    let limits : Header-in-limits (format_of c.args.f) c.args.h.card 0 c.args.h = header_limits (format_of c.args.f) _ _ _ c.requires.1 in
    let few : c.unraised-cards.result ≤ 16 = let l = limits in omega (arith, l.cards, c.unraised-cards.ensures) in
    let row : c.unraised-cards.result * c.args.f.width ≤ 128 = row_small c.unraised-cards.result c.args.f.width (few) c.requires.0.width in
    let line : frame_digits (format_of c.args.f) c.unraised-cards.result + 5 ≤ 149 = line_bound c.args.f.width c.unraised-cards.result c.requires.0.width (few) in
    let lines : c.args.h.count * (frame_digits (format_of c.args.f) c.unraised-cards.result + 5) ≤ 7152 = lines_bound c.args.h.count (frame_digits (format_of c.args.f) c.unraised-cards.result + 5) (limits).count (line) in
    omega (arith, c.requires.0.width, row, line, lines)

pub overflow_add-length-4 : goal.overflow_add-length-4
overflow_add-length-4 c =
    let limits : Header-in-limits (format_of c.args.f) c.args.h.card 0 c.args.h = header_limits (format_of c.args.f) _ _ _ c.requires.1 in
    let few : c.unraised-cards.result ≤ 16 = let l = limits in omega (arith, l.cards, c.unraised-cards.ensures) in
    let row : c.unraised-cards.result * c.args.f.width ≤ 128 = row_small c.unraised-cards.result c.args.f.width (few) c.requires.0.width in
    let line : frame_digits (format_of c.args.f) c.unraised-cards.result + 5 ≤ 149 = line_bound c.args.f.width c.unraised-cards.result c.requires.0.width (few) in
    let lines : c.args.h.count * (frame_digits (format_of c.args.f) c.unraised-cards.result + 5) ≤ 7152 = lines_bound c.args.h.count (frame_digits (format_of c.args.f) c.unraised-cards.result + 5) (limits).count (line) in
    omega (arith, c.requires.0.width, row, line, lines)

pub overflow_add-length-5 : goal.overflow_add-length-5
overflow_add-length-5 c =
    let limits : Header-in-limits (format_of c.args.f) c.args.h.card 0 c.args.h = header_limits (format_of c.args.f) _ _ _ c.requires.1 in
    let few : c.unraised-cards.result ≤ 16 = let l = limits in omega (arith, l.cards, c.unraised-cards.ensures) in
    let row : c.unraised-cards.result * c.args.f.width ≤ 128 = row_small c.unraised-cards.result c.args.f.width (few) c.requires.0.width in
    let line : frame_digits (format_of c.args.f) c.unraised-cards.result + 5 ≤ 149 = line_bound c.args.f.width c.unraised-cards.result c.requires.0.width (few) in
    let lines : c.args.h.count * (frame_digits (format_of c.args.f) c.unraised-cards.result + 5) ≤ 7152 = lines_bound c.args.h.count (frame_digits (format_of c.args.f) c.unraised-cards.result + 5) (limits).count (line) in
    omega (arith, c.requires.0.width, row, line, lines)

pub overflow_mul-length-2 : goal.overflow_mul-length-2
overflow_mul-length-2 c =
    let limits : Header-in-limits (format_of c.args.f) c.args.h.card 0 c.args.h = header_limits (format_of c.args.f) _ _ _ c.requires.1 in
    let few : c.unraised-cards.result ≤ 16 = let l = limits in omega (arith, l.cards, c.unraised-cards.ensures) in
    let row : c.unraised-cards.result * c.args.f.width ≤ 128 = row_small c.unraised-cards.result c.args.f.width (few) c.requires.0.width in
    let line : frame_digits (format_of c.args.f) c.unraised-cards.result + 5 ≤ 149 = line_bound c.args.f.width c.unraised-cards.result c.requires.0.width (few) in
    let lines : c.args.h.count * (frame_digits (format_of c.args.f) c.unraised-cards.result + 5) ≤ 7152 = lines_bound c.args.h.count (frame_digits (format_of c.args.f) c.unraised-cards.result + 5) (limits).count (line) in
    omega (arith, c.requires.0.width, row, line, lines)

pub overflow_add-length-6 : goal.overflow_add-length-6
overflow_add-length-6 c =
    let limits : Header-in-limits (format_of c.args.f) c.args.h.card 0 c.args.h = header_limits (format_of c.args.f) _ _ _ c.requires.1 in
    let few : c.unraised-cards.result ≤ 16 = let l = limits in omega (arith, l.cards, c.unraised-cards.ensures) in
    let row : c.unraised-cards.result * c.args.f.width ≤ 128 = row_small c.unraised-cards.result c.args.f.width (few) c.requires.0.width in
    let line : frame_digits (format_of c.args.f) c.unraised-cards.result + 5 ≤ 149 = line_bound c.args.f.width c.unraised-cards.result c.requires.0.width (few) in
    let lines : c.args.h.count * (frame_digits (format_of c.args.f) c.unraised-cards.result + 5) ≤ 7152 = lines_bound c.args.h.count (frame_digits (format_of c.args.f) c.unraised-cards.result + 5) (limits).count (line) in
    omega (arith, c.requires.0.width, row, line, lines)

pub returns-then-b-length : goal.returns-then-b-length
returns-then-b-length c =
    let limits : Header-in-limits (format_of c.args.f) c.args.h.card 0 c.args.h = header_limits (format_of c.args.f) _ _ _ c.requires.1 in
    let few : c.unraised-cards.result ≤ 16 = let l = limits in omega (arith, l.cards, c.unraised-cards.ensures) in
    let whole : length (bytes_in (format_of c.args.f) (ring_rows c.args.changes.now c.args.entries.now c.args.h))
    ≡ header_digits (format_of c.args.f) + 5 + c.args.h.count * (frame_digits (format_of c.args.f) c.unraised-cards.result + 5) = let a = c.args in sheet_length (format_of a.f) a.changes.now a.entries.now a.h c.unraised-cards.ensures (few) in
    let a = c.args in
    told_short (bytes_in (format_of a.f) (ring_rows a.changes.now a.entries.now a.h)) a.b.now _ (whole) c.if-b-length.true

pub put_sheet-requires : goal.put_sheet-requires
put_sheet-requires c = (c.requires.0, c.requires.1, rw (← c.unraised-cards.ensures) c.if-b-length.false)

pub returns : goal.returns
returns c =
    let limits : Header-in-limits (format_of c.args.f) c.args.h.card 0 c.args.h = header_limits (format_of c.args.f) _ _ _ c.requires.1 in
    let few : c.unraised-cards.result ≤ 16 = let l = limits in omega (arith, l.cards, c.unraised-cards.ensures) in
    let whole : length (bytes_in (format_of c.args.f) (ring_rows c.args.changes.now c.args.entries.now c.args.h))
    ≡ header_digits (format_of c.args.f) + 5 + c.args.h.count * (frame_digits (format_of c.args.f) c.unraised-cards.result + 5) = let a = c.args in sheet_length (format_of a.f) a.changes.now a.entries.now a.h c.unraised-cards.ensures (few) in
    let a = c.args in
    told_whole (bytes_in (format_of a.f) (ring_rows a.changes.now a.entries.now a.h)) a.b.now _ (whole) c.if-b-length.false c.put_sheet.ensures
