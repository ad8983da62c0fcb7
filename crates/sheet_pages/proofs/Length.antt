-- How many bytes frames, sheets and read-outs are. Assumes nothing.
use Rattle.std.specs.Prelude.{Ok}
use Prim.Native.Nat.{ℕ, ◌+◌, ◌*◌, ◌≤◌, zero-le}
use mathlib.Core.Path.{◌≡◌, sym, ◌∙◌, ap}
use mathlib.Core.Bool.{true}
use mathlib.Core.List.{List, [], ◌∷◌}
use native.Mathlib.Nat.{suc-mul, zero-mul, mul-le-mul}
use native.Mathlib.Omega.{arith}
use lib.ListN.{length, length-append}
use Rattle.sheet_digits.specs.declared.Sums.{Sums}
use Rattle.sheet_lines.specs.declared.Frame.{Frame}
use Rattle.sheet_lines.specs.Format.{Format, format, formats}
use Rattle.sheet_lines.specs.Lines.{cards_of, start_of, header_digits, header_line, frame_digits, frame_line}
use Rattle.sheet_lines.proofs.Passed.{header_limits}
use Rattle.sheet_lines.proofs.Lengths.{header_line_length, frame_line_length}
use Rattle.sheet_pages.specs.Pages.{Page, frames_bytes, bytes_in, page_bytes, pages_bytes, read_sheets}
use Rattle.sheet_pages.specs.Allowed.{Formed, AllAllowed}
use Rattle.sheet_pages.proofs.Round.{read_writes_again}
use Rattle.sheet_pages.proofs.Read.{lines_read}

-- ---- in any format

pub frames_length : (f : Format) (start : Sums) (n state : ℕ) (frs : List Frame) → Formed n frs → length (frames_bytes f start n state frs) ≡ length frs * (frame_digits f n + 5)
frames_length f start n state [] m = sym (zero-mul (frame_digits f n + 5))
frames_length f start n state (fr ∷ frs) m =
    length-append (frame_line f start n state fr) (frames_bytes f start n (state + 1) frs)
    ∙ rw (frame_line_length f start n state fr (omega (arith, m.0)), frames_length f start n (state + 1) frs m.2, suc-mul (length frs) (frame_digits f n + 5)) (omega arith)

pub page_length : (f : Format) (p : Page) → Formed (cards_of f p.header) p.frames → length (bytes_in f p) ≡ header_digits f + 5 + length p.frames * (frame_digits f (cards_of f p.header) + 5)
page_length f p m =
    let h = p.header in
    let body = frames_bytes f (start_of f h) (cards_of f h) (h.base + 1) p.frames in
    length-append (header_line f h) body ∙ rw (header_line_length f h, frames_length f (start_of f h) (cards_of f h) (h.base + 1) p.frames m)

-- ---- in document 01's

-- a header line of 25 and 48 frame lines of 81
pub page_few : (p : Page) → Formed p.header.cards p.frames → p.header.cards ≤ 16 → length p.frames ≤ 48 → length (page_bytes formats p) ≤ 3913
page_few p m few short =
    let line : 4 + 8 + p.header.cards * 4 + 5 ≤ 81 = omega arith in
    omega (arith, page_length format p m, mul-le-mul short line)

pages_few : (due first : ℕ) (ps : List Page) → AllAllowed formats due first ps → length (pages_bytes formats ps) ≤ length ps * 3913
pages_few due first [] a = zero-le
pages_few due first (p ∷ ps) a =
    let l = header_limits format due first p.header a.0.header in
    omega (arith, length-append (page_bytes formats p) (pages_bytes formats ps), page_few p a.0.formed l.cards (omega (arith, l.count, a.0.count)), pages_few (due + 1) first ps a.1)

-- the lines of an accepted read-out: 16 sheets
pub readout_few : (input : List ℕ) → (read_sheets formats true 0 input).verdict ≡ Ok tt → length input ≤ 62608
readout_few input e =
    let r = lines_read formats input e in
    let p = r.head in
    let l = header_limits format 0 0 p.header r.first.header in
    let q : length (pages_bytes formats (p ∷ r.tail)) ≡ length input = ap length (ap (pages_bytes formats) (sym r.all) ∙ read_writes_again formats true 0 input e) in
    omega (
      arith,
      length-append (page_bytes formats p) (pages_bytes formats r.tail),
      page_few p r.first.formed l.cards (omega (arith, l.count, r.first.count)),
      pages_few 1 p.header.cards r.tail r.more,
      r.long,
      l.cards,
      l.below,
    )
