-- How long header and frame lines are, for any format. Assumes nothing.
use Prim.Native.Nat.{ℕ, zero, suc, ◌+◌, ◌*◌, ◌≤◌}
use mathlib.Core.Path.{◌≡◌, sym, ◌∙◌, ap}
use mathlib.Core.List.{[], map}
use native.Mathlib.Nat.{suc-mul, zero-mul, add_comm}
use native.Mathlib.Omega.{arith}
use lib.ListN.{length, replicate, length-map, length-replicate}
use Rattle.sheet_digits.specs.declared.Sums.{Sums}
use Rattle.sheet_digits.specs.Digits.{written}
use Rattle.sheet_digits.proofs.Digits.{total, written_length, written_all}
use Rattle.sheet_digits.proofs.Lines.{line_length}
use Rattle.sheet_lines.specs.declared.Header.{Header}
use Rattle.sheet_lines.specs.declared.Frame.{Frame}
use Rattle.sheet_lines.specs.Format.{Format, none_of, shown_by}
use Rattle.sheet_lines.specs.Lines.{start_of, header_widths, header_digits, header_numbers, header_line, frame_widths, frame_digits, frame_numbers, frame_line}

-- ---- the header line

pub header_total : (f : Format) → total (header_widths f) ≡ header_digits f
header_total f = omega arith

pub header_length : (f : Format) (h : Header) → length (written (header_widths f) (header_numbers h)) ≡ header_digits f
header_length f h = written_length (header_widths f) (header_numbers h) (omega arith) ∙ header_total f

pub header_line_length : (f : Format) (h : Header) → length (header_line f h) ≡ header_digits f + 5
unfolding header_line
header_line_length f h = line_length (start_of f h) (header_digits f) (written (header_widths f) (header_numbers h)) [] (written_all (header_widths f) (header_numbers h)) (header_length f h)

-- ---- the frame line

total_replicate : (n k : ℕ) → total (replicate n k) ≡ n * k
total_replicate zero k = sym (zero-mul k)
total_replicate (suc n) k = ap (λ (m : ℕ). k + m) (total_replicate n k) ∙ sym (suc-mul n k ∙ add_comm (n * k) k)

pub frame_total : (f : Format) (n : ℕ) → total (frame_widths f n) ≡ frame_digits f n
frame_total f n = rw (total_replicate n f.width) (omega arith)

-- n entries are written, of as many or more
pub frame_length : (f : Format) (n state : ℕ) (fr : Frame) → n ≤ length fr.entries → length (written (frame_widths f n) (frame_numbers f state fr)) ≡ frame_digits f n
frame_length f n state fr l =
    let r : length {A = ℕ} (replicate n f.width) ≤ length (map (shown_by f.short (none_of f)) fr.entries) = rw (length-replicate, length-map) l in
    written_length (frame_widths f n) (frame_numbers f state fr) (omega arith) ∙ frame_total f n

pub frame_line_length : (f : Format) (start : Sums) (n state : ℕ) (fr : Frame) → n ≤ length fr.entries → length (frame_line f start n state fr) ≡ frame_digits f n + 5
unfolding frame_line
frame_line_length f start n state fr l =
    line_length start (frame_digits f n) (written (frame_widths f n) (frame_numbers f state fr)) [] (written_all (frame_widths f n) (frame_numbers f state fr)) (frame_length f n state fr l)
