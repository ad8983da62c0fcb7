-- The starting sums of two cards' sheets. Assumes nothing.
use native.Mathlib.Omega.{arith}
use Rattle.sheet_lines.specs.Format.{formats, Apart}

-- in document 01's format, as document 02 has it start, a line belongs to its sheet
pub formats_apart : Apart formats
formats_apart = record { cards = λ j k c d s t h l e. omega arith; sessions = λ j k c d s t e. omega arith; from_one = λ j c s h. omega arith }
