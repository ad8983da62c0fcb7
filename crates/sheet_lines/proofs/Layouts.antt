-- Document 01's layout. Assumes nothing.
use mathlib.Core.Path.{◌≡◌, refl}
use mathlib.Core.Bool.{false}
use native.Mathlib.Nat.{sub-zero}
use native.Mathlib.Omega.{arith}
use Rattle.sheet_lines.specs.Format.{from_sheet, format, format_of, Fits, plain}

-- document 01's layout is its format's
pub plain_format : format_of plain ≡ format
plain_format = λ i. record { width = 4; cards = 16; frames = 48; states = 60000; short = false; unraised = λ k. sub-zero k i; start = from_sheet }

pub plain_fits : Fits plain
plain_fits = record { width = omega arith; none = refl; states = omega arith }
