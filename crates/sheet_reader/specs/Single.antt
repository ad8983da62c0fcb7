-- What the reader of one sheet, told its card, answers: a read-out that holds that sheet alone.
use Rattle.std.specs.Prelude.{ℕ, false, cond, List, ltb, length, Err}
use Rattle.base_limits.specs.Document.{longest_input}
use Rattle.base_refusal.specs.declared.Refusal.TheVariants.{TooLong}
use Rattle.base_refusal.specs.Reply.{Reply}
use Rattle.sheet_lines.specs.Format.{formats}
use Rattle.sheet_pages.specs.declared.Reading.{Reading}
use Rattle.sheet_pages.specs.Pages.{read_sheets}
use Rattle.sheet_pages.specs.Walk.{answered}

-- the verdict on any bytes: "12 comes before any line"
abbrev pub sheet_verdict : ℕ → List ℕ → Reply
sheet_verdict card input = cond (ltb longest_input (length input)) (Err TooLong) (read_sheets formats false card input).verdict

-- what the reader answers to any bytes
unfoldable pub sheet_read_of : ℕ → List ℕ → Reading
sheet_read_of card input = answered (sheet_verdict card input) (read_sheets formats false card input).pages
