-- What the line program prints: document 01, "Card sheets and restart". A text is a list of bytes.
use Rattle.std.specs.Prelude.{ℕ, zero, suc, ◌+◌, List, [], ◌∷◌, ◌++◌, length, replicate, Ok, Err}
use Rattle.std.proofs.lemmas.List.Edits.{sets}
use Rattle.base_refusal.specs.Number.{number_of}
use Rattle.base_decimal.specs.Digits.{decimal}
use Rattle.base_text.specs.declared.Progress.{Progress}
use Rattle.base_text.specs.declared.Progress.TheVariants.{Next, Counting, TooShort}
use Rattle.base_lines.specs.Lines.{text_line}
use Rattle.base_refusal.specs.Reply.{Reply}
use Rattle.sheet_readout.specs.Joint.{pages_read}
use Rattle.theory_history.specs.Change.{Numbers}
use Rattle.theory_protocol.specs.Model.{Model}
use Rattle.theory_codec.specs.Sheets.{restart_reply, restarted_from}
use Rattle.cabinet_layout.specs.Shape.{limits16}
use Rattle.cabinet_report.specs.declared.Text.{Text}

-- "per card: card, stored, line", separated by one space, ended by byte 10
abbrev pub row_text : (card stored line : ℕ) → List ℕ
row_text c s l = text_line (decimal c) (s ∷ l ∷ [])

-- of cards 0 to n − 1
abbrev pub rows_text : ℕ → (stored line : Numbers) → List ℕ
rows_text zero s l = []
rows_text (suc n) s l = rows_text n s l ++ row_text n (s n) (l n)

-- "session" and "refused", each with a number after it
abbrev pub session_text : ℕ → List ℕ
session_text n = text_line (115 ∷ 101 ∷ 115 ∷ 115 ∷ 105 ∷ 111 ∷ 110 ∷ []) (n ∷ [])

abbrev pub refused_text : ℕ → List ℕ
refused_text n = text_line (114 ∷ 101 ∷ 102 ∷ 117 ∷ 115 ∷ 101 ∷ 100 ∷ []) (n ∷ [])

-- "then the session after recovery"; "A refusal prints one line alone, as `refused 8`."
abbrev pub text_for : Reply → ℕ → Model → List ℕ
text_for (Ok tt) n m = rows_text n m.numbers.stored m.line ++ session_text (m.session + 1)
text_for (Err r) n m = refused_text (number_of r)

-- the text for any bytes on standard input; there are as many cards as sheets
abbrev pub line_text : List ℕ → List ℕ
line_text bytes = text_for (restart_reply bytes) (length (pages_read bytes).pages) (restarted_from limits16 bytes)

-- ---- a text by value: at the front of 560 bytes, zeros behind it
abbrev pub text_of : List ℕ → Text
text_of xs = record { bytes = sets (replicate 560 0) 0 xs; length = length xs }

-- what of a buffer is text, where it is written as far as the progress says
abbrev pub text_at : List ℕ → Progress → Text
text_at b (Next n) = record { bytes = b; length = n }
text_at b (Counting n) = record { bytes = b; length = 0 }
text_at b TooShort = record { bytes = b; length = 0 }
