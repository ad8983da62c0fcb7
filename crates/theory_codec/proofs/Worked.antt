-- The samples and the worked read-out, as lists of calls, come out as document 01 says: computed. Assumes nothing.
use Rattle.std.specs.Prelude.{Ok}
use Prim.Native.Nat.{suc}
use lib.Dec.{ltb}
use mathlib.Core.Path.{◌≡◌, refl}
use mathlib.Core.List.{[], ◌∷◌, map}
use Rattle.base_limits.specs.Document.{limits16}
use Rattle.sheet_lines.specs.Format.{formats}
use Rattle.base_laws.specs.Below.{tabulate}
use Rattle.sheet_digits.specs.Digits.{is_numeral, is_letter, is_digit, digit, digit_value}
use Rattle.sheet_digits.specs.Line.{check_of, sheet_line, shaped, checked, shape_of}
use Rattle.sheet_lines.specs.Format.{dependency, entry_of}
use Rattle.sheet_lines.specs.Lines.{header_line, header_in, header_allowed, header_verdict, frame_line, state_in, entries_in, frame_in, entries_allowed, frame_allowed, frame_verdict}
use Rattle.sheet_pages.specs.Pages.{read_sheets}
use Rattle.sheet_sessions.specs.Sessions.{apart}
use Rattle.sheet_vectors.specs.Vectors.{two_vectors}
use Rattle.sheet_readout.specs.Joint.{sessions_apart, joint_verdict, pages_read}
use Rattle.theory_protocol.specs.Calls.{fresh_model}
use Rattle.theory_codec.specs.Sheets.{joined_sheets, restart_reply, restarted_from}
use Rattle.theory_codec.specs.Worked.{followed, safe_replies, fix_reply, said_reply, recoveries, worked_calls, worked_bytes}

-- each fix answers what document 01 says, and the lost changes in rising number
pub recovered : map fix_reply recoveries ≡ map said_reply recoveries
unfolding limits16
recovered = refl

-- and each safe what document 02's wish 1 says
pub safe_answered : map safe_replies recoveries ≡ map (λ r. r.safety) recoveries
unfolding limits16
safe_answered = refl

-- the sheets that the calls lead to are the worked read-out, byte for byte
pub worked_written : joined_sheets formats limits16 (followed (fresh_model (λ c. ltb c 2)) worked_calls) ≡ worked_bytes
unfolding limits16 is_numeral is_letter is_digit digit digit_value check_of sheet_line dependency entry_of header_line frame_line
worked_written = refl

-- it restarts: "0 2 1", "1 0 0", and the session after recovery is 2
pub worked_accepted : restart_reply worked_bytes ≡ Ok tt
unfolding is_numeral is_letter is_digit digit digit_value check_of sheet_line shaped checked shape_of dependency entry_of header_line header_in header_allowed header_verdict frame_line state_in entries_in frame_in entries_allowed frame_allowed frame_verdict read_sheets apart sessions_apart two_vectors joint_verdict pages_read
worked_accepted = refl

pub worked_stored : tabulate 2 (restarted_from limits16 worked_bytes).numbers.stored ≡ 2 ∷ 0 ∷ []
unfolding limits16 is_numeral is_letter is_digit digit digit_value check_of sheet_line shaped checked shape_of dependency entry_of header_line header_in header_allowed header_verdict frame_line state_in entries_in frame_in entries_allowed frame_allowed frame_verdict read_sheets apart sessions_apart two_vectors joint_verdict pages_read
worked_stored = refl

pub worked_line : tabulate 2 (restarted_from limits16 worked_bytes).line ≡ 1 ∷ 0 ∷ []
unfolding limits16 is_numeral is_letter is_digit digit digit_value check_of sheet_line shaped checked shape_of dependency entry_of header_line header_in header_allowed header_verdict frame_line state_in entries_in frame_in entries_allowed frame_allowed frame_verdict read_sheets apart sessions_apart two_vectors joint_verdict pages_read
worked_line = refl

pub worked_session : suc (restarted_from limits16 worked_bytes).session ≡ 2
unfolding limits16 is_numeral is_letter is_digit digit digit_value check_of sheet_line shaped checked shape_of dependency entry_of header_line header_in header_allowed header_verdict frame_line state_in entries_in frame_in entries_allowed frame_allowed frame_verdict read_sheets apart sessions_apart two_vectors joint_verdict pages_read
worked_session = refl
