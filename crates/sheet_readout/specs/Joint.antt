-- What the reader of a joined read-out answers, over its sheets: refusals 11, 24 and 10 behind the last line.
use Rattle.std.specs.Prelude.{ℕ, ◌-◌, Bool, true, cond, List, [], ltb, eqb, length, Ok, Err}
use Rattle.base_limits.specs.Document.{last_number, longest_input}
use Rattle.base_refusal.specs.declared.Refusal.TheVariants.{TwoVectors, SessionsApart, TooLong, LimitReached}
use Rattle.base_refusal.specs.Reply.{Reply}
use Rattle.sheet_lines.specs.Format.{formats}
use Rattle.sheet_pages.specs.declared.Reading.{Reading}
use Rattle.sheet_pages.specs.Pages.{Page, read_sheets}
use Rattle.sheet_pages.specs.Walk.{no_readout, lay_pages}
use Rattle.sheet_pages.specs.Ring.{page_at}
use Rattle.sheet_sessions.specs.Sessions.{lowest_to, apart}
use Rattle.sheet_vectors.specs.Vectors.{two_vectors}

-- "the lowest session found"
abbrev pub lowest_session : List Page → ℕ
lowest_session ps = lowest_to (λ c. (page_at ps c).header.session) (length ps - 1)

-- refusal 11: "sessions more than one apart, or a sheet one ahead has frames"
unfoldable pub sessions_apart : List Page → Bool
sessions_apart ps = apart (λ c. (page_at ps c).header.session) (λ c. length (page_at ps c).frames) (lowest_session ps) (length ps)

-- "then 11, 24, 10"
unfoldable pub joint_verdict : List Page → Reply
joint_verdict ps =
    cond (sessions_apart ps) (Err SessionsApart) (cond (eqb (lowest_session ps) last_number) (Err LimitReached) (cond (two_vectors ps) (Err TwoVectors) (Ok tt)))

-- the sheets of a read-out, and the verdict on it
pub record PagesRead : Type 0 where
  pub pages : List Page
  pub verdict : Reply

-- a refused read-out has no sheets: "nothing of the sheet is used"
abbrev pub judged : Reply → List Page → PagesRead
judged (Ok _) ps = record { pages = ps; verdict = Ok tt }
judged (Err x) ps = record { pages = []; verdict = Err x }

-- a read-out by the verdict on its lines, and then jointly
abbrev pub lined : Reply → List Page → PagesRead
lined (Ok _) ps = judged (joint_verdict ps) ps
lined (Err x) ps = judged (Err x) ps

-- what any bytes are as the sheets of all cards: "12 comes before any line"
unfoldable pub pages_read : List ℕ → PagesRead
pages_read input =
    cond (ltb longest_input (length input)) (judged (Err TooLong) []) (lined (read_sheets formats true 0 input).verdict (read_sheets formats true 0 input).pages)

-- sheets with their verdict as the reader gives them, by value; of no sheets that is the read-out of zeros
abbrev pub given : PagesRead → Reading
given p = record { readout = lay_pages p.pages no_readout; verdict = p.verdict }

-- what the reader of a read-out answers to any bytes
abbrev pub readout_of : List ℕ → Reading
readout_of input = given (pages_read input)
