-- What a line of a list of calls says, and where the lines of a text begin.
use Rattle.std.specs.Prelude.{ℕ, ◌+◌, cond, List, leb, ltb, length, drop, Option, Some, None}
use Rattle.base_search.specs.Search.{before}
use Rattle.list_words.specs.Line.{figures_at}
use Rattle.list_commands.specs.declared.Command.{Command}
use Rattle.list_commands.specs.declared.Command.TheVariants.{Unreadable}
use Rattle.list_names.specs.Names.{parse_with}

-- what a line of at most 128 bytes says: its word is what stands before the first space
abbrev pub parse_line : List ℕ → Command
parse_line l = cond (ltb 128 (length l)) Unreadable (parse_with (before 32 l) (figures_at l (length (before 32 l))))

-- ---- the lines of a text, each ended by byte 10 or by the end of the text

abbrev pub line_end : List ℕ → ℕ → ℕ
line_end s from = from + length (before 10 (drop from s))

-- the next line begins after the byte 10, where there is one
abbrev pub next_line : List ℕ → ℕ → ℕ
next_line s from = cond (ltb (line_end s from) (length s)) (line_end s from + 1) (line_end s from)

abbrev pub token_at : List ℕ → ℕ → Option (Command × ℕ)
token_at s from = cond (leb (length s) from) None (Some ((parse_line (before 10 (drop from s))), (next_line s from)))
