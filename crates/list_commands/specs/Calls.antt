-- The calls that have a limit of their own for a number.
use Rattle.std.specs.Prelude.{ℕ, ◌&&◌, cond, eqb, leb}
use Rattle.base_limits.specs.Document.{most_cards, longest_lost, longest_input}
use Rattle.list_commands.specs.declared.Command.{Command}
use Rattle.list_commands.specs.declared.Command.TheVariants.{Asks, Unreadable}
use Rattle.list_commands.specs.declared.Request.TheVariants.{Vote, Fix, Sheet}

-- fix, with at most 16 card records and 776 change numbers
abbrev pub as_fix : (records numbers : ℕ) → Command
as_fix a b = cond (leb a most_cards && leb b longest_lost) (Asks (Fix a b)) Unreadable

-- sheet, with at most 65536 bytes
abbrev pub as_sheet : (card bytes : ℕ) → Command
as_sheet a b = cond (leb b longest_input) (Asks (Sheet a b)) Unreadable

-- a vote, which is 0 or 1
abbrev pub as_vote : (change card yes : ℕ) → Command
as_vote a b c = cond (leb c 1) (Asks (Vote a b (eqb c 1))) Unreadable
