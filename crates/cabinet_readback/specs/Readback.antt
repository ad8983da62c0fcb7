-- What holds of every read-out that a restart accepts, whoever wrote it.
use Rattle.std.specs.Prelude.{ℕ, ◌≡◌, true, List, Ok}
use Rattle.sheet_lines.specs.Format.{formats}
use Rattle.theory_protocol.specs.Valid.{valid}
use Rattle.theory_codec.specs.Sheets.{joined_sheets, restart_reply, restarted_from}
use Rattle.cabinet_layout.specs.Shape.{limits16}

-- an accepted restart is never refused with 28
abbrev pub NeverRefused28 : Type 0
NeverRefused28 = (bytes : List ℕ) → restart_reply bytes ≡ Ok tt → valid limits16 (restarted_from limits16 bytes) ≡ true

-- an accepted read-out is the very bytes that the restarted cabinet writes
abbrev pub WritesTheSame : Type 0
WritesTheSame = (bytes : List ℕ) → restart_reply bytes ≡ Ok tt → joined_sheets formats limits16 (restarted_from limits16 bytes) ≡ bytes
