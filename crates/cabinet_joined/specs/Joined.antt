-- Restart, from the sheets of all cards as the cabinet writes them, joined.
use Rattle.std.specs.Prelude.{ℕ, ◌≡◌, List}
use Rattle.sheet_lines.specs.Format.{formats}
use Rattle.sheet_readout.specs.Joint.{readout_of}
use Rattle.theory_protocol.specs.Plan.{Reply, accepted, refused}
use Rattle.theory_protocol.specs.Codec.{restart_plan}
use Rattle.theory_codec.specs.Sheets.{joined_sheets, restart_reply, codec}
use Rattle.cabinet_layout.specs.Shape.{limits16}
use Rattle.cabinet.specs.declared.Cabinet.{Cabinet}
use Rattle.cabinet.specs.View.{view}
use Rattle.cabinet_restart.specs.Restart.{cabinet_for}

-- the bytes: "the sheets of all cards in card order, joined"
abbrev pub own_sheets : Cabinet → List ℕ
own_sheets c = joined_sheets formats limits16 (view c)

-- no sheet of a cabinet that 28 refuses is written; else what restart answers to the bytes
abbrev pub own_reply : Cabinet → Reply
own_reply c = (restart_plan codec limits16 (view c)).reply

-- after a refused restart the caller goes on with the cabinet it has
abbrev pub going_on : Reply → (handed s : Cabinet) → Cabinet
going_on (accepted a) handed s = handed
going_on (refused r) handed s = s

-- the answer, and the cabinet to go on with: a refusal changes none
pub record FromOwnSheets (c : Cabinet) (reply : Reply) (next : Cabinet) : Type 0 where
  pub answer : reply ≡ own_reply c
  pub cabinet : next ≡ going_on (own_reply c) (cabinet_for (restart_reply (own_sheets c)) (readout_of (own_sheets c)).readout) c
