-- What there is before the first line, and what a line goes on with.
use Rattle.std.specs.Prelude.{true, false}
use Rattle.cabinet.specs.declared.Cabinet.{Cabinet}
use Rattle.cabinet.specs.Fresh.{zero_cabinet, void_head}
use Rattle.base_text.specs.declared.Progress.{Progress}
use Rattle.base_text.specs.declared.Progress.TheVariants.{Next, Counting, TooShort}
use Rattle.list_results.specs.declared.Replay.{Replay}

-- before the first cabinet
abbrev pub nothing_yet : Replay
nothing_yet = record { cabinet = zero_cabinet void_head; begun = false }

-- the replay to go on with after a call
abbrev pub begun_with : Cabinet → Replay
begun_with c = record { cabinet = c; begun = true }

-- the replay to go on with: as it was, where the buffer is too short for the answer
abbrev pub going_on : Progress → (next r : Replay) → Replay
going_on (Next at) next r = next
going_on (Counting n) next r = next
going_on TooShort next r = r
