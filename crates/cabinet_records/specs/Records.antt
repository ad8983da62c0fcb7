-- The list of card records that a caller lends: "places beyond an answer keep what they held".
use Rattle.std.specs.Prelude.{ℕ, cond, ◌&&◌, List, leb, length, get_or}
use Rattle.std.proofs.lemmas.List.Edits.{sets}
use Rattle.base_limits.specs.Document.{most_cards}
use Rattle.base_laws.specs.Below.{tabulate}
use Rattle.cabinet_records.specs.declared.CardRecord.{CardRecord}
use Rattle.cabinet_records.specs.declared.CardNumbers.{CardNumbers}

-- the record of card c: (card, stored, line)
abbrev pub record_at : CardNumbers → ℕ → CardRecord
record_at a c = record { card = c; stored = get_or a.first c 0; line = get_or a.second c 0 }

-- how many places are written: one for each card where all have a place, else none
abbrev pub places_used : CardNumbers → ℕ → ℕ
places_used a places = cond (leb a.cards most_cards && leb a.cards places) a.cards 0

-- the lent list after the call: the records in card order, and beyond them what it held
abbrev pub filled : CardNumbers → List CardRecord → List CardRecord
filled a l = sets l 0 (tabulate (places_used a (length l)) (record_at a))
