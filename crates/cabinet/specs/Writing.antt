-- What the writer of a card's sheet hands back, by its plan: every byte of the lent buffer.
use Rattle.base_refusal.specs.declared.Refusal.{Refusal}
use Rattle.std.specs.Prelude.{ℕ, ◌≡◌, List, length, Result}
use Rattle.theory_protocol.specs.Codec.{sheet_plan}
use Rattle.theory_codec.specs.Sheets.{codec}
use Rattle.cabinet_layout.specs.Shape.{limits16}
use Rattle.cabinet_sheet.specs.Card.{SheetResult}
use Rattle.cabinet.specs.declared.Cabinet.{Cabinet}
use Rattle.cabinet.specs.View.{view}
use Rattle.cabinet.specs.Apply.{apply_all}

pub record SheetCarried (s : Cabinet) (card : ℕ) (before after : List ℕ) (reply : (Result ℕ Refusal)) (next : Cabinet) : Type 0 where
  pub told : SheetResult (sheet_plan codec limits16 (view s) card (length before)) before after reply
  pub cabinet : next ≡ apply_all (sheet_plan codec limits16 (view s) card (length before)).edits s
