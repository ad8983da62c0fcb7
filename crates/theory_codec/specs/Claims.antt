-- Demands 2 and 3 of document 01's cabinets, which have the cards 0 to k − 1 and document 01's sheets; and that its sheets go by no running write. Statements alone: the proofs are in proofs/Document.antt.
use Rattle.std.specs.Prelude.{ℕ, ◌≤◌, ◌≡◌, true, ltb}
use Rattle.base_limits.specs.Document.{most_cards, most_in_hand, last_state, last_number, Limits, limits16}
use Rattle.theory_protocol.specs.Model.{Model}
use Rattle.theory_protocol.specs.Valid.{valid}
use Rattle.theory_protocol.specs.Codec.{sheet_plan}
use Rattle.theory_protocol.specs.Writes.{unwritten, Unseen}
use Rattle.theory_protocol.specs.Demands as lists
use Rattle.theory_codec.specs.Sheets.{codec}

-- the limits for which document 01's sheets have room
pub record SheetLimits (L : Limits) : Type 0 where
  pub width : L.width ≡ most_cards
  pub in_hand : L.in_hand ≡ most_in_hand
  pub greatest_state : L.greatest_state ≡ last_state
  pub greatest_number : L.greatest_number ≡ last_number

-- demands 2 and 3, for every list of calls from a fresh cabinet of any allowed size, with losses anywhere and restarts in any phase
abbrev pub Demands : Limits → Type 0
Demands L = (k : ℕ) → 1 ≤ k → k ≤ L.width → lists.Demands codec L (λ c. ltb c k)

-- demands 2 and 3 of a cabinet of document 01
abbrev pub Demands23 : Type 0
Demands23 = Demands limits16

-- document 02, wish 5: of any cabinet that 28 lets pass, a card's sheet is the same whatever writes run: "stored keeps its old number until the end comes"
abbrev pub SheetsUnseen : Type 0
SheetsUnseen = (L : Limits) (m : Model) → valid L m ≡ true → (c places : ℕ) → Unseen L m (sheet_plan codec L m c places) (sheet_plan codec L (unwritten m) c places)
