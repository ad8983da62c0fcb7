-- How long the answer of fix can get: "numbers of lost changes into a second list of up to 776". Statements alone: the proofs are in proofs/Room.antt.
use Rattle.std.specs.Prelude.{ℕ, ◌+◌, ◌*◌, ◌≤◌, ◌≡◌, true, length}
use Rattle.base_refusal.specs.declared.Refusal.TheVariants.{TooShort}
use Rattle.theory_protocol.specs.Model.{Limits, Model}
use Rattle.theory_protocol.specs.Valid.{valid}
use Rattle.theory_protocol.specs.Plan.{refused}
use Rattle.theory_protocol.specs.Calls.{lost_numbers, fix_plan}

-- one for each frame that the cards can hold, and one for each slot of a change that a loss ended: 16 * 48 + 8 = 776
abbrev pub most_lost : Limits → ℕ
most_lost L = L.width * L.in_hand + L.slots

-- a cabinet that 28 lets pass has no more lost changes
abbrev pub FewLost : Type 0
FewLost = (L : Limits) (m : Model) → valid L m ≡ true → length (lost_numbers L m) ≤ most_lost L

-- so whoever lends a record for each card and that many numbers never gets 4, whatever the cabinet
abbrev pub NeverShort : Type 0
NeverShort =
    (L : Limits) (m : Model) (card_places lost_places : ℕ) → L.width ≤ card_places → most_lost L ≤ lost_places
    → (fix_plan L m card_places lost_places).reply ≡ refused TooShort → ⊥
