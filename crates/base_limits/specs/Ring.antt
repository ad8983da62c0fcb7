-- Frames stand in a ring, 48 for each card.
use Rattle.std.specs.Prelude.{ℕ, ◌+◌, ◌*◌, ◌%◌}
use Rattle.base_limits.specs.Document.{most_in_hand}

-- the place of state x of card c; its entries begin at 16 times that place
abbrev pub ring_place : ℕ → ℕ → ℕ
ring_place c x = c * most_in_hand + x % most_in_hand
