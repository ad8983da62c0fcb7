use mathlib.Core.Path.{ap₂}
use mathlib.Core.Bool.{Bool, ◌&&◌}
use Rattle.cabinet_valid.proofs.cabinet_valid.Goals as goal

pub returns : goal.returns
returns c = ap₂ (λ (x y : Bool). x && y) (ap₂ (λ (x y : Bool). x && y) (ap₂ (λ (x y : Bool). x && y) (ap₂ (λ (x y : Bool). x && y) c.session_valid-session.ensures c.cards_valid-number.ensures) c.all_cards_valid-cards.ensures) c.all_slots_valid-open.ensures) c.writes_valid-writes.ensures
