-- What the header of a card's sheet tells.
use Rattle.std.specs.Prelude.{ℕ, suc, ◌-◌, ◌&&◌, cond}
use Rattle.base_bits.specs.Member.{member}
use Rattle.sheet_lines.specs.declared.Header.{Header}
use Rattle.theory_protocol.specs.Model.{is_rolling}
use Rattle.cabinet_layout.specs.declared.Head.{Head}
use Rattle.cabinet_layout.specs.Shape.{phase_of}

-- "A card already rolled writes the next session's number."
abbrev pub session_for : Head → (rolled card : ℕ) → ℕ
session_for h rolled c = cond (is_rolling (phase_of h.phase) && member rolled c) (suc h.session) h.session

-- the header of card c's sheet: "Frames run from base + 1 to stored."
abbrev pub card_header : Head → (rolled base stored card : ℕ) → Header
card_header h rolled base stored c = record { session = session_for h rolled c; card = c; cards = h.cards; base = base; count = stored - base }
