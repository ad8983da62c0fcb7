-- How sheets are written and read: what a list of calls needs to know of it. Document 01's sheets are one such, and any other that meets its law may stand in a list.
use Rattle.std.specs.Prelude.{ℕ, true, not, List, [], ◌∷◌, ltb, length, Ok, Err}
use Rattle.base_refusal.specs.declared.Refusal.TheVariants.{NoSuchCard, TooShort, BadCabinet}
use Rattle.base_refusal.specs.Reply.{Reply}
use Rattle.theory_protocol.specs.Model.{Limits, Model, is_card}
use Rattle.theory_protocol.specs.Valid.{valid}
use Rattle.theory_protocol.specs.Plan.{done, written, Check, ◌⇒◌, Plan, checked}

pub record Codec : Type 0 where
  -- the bytes of a card's sheet, and its last state
  pub sheet : Limits → Model → ℕ → List ℕ
  pub last : Limits → Model → ℕ → ℕ
  -- the bytes of the sheets of all cards in card order, joined
  pub joined : Limits → Model → List ℕ
  -- the verdict on any bytes, and the cabinet restarted from them
  pub verdict : List ℕ → Reply
  pub restarted : Limits → List ℕ → Model

abbrev pub sheet_checks : Codec → Limits → Model → ℕ → ℕ → List Check
sheet_checks C L m c places =
    not (valid L m) ⇒ BadCabinet ∷ not (is_card L m c) ⇒ NoSuchCard ∷ ltb places (length (C.sheet L m c)) ⇒ TooShort ∷ []

-- "A card's sheet may be written in every phase"; places is the length of the buffer lent
abbrev pub sheet_plan : Codec → Limits → Model → (c places : ℕ) → Plan
sheet_plan C L m c places = checked (sheet_checks C L m c places) (written (C.sheet L m c)) []

-- restart from the sheets of all cards as this cabinet writes them, joined: no sheet of a cabinet that 28 refuses is written, and then it goes by the verdict on the bytes
abbrev pub verdict_checks : Reply → List Check
verdict_checks (Ok tt) = []
verdict_checks (Err r) = true ⇒ r ∷ []

abbrev pub restart_checks : Codec → Limits → Model → List Check
restart_checks C L m = not (valid L m) ⇒ BadCabinet ∷ verdict_checks (C.verdict (C.joined L m))

-- it gives another cabinet, and no edits
abbrev pub restart_plan : Codec → Limits → Model → Plan
restart_plan C L m = checked (restart_checks C L m) done []
