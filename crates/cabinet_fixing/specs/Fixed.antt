-- What fix hands back, by its plan: the lent list then begins with the numbers of the changes lost. The stored numbers and lines answered are those of the core handed back.
use Rattle.base_refusal.specs.declared.Refusal.{Refusal}
use Rattle.std.specs.Prelude.{ℕ, ◌≡◌, List, map, length, Result, Ok, Err}
use Rattle.std.proofs.lemmas.List.Edits.{sets}
use Rattle.theory_protocol.specs.Plan.{CardRow, done, opened, safe, unsafe, fixed, written, accepted, refused}
use Rattle.theory_protocol.specs.Plan as plan
use Rattle.theory_protocol.specs.Calls.{fix_plan}
use Rattle.cabinet_layout.specs.declared.Core.{Core}
use Rattle.cabinet_layout.specs.Shape.{limits16, model_of}
use Rattle.cabinet_layout.specs.Applied.{applied_all}
use Rattle.cabinet_recovery.specs.Fix.{FixResult}
use Rattle.cabinet_records.specs.declared.CardRecord.{CardRecord}
use Rattle.cabinet_records.specs.declared.CardNumbers.{CardNumbers}

pub record CoreFixed (entries changes : List ℕ) (s : Core) (places : ℕ) (before after : List ℕ) (reply : (Result ℕ Refusal)) (next : Core) : Type 0 where
  pub told : FixResult (fix_plan limits16 (model_of entries changes s) places (length before)) s.head.cards next.stored next.line before after reply
  pub core : next ≡ applied_all (fix_plan limits16 (model_of entries changes s) places (length before)).edits s

-- ---- the list of card records
-- a row of the answer, as the lent list holds it: (card, stored, line)
abbrev pub record_of : CardRow → CardRecord
record_of r = record { card = r.card; stored = r.stored; line = r.line }

-- the list of card records after the call: the rows "in card order", and "places beyond an answer keep what they held"
abbrev pub records_after : plan.Reply → List CardRecord → List CardRecord
records_after (accepted (fixed rows lost)) l = sets l 0 (map record_of rows)
records_after (accepted done) l = l
records_after (accepted (opened k)) l = l
records_after (accepted safe) l = l
records_after (accepted unsafe) l = l
records_after (accepted (written b)) l = l
records_after (refused r) l = l

-- how many cards have a record in the answer
abbrev pub cards_in : Result ℕ Refusal → ℕ → ℕ
cards_in (Ok k) n = n
cards_in (Err r) n = 0

-- what there is to put into the list of card records
abbrev pub numbers_of : Result ℕ Refusal → Core → CardNumbers
numbers_of r s = record { cards = cards_in r s.head.cards; first = s.stored; second = s.line }
