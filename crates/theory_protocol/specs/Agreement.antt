-- Document 02, wish 1: what safe answers and what a fix then lists agree. Statements alone: the proofs are in proofs/Agreement.antt.
use Rattle.std.specs.Prelude.{ℕ, ◌<◌, ◌≡◌, ◌↔◌, List}
use Rattle.base_laws.specs.Below.{occurs}
use Rattle.theory_history.specs.Change.{CardSet}
use Rattle.theory_protocol.specs.Model.{Limits, Model}
use Rattle.theory_protocol.specs.Plan.{CardRow, Answer, done, unsafe, fixed, accepted, after_plan}
use Rattle.theory_protocol.specs.Calls.{end_plan, safe_plan, lose_plan, fix_plan}
use Rattle.theory_protocol.specs.Codec.{Codec}
use Rattle.theory_protocol.specs.Run.{plain, safe_call, lose_call, fix_call, Calls, further, Run}

-- what safe answered of change k, and the numbers that a fix lists: k is among them exactly if it was answered unsafe
abbrev pub Agrees : ℕ → Answer → (lost : List ℕ) → Type 0
Agrees k a lost = (a ≡ unsafe) ↔ (0 < occurs k lost)

-- document 02, wish 5: while a write runs no fix is accepted. The cabinet n after cards of the cabinet m have reported, one after the other, the number that they had stored
pub data Reported (L : Limits) (m : Model) : Model → Type 0 where
  unreported : Reported L m m
  reports : {n : Model} → Reported L m n → (c : ℕ) → (end_plan L n c (n.numbers.stored c)).reply ≡ accepted done → Reported L m (after_plan L (end_plan L n c (n.numbers.stored c)) n)

-- of any cabinet, a forged one too: safe k is answered, a loss is accepted (of all its cards, or of any), cards whose writes run may report what they had stored, and a fix of the cabinet after that is accepted
abbrev pub SafeAgreesWithFix : Type 0
SafeAgreesWithFix =
    (L : Limits) (m : Model) (k : ℕ) (a : Answer) → (safe_plan L m k).reply ≡ accepted a
    → (cards : CardSet) (b : Answer) → (lose_plan L m cards).reply ≡ accepted b
    → (n : Model) → Reported L (after_plan L (lose_plan L m cards) m) n
    → (card_places lost_places : ℕ) (rows : List CardRow) (numbers : List ℕ)
    → (fix_plan L n card_places lost_places).reply ≡ accepted (fixed rows numbers)
    → Agrees k a numbers

-- of every list of calls that ends with these three
abbrev pub AgreesInLists : Codec → Limits → CardSet → Type 0
AgreesInLists C L n =
    (cs : Calls) (k : ℕ) (a : Answer) (cards : CardSet) (b : Answer) (card_places lost_places : ℕ) (rows : List CardRow) (numbers : List ℕ) (m : Model)
    → Run C L n (further (further (further cs (plain (safe_call k)) (accepted a)) (lose_call cards) (accepted b)) (fix_call card_places lost_places) (accepted (fixed rows numbers))) m
    → Agrees k a numbers
