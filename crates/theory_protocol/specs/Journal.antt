-- Document 01's setter's book, here the journal. It "is fed the calls' arguments and answers, nothing from the cabinet".
use Rattle.std.specs.Prelude.{ℕ, Bool, cond, List, [], ◌∷◌, ◌++◌, eqb, length}
use Rattle.theory_history.specs.Change.{CardSet, Change, Numbers, touches, history_of}
use Rattle.theory_history.specs.Vector.{state_vector}
use Rattle.theory_history.specs.Line.{line}
use Rattle.theory_protocol.specs.Model.{Limits, no_cards, within, with_card}
use Rattle.theory_protocol.specs.Edit.{put}
use Rattle.theory_protocol.specs.Plan.{CardRow}

-- what is noted under a change number: an undecided change with its yes votes, or nothing
pub data Noted : Type 0 where
  struck : Noted
  asked : (change : Change) (yes : CardSet) → Noted

-- what is noted of a fix: the line answered, and the cards marked since
pub data Fixing : Type 0 where
  unfixed : Fixing
  fixing : (line : Numbers) (marked : CardSet) → Fixing

-- "It has each card's start and stored number, the undecided changes with their yes votes, and the history, a list of decided changes"
pub record Journal : Type 0 where
  pub start : Numbers
  pub stored : Numbers
  pub undecided : ℕ → Noted
  pub history : List Change
  pub fix : Fixing

-- "at first 0 and empty"
abbrev pub empty_journal : Journal
empty_journal = record { start = λ c. 0; stored = λ c. 0; undecided = λ k. struck; history = []; fix = unfixed }

abbrev pub with_undecided : Journal → (ℕ → Noted) → Journal
with_undecided j u = record { start = j.start; stored = j.stored; undecided = u; history = j.history; fix = j.fix }

-- "Open enters its number and sets."
abbrev pub note_open : Journal → ℕ → CardSet → CardSet → Journal
note_open j k reads writes =
    with_undecided j (put j.undecided k (asked (record { number = k; reads = reads; writes = writes }) no_cards))

-- "A yes is noted; with one from every touched card the change joins the end of the history."
abbrev pub note_yes : Limits → Journal → ℕ → Change → CardSet → Journal
note_yes L j k t votes =
    cond (within L (touches t) votes)
    (record { start = j.start; stored = j.stored; undecided = put j.undecided k struck; history = j.history ++ t ∷ []; fix = j.fix })
    (with_undecided j (put j.undecided k (asked t votes)))

-- "A no or a withdrawal strikes it."
abbrev pub note_struck : Journal → ℕ → Journal
note_struck j k = with_undecided j (put j.undecided k struck)

abbrev pub note_vote_on : Limits → Journal → ℕ → ℕ → Noted → Journal
note_vote_on L j k c struck = j
note_vote_on L j k c (asked t votes) = note_yes L j k t (with_card votes c)

abbrev pub note_vote : Limits → Journal → ℕ → ℕ → Bool → Journal
note_vote L j k c agrees = cond agrees (note_vote_on L j k c (j.undecided k)) (note_struck j k)

-- "Store sets the stored number."
abbrev pub note_store : Journal → ℕ → ℕ → Journal
note_store j c s =
    record { start = j.start; stored = put j.stored c s; undecided = j.undecided; history = j.history; fix = j.fix }

-- "Lose strikes the undecided changes only."
abbrev pub note_lose : Journal → Journal
note_lose j = with_undecided j (λ k. struck)

-- the line of a card by the records answered; of a card with no record, its start number
abbrev pub line_in : List CardRow → Numbers → Numbers
line_in [] start c = start c
line_in (r ∷ rs) start c = cond (eqb r.card c) r.line (line_in rs start c)

-- "Fix notes the line answered, with no card rolled"
abbrev pub note_fix : Journal → List CardRow → Journal
note_fix j rows =
    record { start = j.start; stored = j.stored; undecided = j.undecided; history = j.history; fix = fixing (line_in rows j.start) no_cards }

-- "a roll marks its card. When all are marked, that line becomes the start and stored numbers, and the history is empty." The cards are those of the fresh cabinet.
abbrev pub note_roll_of : Limits → CardSet → Journal → ℕ → Fixing → Journal
note_roll_of L cards j c unfixed = j
note_roll_of L cards j c (fixing line marked) =
    cond (within L cards (with_card marked c))
    (record { start = line; stored = line; undecided = j.undecided; history = []; fix = unfixed })
    (record { start = j.start; stored = j.stored; undecided = j.undecided; history = j.history; fix = fixing line (with_card marked c) })

abbrev pub note_roll : Limits → CardSet → Journal → ℕ → Journal
note_roll L cards j c = note_roll_of L cards j c j.fix

-- the greatest choice of the stored numbers, by the history
abbrev pub greatest_line : Limits → Journal → Numbers
greatest_line L j =
    line L.width (history_of j.history) j.start (length j.history) (state_vector L.width (history_of j.history) j.start (length j.history)) j.stored

-- A restart while rolling notes nothing: "the engine's memory is gone", and the line stands. In the other phases, where no line is noted yet, it strikes the undecided changes,
-- and the greatest choice of the stored numbers is the line, with no card rolled.
abbrev pub note_restart_of : Limits → Journal → Fixing → Journal
note_restart_of L j unfixed =
    record { start = j.start; stored = j.stored; undecided = λ k. struck; history = j.history; fix = fixing (greatest_line L j) no_cards }
note_restart_of L j (fixing line marked) = j

abbrev pub note_restart : Limits → Journal → Journal
note_restart L j = note_restart_of L j j.fix
