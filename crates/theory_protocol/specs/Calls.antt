-- Document 01's calls 1 to 10 and those that document 02 adds, for every cabinet and all arguments.
use Rattle.std.specs.Prelude.{ℕ, suc, ◌+◌, ◌-◌, max, Bool, not, ◌&&◌, ◌||◌, cond, List, [], ◌∷◌, eqb, leb, ltb, length}
use Rattle.base_laws.specs.Below.{any_below, greatest, first_below, selected}
use Rattle.base_refusal.specs.declared.Refusal.TheVariants.{NoSuchCard, BothSetsEmpty, TooShort, WrongPhase, Barred, NoSlot, InHandFull, LimitReached, NotAwaited, AlreadyDecided, StoreOutside, BadCabinet, NotDecided, AlreadyRolled, WriteRunning, EndOutside, WriteUnreported}
use Rattle.theory_history.specs.Change.{CardSet, Numbers, touches}
use Rattle.theory_history.specs.Vector.{no_entries, vector_of}
use Rattle.theory_history.specs.Line.{line_from}
use Rattle.theory_protocol.specs.Model.{unvoted, Limits, Phase, up, is_up, is_down, is_rolling, OpenChange, Model, no_cards, free_slot, is_card, strays, is_empty, within, with_card, is_open, decided, closed, slot_of, free_at, is_known, tracked, with_yes, with_taken, with_vector, is_writing, writes_to}
use Rattle.theory_protocol.specs.Valid.{valid}
use Rattle.theory_protocol.specs.Edit.{Edit, place, latest, grow, raise, keep, begin, end, rebase, fall, halt, fix, lower, renew, edited_all}
use Rattle.theory_protocol.specs.Plan.{CardRow, done, opened, safe, unsafe, fixed, Check, ◌⇒◌, Plan, checked}

-- ---- a fresh cabinet
-- "number of cards not 1 to 16"
abbrev pub fresh_refused : Limits → ℕ → Bool
fresh_refused L n = not (leb 1 n && leb n L.width)

-- "A fresh cabinet has session 1, phase up, all state numbers 0, all entries none."
abbrev pub fresh_model : CardSet → Model
fresh_model there =
    record {
      session = 1;
      phase = up;
      latest = 0;
      present = there;
      numbers = record { base = λ c. 0; stored = λ c. 0; held = λ c. 0; reached = λ c. 0 };
      memory = record { last = λ c. no_entries; pending = λ c. no_entries; change = λ c x. 0; frame = λ c x. no_entries };
      slot = λ p. free_slot;
      ended = λ p. 0;
      line = λ c. 0;
      rolled = no_cards;
      writing = λ c. 0;
    }

-- ---- 1. open
-- "Until a touched card takes its share, others may not write it; a written card they may not read either": the open change o bars card c for an opening
abbrev pub bars : OpenChange → CardSet → CardSet → CardSet
bars o reads writes c =
    is_open o && touches o.change c && not (o.taken c) && (writes c || (reads c && o.change.writes c))

-- a touched card that an open change bars
abbrev pub barred : Limits → Model → CardSet → CardSet → CardSet
barred L m reads writes c = any_below L.slots (λ p. bars (m.slot p) reads writes c)

-- the card that 21 names, as document 02's wish 2 has it: "Name the lowest such card."
abbrev pub lowest_barred : Limits → Model → CardSet → CardSet → ℕ
lowest_barred L m reads writes = first_below L.width (barred L m reads writes)

-- a written card of which the test holds
abbrev pub some_written : Limits → CardSet → (ℕ → Bool) → Bool
some_written L writes test = any_below L.width (λ c. writes c && test c)

-- the change that an opening puts into its slot
abbrev pub opened_change : ℕ → CardSet → CardSet → OpenChange
opened_change k reads writes = unvoted (record { number = k; reads = reads; writes = writes })

abbrev pub open_checks : Limits → Model → CardSet → CardSet → List Check
open_checks L m reads writes =
    not (valid L m) ⇒ BadCabinet
    ∷ (strays L m reads || strays L m writes) ⇒ NoSuchCard
    ∷ (is_empty L reads && is_empty L writes) ⇒ BothSetsEmpty
    ∷ not (is_up m.phase) ⇒ WrongPhase
    ∷ any_below L.width (barred L m reads writes) ⇒ Barred (lowest_barred L m reads writes)
    ∷ not (ltb (free_at L m) L.slots) ⇒ NoSlot
    ∷ some_written L writes (λ c. leb (m.numbers.base c + L.in_hand) (m.numbers.reached c)) ⇒ InHandFull
    ∷ (some_written L writes (λ c. leb L.greatest_state (m.numbers.reached c)) || leb L.greatest_number m.latest) ⇒ LimitReached
    ∷ []

abbrev pub open_plan : Limits → Model → CardSet → CardSet → Plan
open_plan L m reads writes =
    checked (open_checks L m reads writes) (opened (suc m.latest))
    (place (free_at L m) (opened_change (suc m.latest) reads writes) ∷ latest (suc m.latest) ∷ [])

-- ---- 2. vote
-- the open change with one yes more, and with its vector where that decides it
abbrev pub voted_yes : Limits → Model → OpenChange → ℕ → OpenChange
voted_yes L m o c =
    cond (decided L (with_yes o (with_card o.yes c)))
    (with_vector (with_yes o (with_card o.yes c)) (vector_of L.width (tracked m) o.change))
    (with_yes o (with_card o.yes c))

-- "A no ends the change."
abbrev pub voted : Limits → Model → OpenChange → ℕ → Bool → OpenChange
voted L m o c agrees = cond agrees (voted_yes L m o c) free_slot

abbrev pub vote_checks : Limits → Model → ℕ → ℕ → List Check
vote_checks L m k c =
    not (valid L m) ⇒ BadCabinet
    ∷ not (is_card L m c) ⇒ NoSuchCard
    ∷ not (is_up m.phase) ⇒ WrongPhase
    ∷ not (is_known L m k) ⇒ NotAwaited
    ∷ decided L (m.slot (slot_of L m k)) ⇒ AlreadyDecided
    ∷ not (touches (m.slot (slot_of L m k)).change c && not ((m.slot (slot_of L m k)).yes c)) ⇒ NotAwaited
    ∷ []

abbrev pub vote_plan : Limits → Model → ℕ → ℕ → Bool → Plan
vote_plan L m k c agrees =
    checked (vote_checks L m k c) done
    (place (slot_of L m k) (voted L m (m.slot (slot_of L m k)) c agrees) ∷ [])

-- ---- 3. take
-- the open change after card c took its share: closed after the last one
abbrev pub took_share : Limits → OpenChange → ℕ → OpenChange
took_share L o c =
    cond (closed L (with_taken o (with_card o.taken c))) free_slot
    (with_taken o (with_card o.taken c))

-- "A written card goes up by one state .. A card only read raises its pending"
abbrev pub share_edit : OpenChange → ℕ → Edit
share_edit o c = cond (o.change.writes c) (grow c o.change.number o.vector) (raise c o.vector)

abbrev pub take_checks : Limits → Model → ℕ → ℕ → List Check
take_checks L m k c =
    not (valid L m) ⇒ BadCabinet
    ∷ not (is_card L m c) ⇒ NoSuchCard
    ∷ not (is_up m.phase) ⇒ WrongPhase
    ∷ not (is_known L m k) ⇒ NotAwaited
    ∷ not (decided L (m.slot (slot_of L m k))) ⇒ NotDecided
    ∷ not (touches (m.slot (slot_of L m k)).change c && not ((m.slot (slot_of L m k)).taken c)) ⇒ NotAwaited
    ∷ []

abbrev pub take_plan : Limits → Model → ℕ → ℕ → Plan
take_plan L m k c =
    checked (take_checks L m k c) done
    (share_edit (m.slot (slot_of L m k)) c ∷ place (slot_of L m k) (took_share L (m.slot (slot_of L m k)) c) ∷ [])

-- ---- 4. withdraw
abbrev pub withdraw_checks : Limits → Model → ℕ → List Check
withdraw_checks L m k =
    not (valid L m) ⇒ BadCabinet
    ∷ not (is_up m.phase) ⇒ WrongPhase
    ∷ not (is_known L m k) ⇒ NotAwaited
    ∷ decided L (m.slot (slot_of L m k)) ⇒ AlreadyDecided
    ∷ []

abbrev pub withdraw_plan : Limits → Model → ℕ → Plan
withdraw_plan L m k = checked (withdraw_checks L m k) done (place (slot_of L m k) free_slot ∷ [])

-- ---- 5. store, and with document 02's wish 5 its beginning, with the same checks, and its end
abbrev pub store_checks : Limits → Model → ℕ → ℕ → List Check
store_checks L m c s =
    not (valid L m) ⇒ BadCabinet
    ∷ not (is_card L m c) ⇒ NoSuchCard
    ∷ is_rolling m.phase ⇒ WrongPhase
    ∷ not (leb (m.numbers.stored c) s && leb s (m.numbers.held c)) ⇒ StoreOutside
    ∷ is_writing m c ⇒ WriteRunning
    ∷ []

abbrev pub store_plan : Limits → Model → ℕ → ℕ → Plan
store_plan L m c s = checked (store_checks L m c s) done (keep c s ∷ [])

-- "a beginning (up to state s)": "stored keeps its old number until the end comes"
abbrev pub begin_plan : Limits → Model → ℕ → ℕ → Plan
begin_plan L m c s = checked (store_checks L m c s) done (begin c s ∷ [])

-- "an end (the number reached, from the old stored number to s)"
abbrev pub end_checks : Limits → Model → ℕ → ℕ → List Check
end_checks L m c x =
    not (valid L m) ⇒ BadCabinet
    ∷ not (is_card L m c) ⇒ NoSuchCard
    ∷ is_rolling m.phase ⇒ WrongPhase
    ∷ not (is_writing m c && leb (m.numbers.stored c) x && leb x (writes_to m c)) ⇒ EndOutside
    ∷ []

abbrev pub end_plan : Limits → Model → ℕ → ℕ → Plan
end_plan L m c x = checked (end_checks L m c x) done (end c x ∷ [])

-- ---- 6. trim
-- the line of card c that the present stored numbers give, from what is in hand
abbrev pub recovery_line : Limits → Model → Numbers
recovery_line L m c = line_from L.width m.numbers.stored (m.memory.frame c) (m.numbers.base c) (m.numbers.reached c)

-- the numbers f of the cards that are there, and the old ones of the others
abbrev pub of_cards : Limits → Model → Numbers → Numbers → Numbers
of_cards L m old f c = cond (is_card L m c) (f c) (old c)

-- the line of each card; of a card that is not there, its base
abbrev pub lines : Limits → Model → Numbers
lines L m = of_cards L m m.numbers.base (recovery_line L m)

abbrev pub trim_checks : Limits → Model → List Check
trim_checks L m = not (valid L m) ⇒ BadCabinet ∷ not (is_up m.phase) ⇒ WrongPhase ∷ []

abbrev pub trim_plan : Limits → Model → Plan
trim_plan L m = checked (trim_checks L m) done (rebase (lines L m) ∷ [])

-- ---- frames of a change
-- card c has a frame of change k above the number x
abbrev pub frame_above : Model → ℕ → ℕ → ℕ → Bool
frame_above m k c x = any_below (m.numbers.reached c - x) (λ s. eqb (m.memory.change c (suc (x + s))) k)

-- some card of the cabinet has a frame of change k above its number in x
abbrev pub some_frame_above : Limits → Model → ℕ → Numbers → Bool
some_frame_above L m k x = any_below L.width (λ c. m.present c && frame_above m k c (x c))

-- ---- 8. lose
abbrev pub lose_checks : Limits → Model → CardSet → List Check
lose_checks L m cards = not (valid L m) ⇒ BadCabinet ∷ strays L m cards ⇒ NoSuchCard ∷ []

-- "Their held falls to stored. From up, open changes end and the phase is down."
abbrev pub loss_edits : Phase → CardSet → List Edit
loss_edits phase cards = fall cards ∷ cond (is_up phase) (halt ∷ []) []

abbrev pub lose_plan : Limits → Model → CardSet → Plan
lose_plan L m cards = checked (lose_checks L m cards) done (loss_edits m.phase cards)

-- ---- lost changes
-- the change k is lost: "decided in this session, wrote a card, not in the line". It has a frame above the line, or it ended with a written share untaken.
abbrev pub is_lost : Limits → Model → ℕ → Bool
is_lost L m k =
    not (eqb k 0) && (some_frame_above L m k (recovery_line L m) || any_below L.slots (λ p. eqb (m.ended p) k))

-- ---- 7. safe, as document 02's wish 1 has it
-- "if every card were lost at this moment with the present stored numbers": a loss of all its cards from phase up
abbrev pub all_lost : Limits → Model → Model
all_lost L m = edited_all L (loss_edits up m.present) m

-- "a change is safe when it would be in the line" then
abbrev pub is_safe : Limits → Model → ℕ → Bool
is_safe L m k = not (is_lost L (all_lost L m) k)

-- "Known are changes with a frame above base."
abbrev pub has_frame : Limits → Model → ℕ → Bool
has_frame L m k = not (eqb k 0) && some_frame_above L m k m.numbers.base

abbrev pub safe_checks : Limits → Model → ℕ → List Check
safe_checks L m k = not (valid L m) ⇒ BadCabinet ∷ not (is_up m.phase) ⇒ WrongPhase ∷ not (has_frame L m k) ⇒ NotAwaited ∷ []

abbrev pub safe_plan : Limits → Model → ℕ → Plan
safe_plan L m k = checked (safe_checks L m k) (cond (is_safe L m k) safe unsafe) []

-- ---- 9. fix
-- the card records, in card order
abbrev pub card_rows : Limits → Model → List CardRow
card_rows L m =
    selected L.width m.present (λ c. record { card = c; stored = m.numbers.stored c; line = recovery_line L m c })

-- the greatest number of a frame above the line and of a change that a loss ended: no lost change has a greater one
abbrev pub greatest_lost : Limits → Model → ℕ
greatest_lost L m =
    max (greatest L.width (λ c. greatest (m.numbers.reached c - recovery_line L m c) (λ s. m.memory.change c (suc (recovery_line L m c + s)))))
    (greatest L.slots m.ended)

-- the numbers of the changes lost, as document 02's wish 3 has them: "The list of lost changes comes in rising change number."
abbrev pub lost_numbers : Limits → Model → List ℕ
lost_numbers L m = selected (suc (greatest_lost L m)) (is_lost L m) (λ k. k)

-- "while a write is unreported": a card of the cabinet, lost or not
abbrev pub some_writing : Limits → Model → Bool
some_writing L m = any_below L.width (λ c. m.present c && is_writing m c)

abbrev pub fix_checks : Limits → Model → ℕ → ℕ → List Check
fix_checks L m card_places lost_places =
    not (valid L m) ⇒ BadCabinet
    ∷ not (is_down m.phase) ⇒ WrongPhase
    ∷ leb L.greatest_number m.session ⇒ LimitReached
    ∷ some_writing L m ⇒ WriteUnreported
    ∷ (ltb card_places (length (card_rows L m)) || ltb lost_places (length (lost_numbers L m))) ⇒ TooShort
    ∷ []

abbrev pub fix_plan : Limits → Model → (card_places lost_places : ℕ) → Plan
fix_plan L m card_places lost_places =
    checked (fix_checks L m card_places lost_places) (fixed (card_rows L m) (lost_numbers L m))
    (fix (lines L m) ∷ [])

-- ---- 10. roll
-- all cards of the cabinet are in the set
abbrev pub all_rolled : Limits → Model → CardSet → Bool
all_rolled L m rolled = within L m.present rolled

abbrev pub roll_checks : Limits → Model → ℕ → List Check
roll_checks L m c =
    not (valid L m) ⇒ BadCabinet
    ∷ not (is_card L m c) ⇒ NoSuchCard
    ∷ not (is_rolling m.phase) ⇒ WrongPhase
    ∷ m.rolled c ⇒ AlreadyRolled
    ∷ []

abbrev pub roll_plan : Limits → Model → ℕ → Plan
roll_plan L m c =
    checked (roll_checks L m c) done (lower c ∷ cond (all_rolled L m (with_card m.rolled c)) (renew ∷ []) [])
