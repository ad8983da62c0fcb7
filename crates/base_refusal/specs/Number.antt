-- Document 01's number of each refusal: the rows of its two tables, "Refused for what was handed in" and "Refused for where the cabinet stands", and of document 02 what is added to them: "all follow 30 in the second table".
use Rattle.std.specs.Prelude.{ℕ, ◌≡◌, true, ◌&&◌, ◌||◌, leb}
use Rattle.base_refusal.specs.declared.Refusal.{Refusal}
use Rattle.base_refusal.specs.declared.Refusal.TheVariants.{CardCount, NoSuchCard, BothSetsEmpty, TooShort, BadLine, BadCheck, BadHeader, EndOrMore, BadFrame, TwoVectors, SessionsApart, TooLong, WrongPhase, Barred, NoSlot, InHandFull, LimitReached, NotAwaited, AlreadyDecided, StoreOutside, BadCabinet, NotDecided, AlreadyRolled, WriteRunning, EndOutside, WriteUnreported}
use Rattle.base_refusal.specs.declared.Told.{Told}
use Rattle.base_refusal.specs.declared.Told.TheVariants.{Alone, Card}

-- a number of the two tables
abbrev pub Listed : ℕ → Type 0
Listed k = (leb 1 k && leb k 12) || (leb 20 k && leb k 33) ≡ true

abbrev pub told_number : Told → ℕ
told_number (Alone k) = k
told_number (Card k card) = k

-- a row: what is told, and that its number is one of the tables'
pub record Row : Type 0 where
  pub told : Told
  pub listed : Listed (told_number told)

-- "A refusal returns its number (21 also its card)": all that goes by the refusal
abbrev pub told_of : Refusal → Told
-- number of cards not 1 to 16
told_of CardCount = Alone 1
-- card, or a card of a set, not in the cabinet
told_of NoSuchCard = Alone 2
-- both sets empty
told_of BothSetsEmpty = Alone 3
-- lent list or buffer too short for the whole answer
told_of TooShort = Alone 4
-- line has a wrong byte or length, or is cut off
told_of BadLine = Alone 5
-- check wrong
told_of BadCheck = Alone 6
-- header
told_of BadHeader = Alone 7
-- input ends where a line is due, or goes on after the last sheet
told_of EndOrMore = Alone 8
-- frame
told_of BadFrame = Alone 9
-- one change, two sheets, two vectors
told_of TwoVectors = Alone 10
-- sessions more than one apart, or a sheet one ahead has frames
told_of SessionsApart = Alone 11
-- input over 65,536 bytes
told_of TooLong = Alone 12
-- the call is not of this phase
told_of WrongPhase = Alone 20
-- a touched card is barred by an open change; the lowest such card is named
told_of (Barred card) = Card 21 card
-- eight changes open
told_of NoSlot = Alone 22
-- a written card has reached base + 48
told_of InHandFull = Alone 23
-- a written card at 60,000; change number or session at 4,294,967,295
told_of LimitReached = Alone 24
-- no such change, or this card is not awaited by it
told_of NotAwaited = Alone 25
-- vote on, or withdrawal of, a decided change
told_of AlreadyDecided = Alone 26
-- store outside stored to held
told_of StoreOutside = Alone 27
-- cabinet outside the limits
told_of BadCabinet = Alone 28
-- take before the decision
told_of NotDecided = Alone 29
-- card already rolled
told_of AlreadyRolled = Alone 30
-- store or beginning on a card whose write is running
told_of WriteRunning = Alone 31
-- end outside stored to the running s, or without a beginning
told_of EndOutside = Alone 32
-- fix while a write is unreported
told_of WriteUnreported = Alone 33

abbrev pub number_of : Refusal → ℕ
number_of r = told_number (told_of r)
