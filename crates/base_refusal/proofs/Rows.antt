-- Each refusal has a row of document 01's tables: its number is one of theirs. Assumes nothing.
use mathlib.Core.Path.{refl}
use Rattle.base_refusal.specs.declared.Refusal.{Refusal}
use Rattle.base_refusal.specs.declared.Refusal.TheVariants.{CardCount, NoSuchCard, BothSetsEmpty, TooShort, BadLine, BadCheck, BadHeader, EndOrMore, BadFrame, TwoVectors, SessionsApart, TooLong, WrongPhase, Barred, NoSlot, InHandFull, LimitReached, NotAwaited, AlreadyDecided, StoreOutside, BadCabinet, NotDecided, AlreadyRolled, WriteRunning, EndOutside, WriteUnreported}
use Rattle.base_refusal.specs.Number.{Listed, Row, told_of, number_of}

-- the number of each refusal is one of the tables'
pub listed : (r : Refusal) → Listed (number_of r)
listed CardCount = refl
listed NoSuchCard = refl
listed BothSetsEmpty = refl
listed TooShort = refl
listed BadLine = refl
listed BadCheck = refl
listed BadHeader = refl
listed EndOrMore = refl
listed BadFrame = refl
listed TwoVectors = refl
listed SessionsApart = refl
listed TooLong = refl
listed WrongPhase = refl
listed (Barred card) = refl
listed NoSlot = refl
listed InHandFull = refl
listed LimitReached = refl
listed NotAwaited = refl
listed AlreadyDecided = refl
listed StoreOutside = refl
listed BadCabinet = refl
listed NotDecided = refl
listed AlreadyRolled = refl
listed WriteRunning = refl
listed EndOutside = refl
listed WriteUnreported = refl

-- the row of a refusal
abbrev pub row_of : Refusal → Row
row_of r = record { told = told_of r; listed = listed r }
