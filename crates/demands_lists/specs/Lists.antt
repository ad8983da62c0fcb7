-- Lists of calls of the 16-card cabinet: "Each call gets the cabinet that the last one returned", and answers what its contract says.
use Rattle.base_refusal.specs.declared.Refusal.{Refusal}
use Rattle.std.specs.Prelude.{ℕ, ◌<◌, ◌≡◌, List, [], length, Result}
use Rattle.base_limits.specs.Document.{most_cards, most_frames, most_entries}
use Rattle.base_bits.specs.Member.{member}
use Rattle.theory_protocol.specs.Plan.{Reply, accepted, done}
use Rattle.theory_protocol.specs.Calls.{open_plan, lose_plan}
use Rattle.theory_protocol.specs.Run as run
use Rattle.theory_protocol.specs.Run.{Plain, Call, plain_plan, Calls, none, further}
use Rattle.cabinet_layout.specs.Shape.{limits16}
use Rattle.cabinet_recovery.specs.Fix.{fix_reply_of}
use Rattle.cabinet_layout.specs.declared.Core.{Core}
use Rattle.cabinet.specs.declared.Cabinet.{Cabinet}
use Rattle.cabinet.specs.View.{view}
use Rattle.cabinet.specs.Apply.{Carried}
use Rattle.cabinet.specs.Lent.{FixLent}
use Rattle.cabinet_records.specs.declared.CardRecord.{CardRecord}
use Rattle.cabinet.specs.Writing.{SheetCarried}
use Rattle.cabinet_sheet.specs.Card.{sheet_reply_of}
use Rattle.cabinet_joined.specs.Joined.{FromOwnSheets}
use Rattle.cabinet.specs.Fresh.{Freshly}

-- a call with its arguments as the code takes them: a set is a number of 16 bits, and a lent list comes with what stands in it
pub data Asked : Type 0 where
  opening : (reads writes : ℕ) → Asked
  plain : Plain → Asked
  lose : (cards : ℕ) → Asked
  fix : (records : List CardRecord) (list : List ℕ) → Asked
  sheet : (card : ℕ) (buffer : List ℕ) → Asked
  -- restart from the sheets of all cards as this cabinet writes them, joined
  restart : Asked

-- the call of the model
abbrev pub call_of : Asked → Call
call_of (opening reads writes) = run.open_call (member reads) (member writes)
call_of (plain q) = run.plain q
call_of (lose cards) = run.lose_call (member cards)
call_of (fix records list) = run.fix_call (length records) (length list)
call_of (sheet c buffer) = run.sheet_call c (length buffer)
call_of restart = run.restart_call

-- what the types of the arguments say: a set has 16 bits
abbrev pub Typed : Asked → Type 0
Typed (opening reads writes) = (reads < 65536) × (writes < 65536)
Typed (plain q) = Unit {0}
Typed (lose cards) = cards < 65536
Typed (fix records list) = Unit {0}
Typed (sheet c buffer) = Unit {0}
Typed restart = Unit {0}

-- what stands in the lists that a call lends: card records, and numbers (of changes lost, or the bytes of a buffer)
pub record Lent : Type 0 where
  pub records : List CardRecord
  pub numbers : List ℕ

abbrev pub nothing_lent : Lent
nothing_lent = record { records = []; numbers = [] }

-- before the call
abbrev pub lent : Asked → Lent
lent (opening reads writes) = nothing_lent
lent (plain q) = nothing_lent
lent (lose cards) = nothing_lent
lent (fix records list) = record { records = records; numbers = list }
lent (sheet c buffer) = record { records = []; numbers = buffer }
lent restart = nothing_lent

-- what the type of the cabinet says: each list has its length, and a set has 16 bits
pub record SizedCore (s : Core) : Type 0 where
  pub last : length s.last ≡ most_cards
  pub pending : length s.pending ≡ most_cards
  pub slots : length s.slots ≡ 8
  pub base : length s.base ≡ most_cards
  pub stored : length s.stored ≡ most_cards
  pub held : length s.held ≡ most_cards
  pub reached : length s.reached ≡ most_cards
  pub line : length s.line ≡ most_cards
  pub ended : length s.ended ≡ 8
  pub rolled : s.rolled < 65536
  pub writing : length s.writing ≡ most_cards

pub record Sized (s : Cabinet) : Type 0 where
  pub entries : length s.entries ≡ most_entries
  pub changes : length s.changes ≡ most_frames
  pub core : SizedCore s.core

-- fix: what its contract says, and its reply in document 01's values
pub record FixAnswered (s : Cabinet) (records : List CardRecord) (list : List ℕ) (reply : Reply) (next : Cabinet) (after : Lent) : Type 0 where
  pub told : Result ℕ Refusal
  pub both : FixLent s records after.records list after.numbers told next
  pub answer : reply ≡ fix_reply_of s.core.head.cards next.core.stored next.core.line after.numbers told

-- a card's sheet into a lent buffer: what its contract says, and its reply in document 01's values
pub record SheetAnswered (s : Cabinet) (card : ℕ) (before : List ℕ) (reply : Reply) (next : Cabinet) (after : Lent) : Type 0 where
  pub told : Result ℕ Refusal
  pub carried : SheetCarried s card before after.numbers told next
  pub answer : reply ≡ sheet_reply_of after.numbers told
  pub no_records : after.records ≡ []

-- what a call answers, the cabinet that it hands back, and what stands in the lists lent after it: the contract of each method
abbrev pub Answered : Cabinet → Asked → Reply → Cabinet → Lent → Type 0
Answered s (opening reads writes) reply next after = Carried s (open_plan limits16 (view s) (member reads) (member writes)) reply next × (after ≡ nothing_lent)
Answered s (plain q) reply next after = Carried s (plain_plan limits16 (view s) q) reply next × (after ≡ nothing_lent)
Answered s (lose cards) reply next after = Carried s (lose_plan limits16 (view s) (member cards)) reply next × (after ≡ nothing_lent)
Answered s (fix records list) reply next after = FixAnswered s records list reply next after
Answered s (sheet c buffer) reply next after = SheetAnswered s c buffer reply next after
Answered s restart reply next after = FromOwnSheets s reply next × (after ≡ nothing_lent)

-- the calls made from a fresh cabinet of n cards, and the cabinet that they lead to
pub data List16 (n : ℕ) : Calls → Cabinet → Type 0 where
  start : (s : Cabinet) → Freshly n (accepted done) s → List16 n none s
  next : {cs : Calls} {s : Cabinet} → List16 n cs s → (asked : Asked) → Typed asked → (reply : Reply) (t : Cabinet) (after : Lent) → Answered s asked reply t after
      → List16 n (further cs (call_of asked) reply) t
