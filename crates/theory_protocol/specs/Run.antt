-- Lists of calls from a fresh cabinet, refused ones included, with every answer and the cabinet after each call.
use Rattle.std.specs.Prelude.{ℕ, suc, Bool, List, []}
use Rattle.theory_history.specs.Change.{CardSet, Numbers}
use Rattle.theory_protocol.specs.Model.{Limits, Model}
use Rattle.theory_protocol.specs.Edit.{put}
use Rattle.theory_protocol.specs.Plan.{CardRow, Answer, done, opened, safe, unsafe, fixed, written, Reply, accepted, refused, Check, Plan, after_plan}
use Rattle.theory_protocol.specs.Calls.{fresh_model, open_checks, open_plan, vote_checks, vote_plan, take_checks, take_plan, withdraw_checks, withdraw_plan, store_checks, store_plan, begin_plan, end_checks, end_plan, trim_checks, trim_plan, safe_checks, safe_plan, lose_checks, lose_plan, fix_checks, fix_plan, roll_checks, roll_plan}
use Rattle.theory_protocol.specs.Codec.{Codec, sheet_checks, sheet_plan, restart_checks, restart_plan}
use Rattle.theory_protocol.specs.Journal.{Journal, Fixing, unfixed, fixing, empty_journal, note_open, note_vote, note_struck, note_store, note_lose, note_fix, note_roll, note_restart}

-- calls 2 to 7 and 10, and of document 02 the beginning and the end of a store: numbers go in, and nothing is lent
pub data Plain : Type 0 where
  vote_call : (change card : ℕ) (agrees : Bool) → Plain
  take_call : (change card : ℕ) → Plain
  withdraw_call : (change : ℕ) → Plain
  store_call : (card state : ℕ) → Plain
  begin_call : (card state : ℕ) → Plain
  end_call : (card state : ℕ) → Plain
  trim_call : Plain
  safe_call : (change : ℕ) → Plain
  roll_call : (card : ℕ) → Plain

-- all calls, with the lengths of the lists lent, sheet writing with the buffer's, and restart
pub data Call : Type 0 where
  open_call : (reads writes : CardSet) → Call
  plain : Plain → Call
  lose_call : (cards : CardSet) → Call
  fix_call : (card_places lost_places : ℕ) → Call
  sheet_call : (card places : ℕ) → Call
  -- restart from the sheets of all cards as this cabinet writes them, joined
  restart_call : Call

-- the cabinet after a restart: the one restarted, or the old one where it is refused
abbrev pub after_restart : Reply → Model → Model → Model
after_restart (accepted a) new old = new
after_restart (refused r) new old = old

-- the table of a call
abbrev pub plain_checks : Limits → Model → Plain → List Check
plain_checks L m (vote_call k c agrees) = vote_checks L m k c
plain_checks L m (take_call k c) = take_checks L m k c
plain_checks L m (withdraw_call k) = withdraw_checks L m k
plain_checks L m (store_call c s) = store_checks L m c s
plain_checks L m (begin_call c s) = store_checks L m c s
plain_checks L m (end_call c x) = end_checks L m c x
plain_checks L m trim_call = trim_checks L m
plain_checks L m (safe_call k) = safe_checks L m k
plain_checks L m (roll_call c) = roll_checks L m c

abbrev pub checks_of : Codec → Limits → Model → Call → List Check
checks_of C L m (open_call reads writes) = open_checks L m reads writes
checks_of C L m (plain q) = plain_checks L m q
checks_of C L m (lose_call cards) = lose_checks L m cards
checks_of C L m (fix_call a b) = fix_checks L m a b
checks_of C L m (sheet_call c places) = sheet_checks C L m c places
checks_of C L m restart_call = restart_checks C L m

-- the plan of a call
abbrev pub plain_plan : Limits → Model → Plain → Plan
plain_plan L m (vote_call k c agrees) = vote_plan L m k c agrees
plain_plan L m (take_call k c) = take_plan L m k c
plain_plan L m (withdraw_call k) = withdraw_plan L m k
plain_plan L m (store_call c s) = store_plan L m c s
plain_plan L m (begin_call c s) = begin_plan L m c s
plain_plan L m (end_call c x) = end_plan L m c x
plain_plan L m trim_call = trim_plan L m
plain_plan L m (safe_call k) = safe_plan L m k
plain_plan L m (roll_call c) = roll_plan L m c

abbrev pub plan_of : Codec → Limits → Model → Call → Plan
plan_of C L m (open_call reads writes) = open_plan L m reads writes
plan_of C L m (plain q) = plain_plan L m q
plan_of C L m (lose_call cards) = lose_plan L m cards
plan_of C L m (fix_call a b) = fix_plan L m a b
plan_of C L m (sheet_call c places) = sheet_plan C L m c places
plan_of C L m restart_call = restart_plan C L m

-- the cabinet after a call
abbrev pub after_call : Codec → Limits → Model → Call → Model
after_call C L m (open_call reads writes) = after_plan L (plan_of C L m (open_call reads writes)) m
after_call C L m (plain q) = after_plan L (plain_plan L m q) m
after_call C L m (lose_call cards) = after_plan L (plan_of C L m (lose_call cards)) m
after_call C L m (fix_call a b) = after_plan L (plan_of C L m (fix_call a b)) m
after_call C L m (sheet_call c places) = after_plan L (plan_of C L m (sheet_call c places)) m
after_call C L m restart_call = after_restart (restart_plan C L m).reply (C.restarted L (C.joined L m)) m

-- the calls of a list with their replies, the last one outermost
pub data Calls : Type 0 where
  none : Calls
  further : Calls → Call → Reply → Calls

-- a list of calls from a fresh cabinet of the cards n, and the cabinet that it leads to. "Each call gets the cabinet that the last one returned".
pub data Run (C : Codec) (L : Limits) (n : CardSet) : Calls → Model → Type 0 where
  start : Run C L n none (fresh_model n)
  next : {cs : Calls} {m : Model} → Run C L n cs m → (call : Call) → Run C L n (further cs call (plan_of C L m call).reply) (after_call C L m call)

-- ---- the journal of a list
-- the number that an opening answers
abbrev pub number_in : Answer → ℕ
number_in done = 0
number_in (opened k) = k
number_in safe = 0
number_in unsafe = 0
number_in (fixed rows lost) = 0
number_in (written bytes) = 0

-- the card records that a fix answers
abbrev pub rows_in : Answer → List CardRow
rows_in done = []
rows_in (opened k) = []
rows_in safe = []
rows_in unsafe = []
rows_in (fixed rows lost) = rows
rows_in (written bytes) = []

-- what the journal notes of an accepted call
abbrev pub note_accepted : Limits → CardSet → Journal → Call → Answer → Journal
note_accepted L n j (open_call reads writes) a = note_open j (number_in a) reads writes
note_accepted L n j (plain (vote_call k c agrees)) a = note_vote L j k c agrees
note_accepted L n j (plain (take_call k c)) a = j
note_accepted L n j (plain (withdraw_call k)) a = note_struck j k
note_accepted L n j (plain (store_call c s)) a = note_store j c s
-- "at a beginning the setter's book notes nothing, an end sets its stored number to the one reported"
note_accepted L n j (plain (begin_call c s)) a = j
note_accepted L n j (plain (end_call c x)) a = note_store j c x
note_accepted L n j (plain trim_call) a = j
note_accepted L n j (plain (safe_call k)) a = j
note_accepted L n j (lose_call cards) a = note_lose j
note_accepted L n j (fix_call x y) a = note_fix j (rows_in a)
note_accepted L n j (plain (roll_call c)) a = note_roll L n j c
note_accepted L n j (sheet_call c places) a = j
note_accepted L n j restart_call a = note_restart L j

-- "Refused call .. : nothing."
abbrev pub note : Limits → CardSet → Journal → Call → Reply → Journal
note L n j call (accepted a) = note_accepted L n j call a
note L n j call (refused r) = j

abbrev pub journal : Limits → CardSet → Calls → Journal
journal L n none = empty_journal
journal L n (further cs call reply) = note L n (journal L n cs) call reply

-- ---- cuts: "on a lost card its last accepted store or roll stands (0 if there was none)"
-- the line noted, by card
abbrev pub line_noted : Fixing → Numbers
line_noted unfixed c = 0
line_noted (fixing line marked) c = line c

abbrev pub kept_after : Journal → Call → Numbers → Numbers
kept_after j (open_call reads writes) x = x
kept_after j (plain (vote_call k c agrees)) x = x
kept_after j (plain (take_call k c)) x = x
kept_after j (plain (withdraw_call k)) x = x
kept_after j (plain (store_call c s)) x = put x c s
-- "both count as stores": "that number is what a cut between the two left"
kept_after j (plain (begin_call c s)) x = x
kept_after j (plain (end_call c s)) x = put x c s
kept_after j (plain trim_call) x = x
kept_after j (plain (safe_call k)) x = x
kept_after j (lose_call cards) x = x
kept_after j (fix_call a b) x = x
kept_after j (plain (roll_call c)) x = put x c (line_noted j.fix c)
kept_after j (sheet_call c places) x = x
kept_after j restart_call x = x

abbrev pub kept_by : Journal → Call → Reply → Numbers → Numbers
kept_by j call (accepted a) x = kept_after j call x
kept_by j call (refused r) x = x

-- by arguments and answers: each card's last accepted store, end or roll, and 0 if there was none
abbrev pub last_kept : Limits → CardSet → Calls → Numbers
last_kept L n none c = 0
last_kept L n (further cs call reply) c = kept_by (journal L n cs) call reply (last_kept L n cs) c

-- ---- writes begun: by arguments and answers, the write of each card that was begun and not ended, 0 for none and the state up to which it goes plus one otherwise
abbrev pub begun_after : Call → Numbers → Numbers
begun_after (open_call reads writes) x = x
begun_after (plain (vote_call k c agrees)) x = x
begun_after (plain (take_call k c)) x = x
begun_after (plain (withdraw_call k)) x = x
begun_after (plain (store_call c s)) x = x
begun_after (plain (begin_call c s)) x = put x c (suc s)
begun_after (plain (end_call c s)) x = put x c 0
begun_after (plain trim_call) x = x
begun_after (plain (safe_call k)) x = x
begun_after (lose_call cards) x = x
begun_after (fix_call a b) x = x
begun_after (plain (roll_call c)) x = x
begun_after (sheet_call c places) x = x
-- a cabinet restarted has none
begun_after restart_call x = λ c. 0

abbrev pub begun_by : Call → Reply → Numbers → Numbers
begun_by call (accepted a) x = begun_after call x
begun_by call (refused r) x = x

abbrev pub last_begun : Calls → Numbers
last_begun none c = 0
last_begun (further cs call reply) c = begun_by call reply (last_begun cs) c
