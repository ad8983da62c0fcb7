-- The lists of calls that a text makes, and demands 2 and 3 of them. Statements alone: the proofs are in proofs/Texts.antt.
use Rattle.std.specs.Prelude.{ℕ, ◌≤◌, ◌<◌, min, ◌≡◌, Bool, true, List, ◌++◌, length, Some}
use Rattle.theory_protocol.specs.Plan.{Reply, accepted, done}
use Rattle.theory_protocol.specs.Run.{vote_call, take_call, withdraw_call, store_call, begin_call, end_call, trim_call, safe_call, roll_call, Calls, none, further}
use Rattle.theory_protocol.specs.Calls.{fresh_refused}
use Rattle.cabinet_layout.specs.Shape.{limits16}
use Rattle.cabinet_records.specs.declared.CardRecord.{CardRecord}
use Rattle.cabinet.specs.Fresh.{Freshly}
use Rattle.list_commands.specs.declared.Command.{Command}
use Rattle.list_commands.specs.declared.Command.TheVariants.{Fresh, Asks, Unreadable}
use Rattle.list_commands.specs.declared.Request.TheVariants.{Open, Vote, Take, Withdraw, Store, Begin, End, Trim, Safe, Lose, Fix, Roll, Sheet, Restart, Show, Frames}
use Rattle.list_parse.specs.Lines.{token_at}
use Rattle.list_answers.specs.Texts.{reply_text}
use Rattle.list_results.specs.declared.Replay.{Replay}
use Rattle.list_results.specs.Step.{Steps}
use Rattle.list_results.specs.Going.{nothing_yet}
use Rattle.list_texts.specs.Steps.{Ran}
use Rattle.demands_lists.specs.Lists.{Asked, opening, plain, lose, fix, sheet, restart, call_of, Typed, Lent, Answered, List16, start, next}
use Rattle.demands_lists.specs.Claims.{Throughout}

-- the call that a line makes, and the lists that it lends
pub data Makes : Command → Asked → Type 0 where
  opens : (reads writes : ℕ) → reads ≤ 65535 → writes ≤ 65535 → Makes (Asks (Open reads writes)) (opening reads writes)
  votes : (change card : ℕ) (agrees : Bool) → Makes (Asks (Vote change card agrees)) (plain (vote_call change card agrees))
  takes : (change card : ℕ) → Makes (Asks (Take change card)) (plain (take_call change card))
  withdraws : (change : ℕ) → Makes (Asks (Withdraw change)) (plain (withdraw_call change))
  stores : (card state : ℕ) → Makes (Asks (Store card state)) (plain (store_call card state))
  begins : (card state : ℕ) → Makes (Asks (Begin card state)) (plain (begin_call card state))
  ends : (card state : ℕ) → Makes (Asks (End card state)) (plain (end_call card state))
  trims : Makes (Asks Trim) (plain trim_call)
  asks_safe : (change : ℕ) → Makes (Asks (Safe change)) (plain (safe_call change))
  loses : (cards : ℕ) → cards ≤ 65535 → Makes (Asks (Lose cards)) (lose cards)
  fixes : (records numbers : ℕ) (rows : List CardRecord) (list : List ℕ) → length rows ≡ min records 16 → length list ≡ min numbers 776 → Makes (Asks (Fix records numbers)) (fix rows list)
  rolls : (card : ℕ) → Makes (Asks (Roll card)) (plain (roll_call card))
  writes_sheet : (card bytes : ℕ) (buffer : List ℕ) → length buffer ≡ min bytes 65536 → Makes (Asks (Sheet card bytes)) (sheet card buffer)
  restarts : Makes (Asks Restart) restart

-- a line that makes no call: a fresh cabinet that is refused, a set over 65535, a look at the cabinet, and what can't be read
pub data NoCall : Command → Type 0 where
  refuses_fresh : (n : ℕ) → fresh_refused limits16 n ≡ true → NoCall (Fresh n)
  beyond_reads : (reads writes : ℕ) → 65535 < reads → NoCall (Asks (Open reads writes))
  beyond_writes : (reads writes : ℕ) → 65535 < writes → NoCall (Asks (Open reads writes))
  beyond_lost : (cards : ℕ) → 65535 < cards → NoCall (Asks (Lose cards))
  looks : NoCall (Asks Show)
  looks_at : (card : ℕ) → NoCall (Asks (Frames card))
  unreadable : NoCall Unreadable

-- the list of calls since the last accepted fresh, where the lines before a place ran and left this replay and these answers
pub data Listed (s : List ℕ) : ℕ → (r : Replay) → List ℕ → (n : ℕ) (cs : Calls) → List16 n cs r.cabinet → Type 0 where
  begins : {at : ℕ} {r : Replay} {t : List ℕ} → Ran s nothing_yet at r t → (n place : ℕ) → Some ((Fresh n), place) ≡ token_at s at → (new : Replay) (f : Freshly n (accepted done) new.cabinet)
      → Listed s place new (t ++ reply_text (accepted done)) n none (start new.cabinet f)
  calls : {at : ℕ} {r : Replay} {t : List ℕ} {n : ℕ} {cs : Calls} {l : List16 n cs r.cabinet} → Listed s at r t n cs l → (said : Command) (place : ℕ) → Some (said, place) ≡ token_at s at
      → (asked : Asked) → Makes said asked → (typed : Typed asked) (reply : Reply) (new : Replay) (after : Lent) (d : Answered r.cabinet asked reply new.cabinet after)
      → Listed s place new (t ++ reply_text reply) n (further cs (call_of asked) reply) (next l asked typed reply new.cabinet after d)
  stays : {at : ℕ} {r : Replay} {t : List ℕ} {n : ℕ} {cs : Calls} {l : List16 n cs r.cabinet} → Listed s at r t n cs l → (said : Command) (place : ℕ) → Some (said, place) ≡ token_at s at
      → NoCall said → (text : List ℕ) → Steps said r r text → Listed s place r (t ++ text) n cs l

-- what is so of the list that led to the present cabinet
pub record RunsList (s : List ℕ) (at : ℕ) (r : Replay) (t : List ℕ) : Type 0 where
  pub cards : ℕ
  pub made : Calls
  pub list : List16 cards made r.cabinet
  pub listed : Listed s at r t cards made list
  -- demands 2 and 3
  pub right : Throughout list

-- What `list_run::run` and `yerwaqis_replay` run, at every line: where there is a cabinet, it is the one that a list of calls leads to.
abbrev pub RunsLists : Type 0
RunsLists = (s : List ℕ) (at : ℕ) (r : Replay) (t : List ℕ) → Ran s nothing_yet at r t → r.begun ≡ true → RunsList s at r t
