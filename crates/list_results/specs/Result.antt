-- What a call of a list does to the present cabinet, and the text of its answer.
use Rattle.std.specs.Prelude.{ℕ, ◌<◌, ◌≤◌, min, ◌≡◌, true, List}
use Rattle.base_limits.specs.Document.{most_cards, longest_lost, longest_input}
use Rattle.base_bits.specs.Member.{member}
use Rattle.base_refusal.specs.declared.Refusal.TheVariants.{NoSuchCard}
use Rattle.base_text.specs.declared.Progress.{Progress}
use Rattle.theory_protocol.specs.Plan.{Plan, Reply}
use Rattle.theory_protocol.specs.Calls.{open_plan, store_plan, begin_plan, end_plan, take_plan, vote_plan, withdraw_plan, safe_plan, trim_plan, roll_plan, lose_plan, fix_plan}
use Rattle.theory_protocol.specs.Codec.{sheet_plan}
use Rattle.theory_codec.specs.Sheets.{codec}
use Rattle.cabinet_layout.specs.Shape.{limits16}
use Rattle.cabinet.specs.declared.Cabinet.{Cabinet}
use Rattle.cabinet.specs.View.{view}
use Rattle.list_results.specs.declared.Replay.{Replay}
use Rattle.cabinet.specs.Apply.{apply_all}
use Rattle.cabinet_joined.specs.Joined.{FromOwnSheets}
use Rattle.list_commands.specs.declared.Request.{Request}
use Rattle.list_commands.specs.declared.Request.TheVariants.{Open, Vote, Take, Withdraw, Store, Begin, End, Trim, Safe, Lose, Fix, Roll, Sheet, Restart, Show, Frames}
use Rattle.base_text.specs.Put.{Whole}
use Rattle.list_answer_words.specs.Words.{refused_text}
use Rattle.list_answers.specs.Texts.{reply_text}
use Rattle.list_answer_show.specs.Show.{show_text}
use Rattle.list_answer_frames.specs.Frames.{frames_answer}

-- the text of some answer, written into the buffer b from w on where it has room
pub record Written (Result : List ℕ → Type 0) (b : List ℕ) (w r : Progress) (e : List ℕ) : Type 0 where
  pub text : List ℕ
  pub told : Result text
  pub put : Whole b w text r e

-- after a call there is a cabinet, and this is told of it
pub record Continuing (Result : Cabinet → List ℕ → Type 0) (next : Replay) (text : List ℕ) : Type 0 where
  pub begun : next.begun ≡ true
  pub told : Result next.cabinet text

-- the cabinet stays, and the text is this
pub record Kept (c : Cabinet) (t : List ℕ) (next : Cabinet) (text : List ℕ) : Type 0 where
  pub cabinet : next ≡ c
  pub answer : text ≡ t

-- a call with a plan: the edits, applied, and the text of the reply
pub record Planned (c : Cabinet) (p : Plan) (next : Cabinet) (text : List ℕ) : Type 0 where
  pub cabinet : next ≡ apply_all p.edits c
  pub answer : text ≡ reply_text p.reply

-- "A set over 65535 or a card over 15 names a card that no cabinet has: `refused 2`"
pub data OpenResult (c : Cabinet) (reads writes : ℕ) (next : Cabinet) (text : List ℕ) : Type 0 where
  reads_beyond : 65535 < reads → Kept c (refused_text NoSuchCard) next text → OpenResult c reads writes next text
  writes_beyond : 65535 < writes → Kept c (refused_text NoSuchCard) next text → OpenResult c reads writes next text
  open_within : reads ≤ 65535 → writes ≤ 65535 → Planned c (open_plan limits16 (view c) (member reads) (member writes)) next text → OpenResult c reads writes next text

pub data LoseResult (c : Cabinet) (cards : ℕ) (next : Cabinet) (text : List ℕ) : Type 0 where
  set_beyond : 65535 < cards → Kept c (refused_text NoSuchCard) next text → LoseResult c cards next text
  lost_within : cards ≤ 65535 → Planned c (lose_plan limits16 (view c) (member cards)) next text → LoseResult c cards next text

-- "the sheets of all cards as this cabinet writes them, joined, restart: the result takes the present cabinet's place"
pub record RestartResult (c next : Cabinet) (text : List ℕ) : Type 0 where
  pub reply : Reply
  pub restarted : FromOwnSheets c reply next
  pub answer : text ≡ reply_text reply

-- ---- a call on the present cabinet

-- the cabinet after it and the text of its answer
abbrev pub Result : Cabinet → Request → Cabinet → List ℕ → Type 0
Result c (Open reads writes) next text = OpenResult c reads writes next text
Result c (Vote change card agrees) next text = Planned c (vote_plan limits16 (view c) change card agrees) next text
Result c (Take change card) next text = Planned c (take_plan limits16 (view c) change card) next text
Result c (Withdraw change) next text = Planned c (withdraw_plan limits16 (view c) change) next text
Result c (Store card state) next text = Planned c (store_plan limits16 (view c) card state) next text
Result c (Begin card state) next text = Planned c (begin_plan limits16 (view c) card state) next text
Result c (End card state) next text = Planned c (end_plan limits16 (view c) card state) next text
Result c Trim next text = Planned c (trim_plan limits16 (view c)) next text
Result c (Safe change) next text = Planned c (safe_plan limits16 (view c) change) next text
Result c (Lose cards) next text = LoseResult c cards next text
-- a readable line lends 16 records and 776 numbers at most
Result c (Fix records numbers) next text = Planned c (fix_plan limits16 (view c) (min records most_cards) (min numbers longest_lost)) next text
Result c (Roll card) next text = Planned c (roll_plan limits16 (view c) card) next text
-- a readable line lends 65,536 bytes at most
Result c (Sheet card bytes) next text = Planned c (sheet_plan codec limits16 (view c) card (min bytes longest_input)) next text
Result c Restart next text = RestartResult c next text
Result c Show next text = Kept c (show_text c.core.head c.core.base c.core.stored c.core.held c.core.reached c.core.writing) next text
Result c (Frames card) next text = Kept c (frames_answer limits16 (view c) card) next text
