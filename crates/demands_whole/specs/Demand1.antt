-- Demand 1, of all that a caller can call: "Any caller, any bytes, sets or numbers, gets an answer or a refusal from document 01. A refusal changes neither the cabinet nor any lent list or buffer."
-- Statements alone: the proofs are in proofs/Demand1.antt. What a function's contract says by an equation has an answer for every input.
use Rattle.std.specs.Prelude.{ℕ, ◌≡◌, false, List, [], ◌∷◌, Err}
use Rattle.base_refusal.specs.declared.Refusal.{Refusal}
use Rattle.base_refusal.specs.declared.Refusal.TheVariants.{CardCount}
use Rattle.base_refusal.specs.Number.{Listed, number_of}
use Rattle.sheet_pages.specs.declared.Reading.{Reading}
use Rattle.sheet_pages.specs.Pages.{Page}
use Rattle.sheet_pages.specs.Walk.{no_readout}
use Rattle.sheet_readout.specs.Joint.{readout_of}
use Rattle.sheet_reader.specs.Single.{sheet_read_of}
use Rattle.sheet_writer.specs.Single.{wrote}
use Rattle.theory_protocol.specs.Plan.{Reply, refused, ◌⇒◌}
use Rattle.theory_protocol.specs.Calls.{fresh_refused}
use Rattle.theory_protocol.specs.Codec.{verdict_checks}
use Rattle.theory_codec.specs.Sheets.{restart_reply}
use Rattle.cabinet_layout.specs.Shape.{limits16}
use Rattle.cabinet.specs.declared.Cabinet.{Cabinet}
use Rattle.cabinet.specs.Fresh.{Freshly, zero_cabinet, void_head}
use Rattle.cabinet_restart.specs.Restart.{Restarted}
use Rattle.base_text.specs.declared.Progress.{Progress}
use Rattle.base_text.specs.declared.Progress.TheVariants.{TooShort}
use Rattle.list_commands.specs.declared.Command.{Command}
use Rattle.list_commands.specs.declared.Command.TheVariants.{Fresh}
use Rattle.list_answer_words.specs.Words.{none_text}
use Rattle.list_answers.specs.Texts.{reply_text}
use Rattle.list_results.specs.declared.Replay.{Replay}
use Rattle.list_results.specs.Step.{Steps}
use Rattle.list_results.specs.Going.{nothing_yet}
use Rattle.list_texts.specs.Executed.{Executed}
use Rattle.list_texts.specs.Steps.{Replayed}
use Rattle.demands_lists.specs.Lists.{Asked, Lent}
use Rattle.demands_lists.specs.Claims.{Said, Gets, CallsAnswer}
use Rattle.demands_whole.specs.Texts.{Makes, NoCall}

-- "1: number of cards not 1 to 16"; the cabinet handed back then is void, and every call refuses it with 28
pub record FreshGets (n : ℕ) (reply : Reply) (next : Cabinet) : Type 0 where
  pub said : Said (fresh_refused limits16 n ⇒ CardCount ∷ []) reply
  pub void : (r : Refusal) → reply ≡ refused r → next ≡ zero_cabinet void_head

-- a restart from any bytes: refused with the verdict on them, it hands back the void cabinet too
pub record RestartGets (bytes : List ℕ) (reply : Reply) (next : Cabinet) : Type 0 where
  pub said : Said (verdict_checks (restart_reply bytes)) reply
  pub void : (r : Refusal) → reply ≡ refused r → next ≡ zero_cabinet void_head

-- what a reader answers with a refusal: a number of the tables, and "nothing of the sheet is used"
pub record ReaderRefuses (x : Reading) (r : Refusal) : Type 0 where
  pub listed : Listed (number_of r)
  pub nothing : x.readout ≡ no_readout

-- what a writer of a sheet by value leaves with a refusal
pub record WriterRefuses (p : Page) (buffer : List ℕ) (r : Refusal) : Type 0 where
  pub listed : Listed (number_of r)
  pub unchanged : (wrote p buffer).buffer ≡ buffer

-- ---- lists of calls as text
-- what a line gets: an answer as text, of a call with its table, or that there is no cabinet yet, or that it makes no call
pub data LineGets (said : Command) (r next : Replay) (text : List ℕ) : Type 0 where
  freshened : (n : ℕ) → said ≡ Fresh n → (reply : Reply) → Said (fresh_refused limits16 n ⇒ CardCount ∷ []) reply → ((q : Refusal) → reply ≡ refused q → next ≡ r) → text ≡ reply_text reply → LineGets said r next text
  called : (asked : Asked) → Makes said asked → (reply : Reply) (after : Lent) → Gets r.cabinet asked reply next.cabinet after → text ≡ reply_text reply → LineGets said r next text
  none_yet : r.begun ≡ false → next ≡ r → text ≡ none_text → LineGets said r next text
  no_call : NoCall said → next ≡ r → LineGets said r next text

-- one line: there is an answer, and no other; it is as said; and where the buffer is too short for it nothing is changed
pub record StepAnswers : Type 0 where
  pub some : (said : Command) (r : Replay) → (next : Replay) × (text : List ℕ) × Steps said r next text
  pub one : (said : Command) (r next next' : Replay) (text text' : List ℕ) → Steps said r next text → Steps said r next' text' → (next ≡ next') × (text ≡ text')
  pub each : (said : Command) (r next : Replay) (text : List ℕ) → Steps said r next text → LineGets said r next text
  pub short : (said : Command) (r : Replay) (b : List ℕ) (w : Progress) (after : Replay) (e : List ℕ) → Executed said r b w after TooShort e → (after ≡ r) × (e ≡ b)

-- a whole list: there is an answer to every text, and no other, byte for byte; and where the buffer is too short for it no byte is changed
pub record RunAnswers : Type 0 where
  pub some : (s b : List ℕ) → (w : Progress) × (e : List ℕ) × Replayed s nothing_yet b w e
  pub one : (s b : List ℕ) (w w' : Progress) (e e' : List ℕ) → Replayed s nothing_yet b w e → Replayed s nothing_yet b w' e' → (w ≡ w') × (e ≡ e')
  pub short : (s b e : List ℕ) → Replayed s nothing_yet b TooShort e → e ≡ b

pub record Demand1 : Type 0 where
  pub fresh : (n : ℕ) (reply : Reply) (next : Cabinet) → Freshly n reply next → FreshGets n reply next
  -- calls 1 to 10, the beginning and the end of a store, sheet writing, and restart from a cabinet's own sheets
  pub calls : CallsAnswer
  pub restart : (bytes : List ℕ) (reply : Reply) (next : Cabinet) → Restarted bytes reply next → RestartGets bytes reply next
  -- the reader of one sheet, and the reader of a read-out
  pub reads_sheet : (card : ℕ) (bytes : List ℕ) (r : Refusal) → (sheet_read_of card bytes).verdict ≡ Err r → ReaderRefuses (sheet_read_of card bytes) r
  pub reads_readout : (bytes : List ℕ) (r : Refusal) → (readout_of bytes).verdict ≡ Err r → ReaderRefuses (readout_of bytes) r
  pub writes_sheet : (p : Page) (buffer : List ℕ) (r : Refusal) → (wrote p buffer).answer ≡ Err r → WriterRefuses p buffer r
  -- the text entry points: one line, and a whole list
  pub step : StepAnswers
  pub run : RunAnswers
