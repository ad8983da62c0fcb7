-- What a line does: the cabinet that is present after it, where there is one, and the text of its answer.
use Rattle.std.specs.Prelude.{ℕ, ◌≡◌, Bool, true, false, cond, List}
use Rattle.base_refusal.specs.declared.Refusal.TheVariants.{CardCount}
use Rattle.theory_protocol.specs.Plan.{Reply, accepted, refused, done}
use Rattle.theory_protocol.specs.Calls.{fresh_refused}
use Rattle.cabinet_layout.specs.Shape.{limits16}
use Rattle.cabinet.specs.Fresh.{zero_cabinet, fresh_head}
use Rattle.list_commands.specs.declared.Request.{Request}
use Rattle.list_commands.specs.declared.Command.{Command}
use Rattle.list_commands.specs.declared.Command.TheVariants.{Fresh, Asks, Unreadable}
use Rattle.list_answer_words.specs.Words.{none_text, unreadable_text}
use Rattle.list_answers.specs.Texts.{reply_text}
use Rattle.list_results.specs.declared.Replay.{Replay}
use Rattle.list_results.specs.Result.{Result, Continuing}

-- "a fresh cabinet of N cards takes the place of the present one"; refused, it changes nothing
abbrev pub fresh_reply : ℕ → Reply
fresh_reply n = cond (fresh_refused limits16 n) (refused CardCount) (accepted done)

abbrev pub after_fresh : ℕ → Replay → Replay
after_fresh n r = cond (fresh_refused limits16 n) r (record { cabinet = zero_cabinet (fresh_head n); begun = true })

-- the replay stays, and the text is this
pub record Stays (r : Replay) (t : List ℕ) (next : Replay) (text : List ℕ) : Type 0 where
  pub same : next ≡ r
  pub answer : text ≡ t

pub record Freshened (n : ℕ) (r next : Replay) (text : List ℕ) : Type 0 where
  pub same : next ≡ after_fresh n r
  pub answer : text ≡ reply_text (fresh_reply n)

-- "Before the first accepted `fresh` there is no cabinet and every other call answers `none`"
abbrev pub Asked : Bool → Request → Replay → Replay → List ℕ → Type 0
Asked true q r next text = Continuing (Result r.cabinet q) next text
Asked false q r next text = Stays r none_text next text

abbrev pub Steps : Command → Replay → Replay → List ℕ → Type 0
Steps (Fresh n) r next text = Freshened n r next text
Steps (Asks q) r next text = Asked r.begun q r next text
Steps Unreadable r next text = Stays r unreadable_text next text
