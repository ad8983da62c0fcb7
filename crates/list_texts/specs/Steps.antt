-- What the lines of a text do one after the other.
use Rattle.std.specs.Prelude.{ℕ, ◌-◌, ◌≤◌, ◌≡◌, List, [], ◌++◌, length, Some, None}
use Rattle.std.proofs.lemmas.List.Edits.{sets}
use Rattle.base_text.specs.declared.Progress.{Progress}
use Rattle.base_text.specs.declared.Progress.TheVariants.{Next, Counting, TooShort}
use Rattle.list_commands.specs.declared.Command.{Command}
use Rattle.list_parse.specs.Lines.{token_at}
use Rattle.base_text.specs.Put.{place_after, Whole, count_of}
use Rattle.list_results.specs.declared.Replay.{Replay}
use Rattle.list_results.specs.Step.{Steps}
use Rattle.list_results.specs.Going.{nothing_yet}

-- those before a place, from the first on: the replay after them, and the texts of their answers, joined
pub data Ran (s : List ℕ) (start : Replay) : ℕ → Replay → List ℕ → Type 0 where
  no_line : Ran s start 0 start []
  one_more : {at : ℕ} {r : Replay} {t : List ℕ} → Ran s start at r t → (said : Command) (place : ℕ) → Some (said, place) ≡ token_at s at → (next : Replay) (u : List ℕ) → Steps said r next u → Ran s start place next (t ++ u)

-- the buffer after texts that were written one after the other, each whole, or counted
abbrev pub Holds : List ℕ → Progress → List ℕ → List ℕ → Type 0
Holds b (Next at) t e = (length t ≤ length b - at → e ≡ sets b at t)
Holds b (Counting n) t e = e ≡ b
Holds b TooShort t e = e ≡ b

-- all lines, the answers written into the buffer b one after the other, or counted, from a place on
pub record Passed (s : List ℕ) (start : Replay) (b : List ℕ) (from w : Progress) (e : List ℕ) : Type 0 where
  pub place : ℕ
  pub last : Replay
  pub text : List ℕ
  pub ran : Ran s start place last text
  pub end : token_at s place ≡ None
  pub answer : w ≡ place_after (length b) from text
  pub size : length e ≡ length b
  pub buffer : Holds b from text e

-- all of them, the answers written into the buffer b from its front on: all of their text, or nothing where it has no room
pub record Replayed (s : List ℕ) (start : Replay) (b : List ℕ) (w : Progress) (e : List ℕ) : Type 0 where
  pub place : ℕ
  pub last : Replay
  pub text : List ℕ
  pub ran : Ran s start place last text
  pub end : token_at s place ≡ None
  pub put : Whole b (Next 0) text w e

-- the same as a number
pub record Counted (s b : List ℕ) (n : ℕ) (e : List ℕ) : Type 0 where
  pub written : Progress
  pub replayed : Replayed s nothing_yet b written e
  pub count : n ≡ count_of written
