-- A line done where its answer has room.
use Rattle.std.specs.Prelude.{◌≡◌, List, ℕ}
use Rattle.list_commands.specs.declared.Command.{Command}
use Rattle.base_text.specs.declared.Progress.{Progress}
use Rattle.base_text.specs.Put.{Whole}
use Rattle.list_results.specs.declared.Replay.{Replay}
use Rattle.list_results.specs.Going.{going_on}
use Rattle.list_results.specs.Step.{Steps}

-- a line done, its answer written into the buffer b from w on: all of it and the replay goes on, or nothing is changed
pub record Executed (said : Command) (r : Replay) (b : List ℕ) (w : Progress) (after : Replay) (x : Progress) (e : List ℕ) : Type 0 where
  pub next : Replay
  pub text : List ℕ
  pub steps : Steps said r next text
  pub put : Whole b w text x e
  pub replay : after ≡ going_on x next r
