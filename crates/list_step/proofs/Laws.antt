-- Laws of a line that is done where its answer has room. Assumes nothing.
use Prim.Native.Nat.{ℕ}
use mathlib.Core.Path.{◌≡◌, subst}
use mathlib.Core.List.{List}
use Rattle.base_text.specs.declared.Progress.{Progress}
use Rattle.list_commands.specs.declared.Command.{Command}
use Rattle.list_results.specs.declared.Replay.{Replay}
use Rattle.list_results.specs.Result.{Written}
use Rattle.list_results.specs.Step.{Steps}
use Rattle.list_results.specs.Going.{going_on}
use Rattle.list_texts.specs.Executed.{Executed}

module _ {b : List ℕ} {w r : Progress} {e : List ℕ} where
  -- ---- nothing is done where the answer has no room

  pub executed : (said : Command) (old next after : Replay) → Written (Steps said old next) b w r e → after ≡ going_on r next old → Executed said old b w after r e
  executed said old next after u z = record { next = next; text = u.text; steps = u.told; put = u.put; replay = z }

-- what was said, known by another name
pub executed_for : {x y : Command} {old : Replay} {b : List ℕ} {w : Progress} {after : Replay} {r : Progress} {e : List ℕ} → x ≡ y → Executed x old b w after r e → Executed y old b w after r e
executed_for {x} {y} {old} {b} {w} {after} {r} {e} z u = subst (λ (v : Command). Executed v old b w after r e) z u
