-- Laws of what a line goes on with. Assumes nothing.
use Prim.Native.Nat.{ℕ}
use mathlib.Core.Path.{◌≡◌, sym, ap}
use Rattle.base_text.specs.declared.Progress.{Progress}
use Rattle.base_text.specs.declared.Progress.TheVariants.{Next, Counting, TooShort}
use Rattle.list_results.specs.declared.Replay.{Replay}
use Rattle.list_results.specs.Going.{going_on}

going : {x y : Progress} (next old : Replay) → x ≡ y → going_on y next old ≡ going_on x next old
going next old e = sym (ap (λ (v : Progress). going_on v next old) e)

pub goes_on : {x : Progress} {n : ℕ} (next old : Replay) → x ≡ Next n → next ≡ going_on x next old
goes_on next old e = going next old e

pub counts_on : {x : Progress} {n : ℕ} (next old : Replay) → x ≡ Counting n → next ≡ going_on x next old
counts_on next old e = going next old e

pub stays_there : {x : Progress} (next old : Replay) → x ≡ TooShort → old ≡ going_on x next old
stays_there next old e = going next old e
