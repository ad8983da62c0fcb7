-- What fix hands back, by its plan: the lent list then begins with the numbers of the changes lost. The stored numbers and lines answered are those of the cabinet handed back.
use Rattle.base_refusal.specs.declared.Refusal.{Refusal}
use Rattle.std.specs.Prelude.{ℕ, ◌≡◌, List, length, Result}
use Rattle.theory_protocol.specs.Calls.{fix_plan}
use Rattle.cabinet_layout.specs.Shape.{limits16}
use Rattle.cabinet_recovery.specs.Fix.{FixResult}
use Rattle.cabinet.specs.declared.Cabinet.{Cabinet}
use Rattle.cabinet.specs.View.{view}
use Rattle.cabinet.specs.Apply.{apply_all}

pub record FixCarried (s : Cabinet) (places : ℕ) (before after : List ℕ) (reply : (Result ℕ Refusal)) (next : Cabinet) : Type 0 where
  pub told : FixResult (fix_plan limits16 (view s) places (length before)) s.core.head.cards next.core.stored next.core.line before after reply
  pub cabinet : next ≡ apply_all (fix_plan limits16 (view s) places (length before)).edits s
