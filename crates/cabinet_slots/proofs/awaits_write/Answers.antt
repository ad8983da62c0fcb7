use Rattle.cabinet_layout.proofs.Held.{not_not}
use Rattle.base_bits.specs.Sets.{except}
use Rattle.base_bits.specs.Member.{member}
use Rattle.cabinet_layout.proofs.Limits.{width16}
use Rattle.base_laws.specs.Below.{any_below}
use Prim.Native.Nat.{ℕ}
use mathlib.Core.Path.{sym, ◌∙◌, ap}
use mathlib.Core.Bool.{Bool, not}
use Rattle.cabinet_slots.proofs.awaits_write.Goals as goal

pub returns : goal.returns
returns c = ap not c.is_empty-none.ensures ∙ not_not (any_below 16 (member c.difference-left.result)) ∙ ap (λ (s : ℕ → Bool). any_below 16 s) c.difference-left.ensures ∙ ap (λ (w : ℕ). any_below w (except (member c.args.o.writes) (member c.args.o.taken))) (sym width16)
