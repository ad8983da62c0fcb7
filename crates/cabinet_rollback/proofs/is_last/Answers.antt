use Rattle.base_bits.proofs.Sets.{empty_except}
use Rattle.base_bits.specs.Member.{member}
use Rattle.base_bits.specs.Sets.{below, subset}
use Rattle.theory_history.specs.Change.{CardSet}
use Rattle.cabinet_layout.proofs.Held.{all_put}
use Rattle.cabinet_rollback.proofs.Rolled.{cut_within}
use Prim.Native.Nat.{ℕ}
use mathlib.Core.Path.{sym, ◌∙◌, ap}
use mathlib.Core.Bool.{not}
use Rattle.base_laws.specs.Below.{any_below}
use Rattle.cabinet_layout.proofs.Limits.{width16}
use Rattle.cabinet_rollback.proofs.is_last.Goals as goal

pub returns : goal.returns
returns c = let a : _ = c.args in let all : ℕ = c.all_below-all.result in let y : ℕ = c.with-done.result in c.is_empty.ensures ∙ ap (λ (s : CardSet). not (any_below 16 s)) c.difference-left.ensures ∙ empty_except 16 (member all) (member y) ∙ ap (λ (s : CardSet). subset 16 s (member y)) c.all_below-all.ensures ∙ cut_within 16 a.head.cards (member y) ∙ ap (λ (w : ℕ). subset w (below a.head.cards) (member y)) (sym width16) ∙ all_put (below a.head.cards) a.rolled y a.card c.with-done.ensures
