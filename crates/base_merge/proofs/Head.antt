-- The head of one card, its end and the card brought past a number, case by case. Assumes nothing.
use Prim.Native.Nat.{ℕ, suc, ◌+◌, ◌≤◌, ◌<◌}
use mathlib.Core.Path.{◌≡◌}
use native.Mathlib.Numerals.{add-one}
use mathlib.Core.Bool.{cond}
use mathlib.Core.List.{List}
use lib.Dec.{ltb}
use borrow.Author.Tests.{lt-ltb, le-ltb, eq-eqb, ne_eqb}
use Rattle.base_merge.specs.Merge.{at, ends_of, head_number, card_past}
use Rattle.base_laws.proofs.Fill.{get_d_tabulate}

pub end_at : (last : List ℕ) (n c : ℕ) → c < 16 → at (ends_of last n) c ≡ cond (ltb c n) (at last c) 0
end_at last n c h = get_d_tabulate 16 (λ c. cond (ltb c n) (at last c) 0) 0 c h

module _ (f : ℕ → ℕ) (passed end : ℕ) where
  pub head_there : passed < end → f (suc passed) ≡ head_number f passed end
  head_there h = rw (lt-ltb passed end h)

  pub head_none : end ≤ passed → 0 ≡ head_number f passed end
  head_none h = rw (le-ltb passed end h)

module _ (passed end head k : ℕ) where
  pub past_head : passed < end → head ≡ k → passed + 1 ≡ card_past passed end head k
  past_head h e = rw (lt-ltb passed end h, eq-eqb head k e) (add-one passed)

  pub past_other : passed < end → (head ≡ k → ⊥) → passed ≡ card_past passed end head k
  past_other h n = rw (lt-ltb passed end h, ne_eqb head k n)

  pub past_end : end ≤ passed → passed ≡ card_past passed end head k
  past_end h = rw (le-ltb passed end h)
