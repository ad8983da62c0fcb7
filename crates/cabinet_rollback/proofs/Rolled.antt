-- The cards rolled. Assumes nothing.
use Prim.Native.Nat.{ℕ}
use mathlib.Core.Path.{◌≡◌, ap}
use mathlib.Core.Bool.{Bool, not, ◌&&◌, ◌||◌}
use lib.Dec.{ltb}
use borrow.Author.Tests.{lt-ltb}
use Rattle.base_laws.proofs.Fill.{all_same}
use Rattle.base_bits.specs.Sets.{below, truncate, subset}
use Rattle.theory_history.specs.Change.{CardSet}

-- of the cards that a set of 16 has room for
pub cut_within : (w n : ℕ) (s : CardSet) → subset w (truncate w (below n)) s ≡ subset w (below n) s
cut_within w n s = all_same w (λ k. not (ltb k w && ltb k n) || s k) (λ k. not (ltb k n) || s k) (λ k h. ap (λ (b : Bool). not (b && ltb k n) || s k) (lt-ltb k w h))
