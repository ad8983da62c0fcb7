-- No vote is awaited where all touched cards are in the set. Assumes nothing.
use Prim.Native.Nat.{ℕ}
use mathlib.Core.Path.{◌≡◌, ◌∙◌, ap}
use mathlib.Core.Bool.{Bool, not, ◌&&◌, ◌||◌}
use lib.Dec.{eqb}
use Rattle.base_laws.specs.Below.{all_below, count_below}
use Rattle.base_bits.specs.Sets.{except}
use Rattle.base_bits.proofs.Sets.{count_empty, empty_except}

pub none_awaited : (w : ℕ) (touched have : ℕ → Bool) {n : ℕ} → n ≡ count_below w (λ c. touched c && not (have c)) → eqb n 0 ≡ all_below w (λ c. not (touched c) || have c)
none_awaited w touched have e = ap (λ (k : ℕ). eqb k 0) e ∙ count_empty w (except touched have) ∙ empty_except w touched have
