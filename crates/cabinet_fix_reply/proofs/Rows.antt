-- The card records that fix needs places for, counted. Assumes nothing.
use Prim.Native.Nat.{ℕ}
use mathlib.Core.Path.{◌≡◌, sym, ◌∙◌, ap}
use mathlib.Core.Bool.{Bool, ◌&&◌}
use lib.Dec.{ltb}
use borrow.Author.Tests.{lt-ltb}
use Rattle.base_laws.specs.Below.{count_below}
use Rattle.base_laws.proofs.Below.{count_same}
use Rattle.base_bits.specs.Member.{member}
use Rattle.base_bits.specs.Sets.{below, truncate}
use Rattle.cabinet_layout.specs.Shape.{limits16, present_of}
use Rattle.cabinet_layout.proofs.Limits.{width16}

-- the cards of a cabinet of n cards
pub rows_count : (all n : ℕ) → member all ≡ truncate 16 (below n) → count_below 16 (member all) ≡ count_below limits16.width (present_of n)
rows_count all n e =
    ap (count_below 16) e ∙ count_same 16 (truncate 16 (below n)) (present_of n) (λ k h. ap (λ (b : Bool). b && ltb k n) (lt-ltb k 16 h))
    ∙ ap (λ (w : ℕ). count_below w (present_of n)) (sym width16)
