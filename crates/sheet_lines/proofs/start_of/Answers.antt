-- `sheet_lines::start_of` gives the sums from which a sheet's checks start: the remainder is taken before one is added, as a card may be any number of 32 bits. Assumes nothing.
use Prim.Native.Nat.{ℕ}
use mathlib.Core.Path.{◌≡◌}
use native.Mathlib.Omega.{arith}
use borrow.Author.Rules.{rules}
use Rattle.sheet_digits.specs.declared.Sums.{Sums}
use Rattle.sheet_lines.proofs.start_of.Goals as goal

same-sums : {a b s t : ℕ} → a ≡ b → s ≡ t → ◌≡◌ {A = Sums} (record { first = a; second = s }) (record { first = b; second = t })
same-sums p q = λ i. record { first = p i; second = q i }

pub returns : goal.returns
returns c = same-sums (omega arith) (omega arith)
