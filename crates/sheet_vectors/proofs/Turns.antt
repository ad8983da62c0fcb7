-- One turn of a search for some that passes, over variables. Assumes nothing.
use Prim.Native.Nat.{ℕ, ◌+◌, ◌≤◌, ◌<◌}
use mathlib.Core.Path.{◌≡◌, sym, ◌∙◌, ap}
use mathlib.Core.Bool.{Bool, true, false}
use native.Mathlib.Omega.{arith}
use Rattle.base_laws.specs.Below.{any_below}
use Rattle.base_laws.proofs.Below.{any_intro}
use Rattle.base_laws.proofs.Fill.{NoneSoFar, search_more}

pub none_stop : {n : ℕ} {p : ℕ → Bool} {i : ℕ} {t : Bool} → NoneSoFar n p i → i < n → t ≡ p i → t ≡ true → true ≡ any_below n p
none_stop {n} {p} {i} s h y z = sym (any_intro n p i h (sym y ∙ z))

pub none_more : {n : ℕ} {p : ℕ → Bool} {i : ℕ} {t : Bool} → NoneSoFar n p i → i < n → t ≡ p i → t ≡ false → NoneSoFar n p (i + 1)
none_more s h y z = search_more s h (sym y ∙ z)

pub none_end : {n : ℕ} {p : ℕ → Bool} {i : ℕ} → NoneSoFar n p i → n ≤ i → false ≡ any_below n p
none_end {n} {p} {i} s h =
    let l : i ≤ n = s.within in
    let e : i ≡ n = omega arith in
    sym (ap (λ (m : ℕ). any_below m p) (sym e) ∙ s.so)
