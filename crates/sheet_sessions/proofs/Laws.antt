-- Laws of the lowest session and of refusal 11. Assumes nothing.
use Prim.Native.Nat.{ℕ, zero, suc, ◌+◌, ◌≤◌, ◌<◌}
use mathlib.Core.Path.{◌≡◌, ap₂}
use mathlib.Core.Bool.{false, ◌&&◌, ◌||◌}
use mathlib.Core.Logic.{by_cases}
use native.Mathlib.Nat.{le_refl, le_step}
use native.Mathlib.Decide.{dec_le}
use native.Mathlib.Omega.{arith}
use lib.Dec.{ltb}
use borrow.Author.Tests.{lt-ltb}
use Rattle.base_laws.proofs.Logic.{clash, or_left}
use Rattle.base_laws.proofs.Below.{any_same, any_intro}
use Rattle.sheet_sessions.specs.Sessions.{lowest_to, apart}

pub lowest_same : (f g : ℕ → ℕ) (n : ℕ) → ((i : ℕ) → i ≤ n → f i ≡ g i) → lowest_to f n ≡ lowest_to g n
lowest_same f g zero e = e 0 (le_refl 0)
lowest_same f g (suc n) e = rw (lowest_same f g n (λ i h. e i (le_step h)), e (suc n) (le_refl (suc n)))

pub lowest_le : (f : ℕ → ℕ) (n i : ℕ) → i ≤ n → lowest_to f n ≤ f i
lowest_le f zero i h = let e : i ≡ 0 = omega arith in rw e (le_refl (f 0))
lowest_le f (suc n) i h = by_cases (dec_le i n) (λ l. omega (arith, lowest_le f n i l)) (λ l. let e : i ≡ suc n = omega (arith, l) in rw e (omega arith))

pub lowest_ge : (f : ℕ → ℕ) (n s : ℕ) → ((i : ℕ) → i ≤ n → s ≤ f i) → s ≤ lowest_to f n
lowest_ge f zero s g = g 0 (le_refl 0)
lowest_ge f (suc n) s g = omega (arith, lowest_ge f n s (λ i h. g i (le_step h)), g (suc n) (le_refl (suc n)))

pub apart_same :
    (session session' count count' : ℕ → ℕ) (low n : ℕ) →
    ((c : ℕ) → c < n → session c ≡ session' c) →
    ((c : ℕ) → c < n → count c ≡ count' c) →
    apart session count low n ≡ apart session' count' low n
unfolding apart
apart_same session session' count count' low n s k =
    any_same n (λ j. ltb (low + 1) (session j) || (ltb low (session j) && ltb 0 (count j))) (λ j. ltb (low + 1) (session' j) || (ltb low (session' j) && ltb 0 (count' j)))
    (λ j h. ap₂ (λ (x y : ℕ). ltb (low + 1) x || (ltb low x && ltb 0 y)) (s j h) (k j h))

-- where 11 lets pass, no sheet is more than one session ahead
pub one_ahead : (session count : ℕ → ℕ) (low n : ℕ) → apart session count low n ≡ false → (c : ℕ) → c < n → session c ≤ low + 1
unfolding apart
one_ahead session count low n e c h =
    by_cases (dec_le (session c) (low + 1)) (λ l. l)
    (λ l. clash (any_intro n (λ j. ltb (low + 1) (session j) || (ltb low (session j) && ltb 0 (count j))) c h (or_left (ltb low (session c) && ltb 0 (count c)) (lt-ltb (low + 1) (session c) (omega (arith, l))))) e)
