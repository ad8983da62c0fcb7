-- One turn of each loop, over variables. Assumes nothing.
use Prim.Native.Nat.{ℕ, suc, ◌+◌, ◌-◌, ◌≤◌, ◌<◌, min}
use mathlib.Core.Path.{◌≡◌, sym, ◌∙◌}
use mathlib.Core.Bool.{Bool, true, false, ◌&&◌, ◌||◌}
use mathlib.Core.List.{List}
use mathlib.Core.Logic.{by_cases}
use native.Mathlib.Nat.{le_refl}
use native.Mathlib.Decide.{dec_lt}
use native.Mathlib.Omega.{arith}
use lib.Dec.{ltb}
use lib.ListN.{length, get_or, get_or-eq_default}
use borrow.Author.Tests.{lt-ltb, le-ltb}
use Rattle.base_laws.specs.Below.{any_below}
use Rattle.base_laws.proofs.Logic.{clash, fails}
use Rattle.base_laws.proofs.Below.{any_intro, Found, any_elim}
use Rattle.sheet_sessions.specs.Sessions.{lowest_to, apart}
use Rattle.sheet_sessions.proofs.Laws.{lowest_le}

pub not_ahead : (session count low : ℕ) → session ≤ low → false ≡ (ltb (low + 1) session || (ltb low session && ltb 0 count))
not_ahead session count low h = rw (le-ltb (low + 1) session (omega arith), le-ltb low session h)

module _ (sessions counts : List ℕ) (low : ℕ) where
  abbrev is_ahead : ℕ → Bool
  is_ahead j = ltb (low + 1) (get_or sessions j 0) || (ltb low (get_or sessions j 0) && ltb 0 (get_or counts j 0))

  -- none of the first n is ahead
  abbrev pub NoneAhead : ℕ → Type 0
  NoneAhead n = any_below n is_ahead ≡ false

  pub none_ahead : (n : ℕ) {t : Bool} → NoneAhead n → t ≡ is_ahead n → t ≡ false → NoneAhead (n + 1)
  none_ahead n x y z = let k : n + 1 ≡ suc n = omega arith in rw (k, x, ← y, z)

  pub apart_here : (n j : ℕ) {t : Bool} → j < n → t ≡ is_ahead j → t ≡ true → true ≡ apart (λ c. get_or sessions c 0) (λ c. get_or counts c 0) low n
  unfolding apart
  apart_here n j h y z = sym (any_intro n is_ahead j h (sym y ∙ z))

  -- those beyond the list have session 0
  pub apart_nowhere : (n j : ℕ) {end : ℕ} → length sessions ≡ 16 → end ≡ min n 16 → end ≤ j → NoneAhead j → false ≡ apart (λ c. get_or sessions c 0) (λ c. get_or counts c 0) low n
  unfolding apart
  apart_nowhere n j {end} l e h x = sym (fails (any_below n is_ahead) (λ (y : any_below n is_ahead ≡ true). nowhere (any_elim n is_ahead y)))
    where
      nowhere : Found n is_ahead → ⊥
      nowhere f =
          by_cases (dec_lt f.0 j) (λ (k : f.0 < j). clash (any_intro j is_ahead f.0 k f.2) x)
          (λ k. let z : get_or sessions f.0 0 ≡ 0 = get_or-eq_default sessions 0 {n = f.0} (omega (arith, k, f.1)) in clash f.2 (sym (not_ahead (get_or sessions f.0 0) (get_or counts f.0 0) low (omega arith))))
