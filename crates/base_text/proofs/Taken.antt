-- Laws of the front of a list. Assumes nothing.
use Prim.Native.Nat.{ℕ, ◌-◌, ◌≤◌, min}
use mathlib.Core.Path.{◌≡◌, sym, ◌∙◌, ap}
use mathlib.Core.List.{List}
use mathlib.Core.Logic.{by_cases}
use native.Mathlib.Decide.{dec_le}
use native.Mathlib.Omega.{arith}
use lib.ListN.{length, take, length-take}
use lib.Seq.{take_all, take-take}

-- as many places of a list as there are, and of these as many as are asked for
pub taken_twice : (list : List ℕ) (all k places some count : ℕ) → length list ≡ all → some ≡ min k places → count ≡ min some all → take (count - 0) list ≡ take k (take places list)
taken_twice list all k places some count size e q = within ∙ inner
  where
    within : take (count - 0) list ≡ take some list
    within =
        by_cases (dec_le some all)
        (λ (h : some ≤ all). let z : count - 0 ≡ some = omega arith in ap (λ (m : ℕ). take m list) z)
        (λ (h : some ≤ all → ⊥).
        let a : length list ≤ count - 0 = omega arith in
        let d : length list ≤ some = omega arith in
        take_all (count - 0) list a ∙ sym (take_all some list d))

    inner : take some list ≡ take k (take places list)
    inner =
        by_cases (dec_le k places)
        (λ (h : k ≤ places). let z : some ≡ k = omega arith in ap (λ (m : ℕ). take m list) z ∙ sym (take-take k places list h))
        (λ (h : k ≤ places → ⊥).
        let z : some ≡ places = omega arith in
        let d : length (take places list) ≤ k = omega (arith, length-take places list) in
        ap (λ (m : ℕ). take m list) z ∙ sym (take_all k (take places list) d))
