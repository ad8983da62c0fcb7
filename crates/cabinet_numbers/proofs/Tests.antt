-- Laws of the tests that the check for 28 makes. Assumes nothing.
use Prim.Native.Nat.{ℕ, zero, suc, ◌+◌, ◌≤◌, ◌<◌, zero-le}
use mathlib.Core.Path.{◌≡◌, refl, sym, ◌∙◌, ap, ap₂}
use mathlib.Core.Bool.{Bool, true, false, not, ◌&&◌, cond}
use mathlib.Core.Logic.{by_cases}
use native.Mathlib.Nat.{zero-lt-suc}
use native.Mathlib.Decide.{dec_lt}
use native.Mathlib.Omega.{arith}
use lib.Dec.{leb, ltb}
use borrow.Author.Tests.{lt-ltb, le-ltb, le-leb, lt-leb, leb-true}
use Rattle.base_laws.specs.Below.{any_below}
use Rattle.base_laws.proofs.Logic.{fails, and_left, and_right}
use Rattle.base_laws.proofs.Below.{any_intro, any_elim, Found}
use Rattle.base_laws.proofs.Fill.{all_same}
use Rattle.theory_history.specs.Vector.{Vector}
use Rattle.theory_protocol.specs.Valid.{entries_valid, numbers_valid}
use Rattle.cabinet_layout.specs.Shape.{limits16, present_of, numbers_of}
use Rattle.cabinet_layout.proofs.Held.{not_ltb}
use Rattle.cabinet_layout.proofs.Limits.{greatest60000}

-- there is a card, and none beyond the width, where their number is 1 to the width
pub cards_limits : (w n : ℕ) → 0 < w → any_below w (present_of n) && not (ltb w n) ≡ leb 1 n && leb n w
cards_limits w zero h =
    ap (λ (b : Bool). b && not (ltb w 0)) (fails (any_below w (present_of 0)) none) ∙ sym (ap (λ (b : Bool). b && leb 0 w) (lt-leb 1 0 (omega arith)))
  where
    out : Found w (present_of 0) → ⊥
    out r = let e : present_of 0 r.0 ≡ false = le-ltb r.0 0 zero-le in Rattle.base_laws.proofs.Logic.clash r.2 e

    none : any_below w (present_of 0) ≡ true → ⊥
    none e = out (any_elim w (present_of 0) e)
cards_limits w (suc n) h =
    ap₂ (λ (a b : Bool). a && b) (any_intro w (present_of (suc n)) 0 h (lt-ltb 0 (suc n) (zero-lt-suc n)) ∙ sym (le-leb 1 (suc n) (omega arith))) (not_ltb w (suc n))

-- a card that is not there has no entries: the same as a cabinet of no cards
pub entries_absent : (there : Bool) (n : ℕ) (v : Vector) → entries_valid limits16 (present_of (cond there n 0)) v ≡ entries_valid limits16 (λ j. there && present_of n j) v
entries_absent true n v = refl
entries_absent false n v = all_same limits16.width _ _ (λ k h. ap (λ (b : Bool). leb (v k) (cond b limits16.greatest_state 0)) (le-ltb k 0 zero-le))

-- what the frames' check asks of the numbers
pub numbers_order : (b s h r : ℕ) → numbers_valid limits16 (numbers_of b s h r) 0 ≡ true → (b ≤ r) × (r ≤ 60000)
numbers_order b s h r e =
    let e3 : leb b s && leb s h && leb h r ≡ true =
    and_left (leb b s && leb s h && leb h r) (leb r (b + limits16.in_hand)) (and_left (leb b s && leb s h && leb h r && leb r (b + limits16.in_hand)) (leb r limits16.greatest_state) e) in
    let a : b ≤ s = leb-true b s (and_left (leb b s) (leb s h) (and_left (leb b s && leb s h) (leb h r) e3)) in
    let d : s ≤ h = leb-true s h (and_right (leb b s) (leb s h) (and_left (leb b s && leb s h) (leb h r) e3)) in
    let f : h ≤ r = leb-true h r (and_right (leb b s && leb s h) (leb h r) e3) in
    let g : r ≤ limits16.greatest_state = leb-true r limits16.greatest_state (and_right (leb b s && leb s h && leb h r && leb r (b + limits16.in_hand)) (leb r limits16.greatest_state) e) in
    (omega arith, omega (arith, greatest60000))
