-- The set of the cards that are ahead, put in one after the other. Assumes nothing.
use Prim.Native.Nat.{ℕ, ◌+◌, ◌≤◌, ◌<◌, zero-le}
use mathlib.Core.Path.{◌≡◌, refl, sym, ◌∙◌, ap}
use mathlib.Core.Bool.{Bool, true, false, ◌&&◌, ◌||◌, cond}
use mathlib.Core.Logic.{by_cases}
use native.Mathlib.Decide.{dec_lt, ℕ_discrete}
use native.Mathlib.Omega.{arith}
use lib.Dec.{ltb}
use borrow.Author.Tests.{lt-ltb, le-ltb, eq-eqb, ne_eqb}
use Rattle.base_bits.specs.Member.{member}
use Rattle.base_bits.specs.Sets.{either, one, truncate}
use Rattle.base_bits.proofs.Members.{member_none}
use Rattle.theory_history.specs.Change.{CardSet}
use Rattle.cabinet_layout.specs.Shape.{set_of}
use Rattle.cabinet_layout.proofs.Held.{set_by}

-- of the cards below i those that pass are in the set, and no other card
pub record AheadSoFar (p : CardSet) (set i : ℕ) : Type 0 where
  pub within : i ≤ 16
  pub small : set < 65536
  pub so : (k : ℕ) → k < 16 → member set k ≡ (ltb k i && p k)

pub ahead_none : {p : CardSet} → AheadSoFar p 0 0
ahead_none {p} = record { within = zero-le; small = omega arith; so = λ k h. member_none k ∙ sym (ap (λ (b : Bool). b && p k) (le-ltb k 0 zero-le)) }

pub ahead_more : {p : CardSet} {set next i : ℕ} {b : Bool} → AheadSoFar p set i → i < 16 → next < 65536 → b ≡ p i → member next ≡ cond b (truncate 16 (either (member set) (one i))) (member set) → AheadSoFar p next (i + 1)
ahead_more {p} {set} {next} {i} {b} r h f e m =
    record { within = omega arith; small = f; so = λ k l. ap (λ (s : CardSet). s k) m ∙ by_cases (ℕ_discrete k i) (here k l) (there k l) }
  where
    put_all : (a : Bool) → cond a (true && (false || true)) false ≡ a
    put_all true = refl
    put_all false = refl

    put : (a : Bool) {x y z : Bool} → x ≡ true → z ≡ false → y ≡ true → cond a (x && (z || y)) z ≡ a
    put a p q s = (λ t. cond a (p t && (q t || s t)) (q t)) ∙ put_all a

    left_all : (a z : Bool) → cond a (true && (z || false)) z ≡ z
    left_all true true = refl
    left_all true false = refl
    left_all false z = refl

    left : (a z : Bool) {x y : Bool} → x ≡ true → y ≡ false → cond a (x && (z || y)) z ≡ z
    left a z p s = (λ t. cond a (p t && (z || s t)) z) ∙ left_all a z

    split : (a : Bool) (f g : CardSet) (k : ℕ) → cond a f g k ≡ cond a (f k) (g k)
    split true f g k = refl
    split false f g k = refl

    here : (k : ℕ) → k < 16 → k ≡ i → cond b (truncate 16 (either (member set) (one i))) (member set) k ≡ (ltb k (i + 1) && p k)
    here k l q =
        let z : member set k ≡ false = r.so k l ∙ ap (λ (x : Bool). x && p k) (le-ltb k i (omega arith)) in
        split b (truncate 16 (either (member set) (one i))) (member set) k ∙ put b (lt-ltb k 16 l) z (eq-eqb k i q)
        ∙ e ∙ ap p (sym q) ∙ sym (ap (λ (x : Bool). x && p k) (lt-ltb k (i + 1) (omega arith)))

    same : (k : ℕ) → ¬ (k ≡ i) → ltb k i ≡ ltb k (i + 1)
    same k q = by_cases (dec_lt k i) (λ l. lt-ltb k i l ∙ sym (lt-ltb k (i + 1) (omega arith))) (λ l. le-ltb k i (omega (arith, l)) ∙ sym (le-ltb k (i + 1) (omega (arith, l, q))))

    there : (k : ℕ) → k < 16 → ¬ (k ≡ i) → cond b (truncate 16 (either (member set) (one i))) (member set) k ≡ (ltb k (i + 1) && p k)
    there k l q =
        split b (truncate 16 (either (member set) (one i))) (member set) k ∙ left b (member set k) (lt-ltb k 16 l) (ne_eqb k i q)
        ∙ r.so k l ∙ ap (λ (x : Bool). x && p k) (same k q)

pub ahead_done : {p : CardSet} {set i : ℕ} → AheadSoFar p set i → 16 ≤ i → set ≡ set_of p
ahead_done {p} {set} {i} r h = set_by set p r.small (λ k l. r.so k l ∙ ap (λ (x : Bool). x && p k) (lt-ltb k i (omega arith)))
