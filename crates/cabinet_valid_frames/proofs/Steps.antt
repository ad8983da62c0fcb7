-- A step from frame to frame in the ring, as the check for 28 takes it. Assumes nothing.
use Prim.Native.Nat.{ℕ, suc, ◌+◌, ◌*◌, ◌%◌, ◌≤◌, ◌<◌}
use mathlib.Core.Path.{◌≡◌, ◌∙◌, ap, ap₂}
use mathlib.Core.Bool.{Bool, not, ◌&&◌, ◌||◌, cond}
use mathlib.Core.List.{List}
use native.Mathlib.Omega.{arith}
use lib.Dec.{eqb, leb, ltb}
use native.Mathlib.Numerals.{add-one}
use native.Mathlib.Decide.{dec_le}
use mathlib.Core.Logic.{by_cases}
use borrow.Author.Tests.{lt-ltb, le-ltb}
use Rattle.base_laws.specs.Below.{all_below}
use Rattle.theory_protocol.specs.Model.{up}
use Rattle.theory_protocol.specs.Valid.{frame_valid, rises_valid, entries_valid}
use Rattle.cabinet_layout.specs.Shape.{limits16, at, present_of, ring, numbers_of, part_of}

-- carried along, the place of a state among the 48 of its card is the state's remainder
pub next_slot : (x s r : ℕ) → s ≡ x % 48 → r ≡ cond (ltb s 47) (s + 1) 0 → r ≡ suc x % 48
next_slot x s r es er =
    by_cases (dec_le 47 s)
    (λ (h : 47 ≤ s). let e : r ≡ 0 = er ∙ ap (λ (b : Bool). cond b (s + 1) 0) (le-ltb s 47 h) in omega (arith, es, e, h))
    (λ (h : 47 ≤ s → ⊥). let l : s < 47 = omega (arith, h) in let e : r ≡ s + 1 = er ∙ ap (λ (b : Bool). cond b (s + 1) 0) (lt-ltb s 47 l) in omega (arith, es, e, l))

-- a frame and its step from the one before, at places of the ring
abbrev frame_at : (entries changes : List ℕ) (n c place x : ℕ) → Bool
frame_at entries changes n c place x =
    not (eqb (at changes place) 0) && eqb (at entries (place * 16 + c)) x && entries_valid limits16 (present_of n) (λ j. at entries (place * 16 + j))

abbrev rises_at : (entries changes : List ℕ) (place next : ℕ) → Bool
rises_at entries changes place next =
    ltb (at changes place) (at changes next) && all_below limits16.width (λ j. leb (at entries (place * 16 + j)) (at entries (next * 16 + j)))

pub step_whole : (entries changes : List ℕ) (n c base reached k s r : ℕ) (f g : Bool)
    → s ≡ (base + k) % 48
    → r ≡ suc (base + k) % 48
    → f ≡ frame_at entries changes n c (c * 48 + r) (base + k + 1)
    → g ≡ rises_at entries changes (c * 48 + s) (c * 48 + r)
    → f && (eqb k 0 || g)
    ≡ frame_valid limits16 (part_of n up (numbers_of base 0 0 reached) (ring entries changes) 0) c (suc (base + k)) && (eqb k 0 || rises_valid limits16 (ring entries changes) c (base + k))
step_whole entries changes n c base reached k s r f g es er ef eg =
    ap₂ (λ (a b : Bool). a && (eqb k 0 || b))
    (ef ∙ ap₂ (λ (y x : ℕ). frame_at entries changes n c (c * 48 + y) x) er (add-one (base + k)))
    (eg ∙ ap₂ (λ (y z : ℕ). rises_at entries changes (c * 48 + y) (c * 48 + z)) es er)
