-- Fix answers at most 776 lost changes, and 16 card records and 776 numbers are never too few for it. Assumes nothing.
use Rattle.std.specs.Prelude.{Ok, Err}
use Prim.Native.Nat.{ℕ, zero-le}
use mathlib.Core.Path.{◌≡◌, refl, sym, ◌∙◌, ap}
use mathlib.Core.Bool.{Bool, true, false, not, ◌||◌}
use mathlib.Core.List.{List, [], ◌∷◌}
use native.Mathlib.Omega.{arith}
use lib.Dec.{leb, ltb}
use lib.ListN.{length, take}
use lib.Seq.{length-take-le}
use Rattle.base_refusal.specs.declared.Refusal.TheVariants.{TooShort, WrongPhase, LimitReached, BadCabinet, WriteUnreported}
use Rattle.cabinet_recovery.specs.Fix.{rows_of, fix_reply_of}
use Rattle.theory_protocol.specs.Model.{is_down}
use Rattle.theory_protocol.specs.Valid.{valid}
use Rattle.theory_protocol.specs.Edit.{Edit, fix}
use Rattle.theory_protocol.specs.Plan.{CardRow, fixed, accepted, ◌⇒◌, checked}
use Rattle.theory_protocol.specs.Calls.{some_writing, lines, card_rows, lost_numbers}
use Rattle.theory_protocol.specs.Room.{most_lost}
use Rattle.theory_protocol.proofs.Steps.{not_not}
use Rattle.theory_protocol.proofs.Room as model
use Rattle.cabinet_layout.specs.Shape.{limits16}
use Rattle.cabinet_layout.proofs.Limits.{width16}
use Rattle.cabinet.specs.View.{view}
use Rattle.demands_valid.specs.Room.{FewLost, NeverShort}

most_776 : most_lost limits16 ≡ 776
unfolding limits16
most_776 = refl

pub never_short : NeverShort
never_short s places before after reply next carried a b e =
    model.never_short limits16 (view s) places (length before) (omega (arith, a, width16)) (omega (arith, b, most_776))
    (sym carried.told.answer ∙ ap (fix_reply_of s.core.head.cards next.core.stored next.core.line after) e)

-- a fix that answers passed its checks, and answers the list of its plan
answered : (a b d u e : Bool) (rows told_rows : List CardRow) (lost told : List ℕ) (es : List Edit)
    → accepted (fixed told_rows told) ≡ (checked (a ⇒ BadCabinet ∷ b ⇒ WrongPhase ∷ d ⇒ LimitReached ∷ u ⇒ WriteUnreported ∷ e ⇒ TooShort ∷ []) (fixed rows lost) es).reply → (a ≡ false) × (told ≡ lost)
answered true b d u e rows told_rows lost told es q = let z : ◌≡◌ {A = ℕ} 0 1 = cc in absurd (omega arith)
answered false true d u e rows told_rows lost told es q = let z : ◌≡◌ {A = ℕ} 0 1 = cc in absurd (omega arith)
answered false false true u e rows told_rows lost told es q = let z : ◌≡◌ {A = ℕ} 0 1 = cc in absurd (omega arith)
answered false false false true e rows told_rows lost told es q = let z : ◌≡◌ {A = ℕ} 0 1 = cc in absurd (omega arith)
answered false false false false true rows told_rows lost told es q = let z : ◌≡◌ {A = ℕ} 0 1 = cc in absurd (omega arith)
answered false false false false false rows told_rows lost told es q = (refl, cc)

pub few_lost : FewLost
few_lost s places before after (Err r) next carried = zero-le
few_lost s places before after (Ok k) next carried =
    omega (arith, model.few_lost limits16 (view s) (not_not (valid limits16 (view s)) w.0), ap length w.1, length-take-le k after carried.told.inside, most_776)
  where
    w : (not (valid limits16 (view s)) ≡ false) × (take k after ≡ lost_numbers limits16 (view s))
    w =
        answered (not (valid limits16 (view s))) (not (is_down (view s).phase)) (leb limits16.greatest_number (view s).session) (some_writing limits16 (view s)) (ltb places (length (card_rows limits16 (view s))) || ltb (length before) (length (lost_numbers limits16 (view s))))
        (card_rows limits16 (view s)) (rows_of s.core.head.cards next.core.stored next.core.line) (lost_numbers limits16 (view s)) (take k after) (fix (lines limits16 (view s)) ∷ []) carried.told.answer
