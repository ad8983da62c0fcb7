-- What is looked at of a slot is what 28 says of its open change. Assumes nothing.
use Prim.Native.Nat.{ℕ}
use mathlib.Core.Path.{◌≡◌, sym, ◌∙◌, ap, ap₂}
use mathlib.Core.Bool.{Bool, true, not, ◌&&◌, ◌||◌}
use mathlib.Core.List.{List, []}
use borrow.Author.Tests.{eq-eqb, ne_eqb}
use Rattle.base_laws.specs.Below.{all_below, any_below}
use Rattle.base_bits.specs.Sets.{subset, below, either}
use Rattle.base_bits.specs.Member.{member}
use Rattle.theory_history.specs.Change.{CardSet}
use Rattle.theory_protocol.specs.Model.{to_write, strays}
use Rattle.theory_protocol.specs.Valid.{entries_valid, room_to_write, slot_valid}
use Rattle.cabinet_layout.specs.declared.Head.{Head}
use Rattle.cabinet_layout.specs.declared.Slot.{Slot}
use Rattle.cabinet_layout.specs.Shape.{limits16, at, present_of, numbers_of, open_of, numbers_model}
use Rattle.cabinet_layout.proofs.Limits.{width16}
use Rattle.cabinet_layout.proofs.Cards.{strays_within}

-- what is looked at of an open change
abbrev open_valid : (o : Slot) (base reached : List ℕ) → Head → Bool
open_valid o base reached h =
    not (strays limits16 (numbers_model h base [] [] reached) (either (member o.reads) (member o.writes)))
    && all_below limits16.width (λ c. not (to_write (open_of o) c) || room_to_write limits16 (numbers_of (at base c) 0 0 (at reached c)) 0)
    && entries_valid limits16 (present_of h.cards) (at o.vector)

-- a free slot is valid
pub slot_free : (o : Slot) (base reached : List ℕ) (h : Head) → o.number ≡ 0
    → true ≡ slot_valid limits16 (numbers_model h base [] [] reached) (open_of o)
slot_free o base reached h z =
    sym (ap (λ (b : Bool). not (not b) || open_valid o base reached h) (eq-eqb o.number 0 z))

-- the flags that the check of an open change works out are what the definition says of it
pub slot_whole : (o : Slot) (base reached : List ℕ) (h : Head) (touched : ℕ) (i f e : Bool)
    → (o.number ≡ 0 → ⊥)
    → member touched ≡ either (member o.reads) (member o.writes)
    → i ≡ subset 16 (member touched) (below h.cards)
    → f ≡ all_below limits16.width (λ c. not (to_write (open_of o) c) || room_to_write limits16 (numbers_of (at base c) 0 0 (at reached c)) 0)
    → e ≡ entries_valid limits16 (present_of h.cards) (at o.vector)
    → i && f && e ≡ slot_valid limits16 (numbers_model h base [] [] reached) (open_of o)
slot_whole o base reached h touched i f e full et ei ef ee =
    let s : CardSet = either (member o.reads) (member o.writes) in
    let inside : i ≡ not (strays limits16 (numbers_model h base [] [] reached) s) =
    ei ∙ ap (λ (p : CardSet). subset 16 p (below h.cards)) et ∙ sym (strays_within 16 h.cards s)
    ∙ ap (λ (w : ℕ). not (any_below w (λ c. s c && not (present_of h.cards c)))) (sym width16) in
    ap₂ (λ (x y : Bool). x && y) (ap₂ (λ (x y : Bool). x && y) inside ef) ee
    ∙ sym (ap (λ (b : Bool). not (not b) || open_valid o base reached h) (ne_eqb o.number 0 full))
