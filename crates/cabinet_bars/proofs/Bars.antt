-- The cards that an opening finds barred, as a set and by their lowest. Assumes nothing.
use Prim.Native.Nat.{ℕ, ◌+◌}
use mathlib.Core.Path.{◌≡◌, sym, ◌∙◌, ap, ap₂}
use mathlib.Core.Bool.{Bool, true, false, not, ◌&&◌, ◌||◌}
use native.Mathlib.Numerals.{add-one}
use lib.Dec.{eqb}
use borrow.Author.Tests.{eq-eqb, ne_eqb}
use Rattle.base_laws.specs.Below.{any_below}
use Rattle.base_bits.specs.Member.{member}
use Rattle.base_bits.specs.Sets.{either, both, except}
use Rattle.theory_history.specs.Change.{CardSet}
use Rattle.theory_protocol.specs.Calls.{bars}
use Rattle.cabinet_layout.specs.declared.Slot.{Slot}
use Rattle.cabinet_layout.proofs.Held.{no_members}
use Rattle.cabinet_layout.specs.Shape.{open_of}

-- a set worked out by the operations on sets is what an open change bars
pub bars_set : (o : Slot) (reads writes touched left read asked barred : ℕ)
    → member touched ≡ either (member o.reads) (member o.writes)
    → member left ≡ except (member touched) (member o.taken)
    → member read ≡ both (member reads) (member o.writes)
    → member asked ≡ either (member writes) (member read)
    → member barred ≡ both (member left) (member asked)
    → (o.number ≡ 0 → ⊥)
    → member barred ≡ bars (open_of o) (member reads) (member writes)
bars_set o reads writes touched left read asked barred et el er ea eb n =
    let op : not (eqb o.number 0) ≡ true = ap not (ne_eqb o.number 0 n) in
    eb
    ∙ ap₂ both (el ∙ ap (λ (s : CardSet). except s (member o.taken)) et) (ea ∙ ap (λ (s : CardSet). either (member writes) s) er)
    ∙ ap {B = CardSet} (λ (b : Bool) (c : ℕ). b && (member o.reads c || member o.writes c) && not (member o.taken c) && (member writes c || (member reads c && member o.writes c))) (sym op)

pub bars_none : (o : Slot) (reads writes : ℕ) → o.number ≡ 0 → member 0 ≡ bars (open_of o) (member reads) (member writes)
bars_none o reads writes n =
    let op : not (eqb o.number 0) ≡ false = ap not (eq-eqb o.number 0 n) in
    no_members
    ∙ ap {B = CardSet} (λ (b : Bool) (c : ℕ). b && (member o.reads c || member o.writes c) && not (member o.taken c) && (member writes c || (member reads c && member o.writes c))) (sym op)

-- one slot more
pub bars_more : (f : ℕ → CardSet) (p out more sum : ℕ) → member out ≡ (λ c. any_below p (λ q. f q c)) → member more ≡ f p → member sum ≡ either (member out) (member more) → member sum ≡ (λ c. any_below (p + 1) (λ q. f q c))
bars_more f p out more sum eo em es =
    es ∙ ap₂ either eo em ∙ ap {B = CardSet} (λ (n : ℕ) (c : ℕ). any_below n (λ q. f q c)) (sym (add-one p))
