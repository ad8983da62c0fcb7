-- What an opening finds of a cabinet, as its checks say it. Assumes nothing.
use Prim.Native.Nat.{ℕ}
use mathlib.Core.Path.{◌≡◌, sym, ◌∙◌, ap, ap₂}
use mathlib.Core.Bool.{Bool, not, ◌&&◌, ◌||◌}
use mathlib.Core.List.{List}
use lib.Dec.{leb, ltb}
use Rattle.base_laws.specs.Below.{any_below, first_below}
use Rattle.base_bits.specs.Member.{member}
use Rattle.base_bits.specs.Sets.{below, subset}
use Rattle.theory_history.specs.Change.{CardSet}
use Rattle.theory_protocol.specs.Model.{Model, free_at, strays, is_empty}
use Rattle.theory_protocol.specs.Calls.{barred, lowest_barred, some_written}
use Rattle.cabinet_layout.specs.declared.Head.{Head}
use Rattle.cabinet_layout.specs.declared.Slot.{Slot}
use Rattle.cabinet_layout.specs.Shape.{limits16, slots_model}
use Rattle.cabinet_layout.proofs.Cards.{outside_strays}
use Rattle.cabinet_layout.proofs.Held.{not_not, not_ltb}
use Rattle.cabinet_layout.proofs.Limits.{width16, slots8, greatest_number32}

module _ (head : Head) (all : List Slot) (base reached : List ℕ) (R W : CardSet) where
  abbrev m : Model
  m = slots_model head all base reached

  pub outside : {x y : Bool} → x ≡ subset 16 R (below head.cards) → y ≡ subset 16 W (below head.cards) → not x || not y ≡ strays limits16 m R || strays limits16 m W
  outside e f = ap₂ (λ (a b : Bool). a || b) (ap not e ∙ outside_strays head R) (ap not f ∙ outside_strays head W)

  pub nothing : {x y : Bool} → x ≡ not (any_below 16 R) → y ≡ not (any_below 16 W) → x && y ≡ is_empty limits16 R && is_empty limits16 W
  nothing e f = ap₂ (λ (a b : Bool). a && b) (e ∙ ap (λ (w : ℕ). not (any_below w R)) (sym width16)) (f ∙ ap (λ (w : ℕ). not (any_below w W)) (sym width16))

  module _ (b : ℕ) (e : member b ≡ barred limits16 m R W) where
    pub some_barred : {free : Bool} → free ≡ not (any_below 16 (member b)) → not free ≡ any_below limits16.width (barred limits16 m R W)
    some_barred f = ap not f ∙ not_not _ ∙ ap (any_below 16) e ∙ ap (λ (w : ℕ). any_below w (barred limits16 m R W)) (sym width16)

    pub lowest : {n : ℕ} → n ≡ first_below 16 (member b) → n ≡ lowest_barred limits16 m R W
    lowest f = f ∙ ap (first_below 16) e ∙ ap (λ (w : ℕ). first_below w (barred limits16 m R W)) (sym width16)

  pub no_place : {p : ℕ} → p ≡ free_at limits16 m → leb 8 p ≡ not (ltb (free_at limits16 m) limits16.slots)
  no_place e = ap₂ leb (sym slots8) e ∙ sym (not_ltb (free_at limits16 m) limits16.slots)

  pub limit : {t : Bool} → t ≡ some_written limits16 W (λ c. leb limits16.greatest_state (m.numbers.reached c))
      → t || leb 4294967295 head.latest ≡ some_written limits16 W (λ c. leb limits16.greatest_state (m.numbers.reached c)) || leb limits16.greatest_number m.latest
  limit e = ap₂ (λ (x : Bool) (y : ℕ). x || leb y head.latest) e (sym greatest_number32)
