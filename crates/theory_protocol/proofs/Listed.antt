-- The list of lost changes that a fix answers, for any limits and any cabinet. Assumes nothing.
use Prim.Native.Nat.{ℕ, suc, ◌+◌, ◌-◌, ◌≤◌, max}
use mathlib.Core.Path.{◌≡◌, sym, subst}
use mathlib.Core.Bool.{true, not, ◌&&◌, ◌||◌}
use mathlib.Core.Logic.{⊎_elim}
use mathlib.Core.List.{List}
use native.Mathlib.Omega.{arith}
use lib.Dec.{eqb}
use borrow.Author.Tests.{eqb-true}
use Rattle.base_laws.specs.Below.{any_below, greatest}
use Rattle.base_laws.proofs.Logic.{and_right, or_elim}
use Rattle.base_laws.proofs.Below.{Found, any_elim, greatest_above}
use Rattle.base_laws.proofs.Order.{those_once, those_rise}
use Rattle.theory_protocol.specs.Model.{Limits, Model}
use Rattle.theory_protocol.specs.Plan.{CardRow, fixed, accepted, Plan}
use Rattle.theory_protocol.specs.Calls.{frame_above, some_frame_above, recovery_line, is_lost, greatest_lost, lost_numbers, card_rows, fix_checks, fix_plan}
use Rattle.theory_protocol.specs.Demands.{ListedRight, ListsRising}
use Rattle.theory_protocol.proofs.Steps.{checked_case}
use Rattle.theory_protocol.proofs.Claims.{not_both}

module _ (L : Limits) (m : Model) where
  -- no lost change is above the bound
  pub lost_below : (k : ℕ) → is_lost L m k ≡ true → k ≤ greatest_lost L m
  lost_below k e = ⊎_elim of_frame of_ended (or_elim (some_frame_above L m k (recovery_line L m)) (any_below L.slots (λ p. eqb (m.ended p) k)) (and_right (not (eqb k 0)) (some_frame_above L m k (recovery_line L m) || any_below L.slots (λ p. eqb (m.ended p) k)) e))
    where
      frames : ℕ → ℕ
      frames c = greatest (m.numbers.reached c - recovery_line L m c) (λ s. m.memory.change c (suc (recovery_line L m c + s)))

      of_frame : some_frame_above L m k (recovery_line L m) ≡ true → k ≤ greatest_lost L m
      of_frame y =
          let f : Found L.width (λ c. m.present c && frame_above m k c (recovery_line L m c)) = any_elim L.width (λ c. m.present c && frame_above m k c (recovery_line L m c)) y in
          let g : Found (m.numbers.reached f.0 - recovery_line L m f.0) (λ s. eqb (m.memory.change f.0 (suc (recovery_line L m f.0 + s))) k) =
          any_elim (m.numbers.reached f.0 - recovery_line L m f.0) (λ s. eqb (m.memory.change f.0 (suc (recovery_line L m f.0 + s))) k) (and_right (m.present f.0) (frame_above m k f.0 (recovery_line L m f.0)) f.2) in
          let a : m.memory.change f.0 (suc (recovery_line L m f.0 + g.0)) ≡ k = eqb-true (m.memory.change f.0 (suc (recovery_line L m f.0 + g.0))) k g.2 in
          let b : m.memory.change f.0 (suc (recovery_line L m f.0 + g.0)) ≤ frames f.0 = greatest_above (m.numbers.reached f.0 - recovery_line L m f.0) (λ s. m.memory.change f.0 (suc (recovery_line L m f.0 + s))) g.0 g.1 in
          let c : frames f.0 ≤ greatest L.width frames = greatest_above L.width frames f.0 f.1 in
          let d : greatest L.width frames ≤ max (greatest L.width frames) (greatest L.slots m.ended) = omega arith in
          omega (arith, a, b, c, d)

      of_ended : any_below L.slots (λ p. eqb (m.ended p) k) ≡ true → k ≤ greatest_lost L m
      of_ended y =
          let f : Found L.slots (λ p. eqb (m.ended p) k) = any_elim L.slots (λ p. eqb (m.ended p) k) y in
          let a : m.ended f.0 ≡ k = eqb-true (m.ended f.0) k f.2 in
          let b : m.ended f.0 ≤ greatest L.slots m.ended = greatest_above L.slots m.ended f.0 f.1 in
          let d : greatest L.slots m.ended ≤ max (greatest L.width frames) (greatest L.slots m.ended) = omega arith in
          omega (arith, a, b, d)

  -- the list rises strictly, and has each lost change once
  pub lost_listed : ListedRight L m (lost_numbers L m)
  lost_listed =
      record {
        once = λ k. those_once (is_lost L m) (suc (greatest_lost L m)) k (λ e. let b : k ≤ greatest_lost L m = lost_below k e in omega arith);
        rise = those_rise (is_lost L m) (suc (greatest_lost L m));
      }

  -- a fix that is accepted lists these
  listed_so : (card_places lost_places : ℕ) (rows : List CardRow) (numbers : List ℕ) → (fix_plan L m card_places lost_places).reply ≡ accepted (fixed rows numbers) → lost_numbers L m ≡ numbers
  listed_so x y rows numbers =
      checked_case (λ (p : Plan). p.reply ≡ accepted (fixed rows numbers) → lost_numbers L m ≡ numbers) (fix_checks L m x y) (fixed (card_rows L m) (lost_numbers L m)) _ (λ r z. not_both (fixed rows numbers) r (sym z)) (λ ps z. cc)

pub lists_rising : ListsRising
lists_rising L m x y rows numbers e = subst (ListedRight L m) (listed_so L m x y rows numbers e) (lost_listed L m)
