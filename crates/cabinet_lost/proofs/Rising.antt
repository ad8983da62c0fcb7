-- In a cabinet that passes 28 the change numbers of each card rise with its states. Assumes nothing.
use Prim.Native.Nat.{ℕ, suc, ◌≤◌, ◌<◌}
use mathlib.Core.Path.{◌≡◌, ◌∙◌}
use mathlib.Core.Bool.{true, cond}
use mathlib.Core.List.{List}
use native.Mathlib.Omega.{arith}
use lib.Dec.{ltb}
use borrow.Author.Tests.{lt-ltb, le-leb}
use Rattle.base_laws.proofs.Logic.{test, and_intro, cond_true, cond_false}
use Rattle.base_merge.specs.Merge.{change_at, ends_of, CardRises, Rises}
use Rattle.base_merge.proofs.Head.{end_at}
use Rattle.theory_protocol.specs.Model.{Model}
use Rattle.theory_protocol.specs.Valid.{valid}
use Rattle.cabinet_layout.specs.declared.Core.{Core}
use Rattle.cabinet_layout.specs.Shape.{limits16, at, ring_change, change_in_hand, model_of}
use Rattle.cabinet_plans.proofs.Known.{valid_card}

module _ (entries changes : List ℕ) (core : Core) where
  abbrev m : Model
  m = model_of entries changes core

  module _ (e : valid limits16 m ≡ true) where
    module _ (c : ℕ) (below : c < 16) (p : ltb c core.head.cards ≡ true) where
      -- a state in hand shows the change that the ring holds
      shown : (x : ℕ) → at core.base c < x → x ≤ at core.reached c → change_in_hand changes core.base core.reached c x ≡ change_at changes c x
      shown x a b = cond_true (ring_change changes c x) 0 (and_intro (lt-ltb (at core.base c) x a) (le-leb x (at core.reached c) b))

      some_at : (x : ℕ) → at core.base c < x → x ≤ at core.reached c → 0 < change_at changes c x
      some_at x a b =
          let g : change_at changes c x ≡ 0 → ⊥ = λ (z : change_at changes c x ≡ 0). ((valid_card m e c below p).frame x a b).numbered (shown x a b ∙ z) in
          omega (arith, g)

      next_at : (x : ℕ) → at core.base c < x → x < at core.reached c → change_at changes c x < change_at changes c (suc x)
      next_at x a b = omega (arith, ((valid_card m e c below p).rises x a b).changes, shown x a (omega arith), shown (suc x) (omega arith) (omega arith))

    pub valid_rises : Rises changes core.base (ends_of core.reached core.head.cards)
    valid_rises = record { card = each }
      where
        each : (c : ℕ) → c < 16 → CardRises (change_at changes c) (at core.base c) (at (ends_of core.reached core.head.cards) c)
        each c below =
            let q : at (ends_of core.reached core.head.cards) c ≡ cond (ltb c core.head.cards) (at core.reached c) 0 = end_at core.reached core.head.cards c below in
            test (ltb c core.head.cards)
            (λ t.
            let z : at (ends_of core.reached core.head.cards) c ≡ at core.reached c = q ∙ cond_true (at core.reached c) 0 t in
            record { some = λ x a b. some_at c below t x a (omega arith); next = λ x a b. next_at c below t x a (omega arith) })
            (λ t.
            let z : at (ends_of core.reached core.head.cards) c ≡ 0 = q ∙ cond_false (at core.reached c) 0 t in
            record { some = λ x a b. absurd (omega arith); next = λ x a b. absurd (omega arith) })
