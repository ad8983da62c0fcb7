-- Frames of a change above some numbers, and above the line, as the lists of a cabinet have them and as the model has them. Assumes nothing.
use Prim.Native.Nat.{ℕ, suc, ◌+◌, ◌-◌, ◌≤◌, ◌<◌}
use mathlib.Core.Path.{◌≡◌, refl, sym, ◌∙◌, ap, ap₂, subst}
use mathlib.Core.Bool.{Bool, true, not, ◌&&◌, ◌||◌, cond}
use mathlib.Core.List.{List}
use native.Mathlib.Nat.{le_refl}
use native.Mathlib.Omega.{arith}
use lib.Dec.{eqb, ltb}
use borrow.Author.Tests.{lt-ltb, le-leb}
use Rattle.base_laws.specs.Below.{any_below}
use Rattle.base_laws.proofs.Logic.{test, and_intro, cond_true, cond_case}
use Rattle.base_laws.proofs.Below.{any_same}
use Rattle.theory_history.specs.Change.{Numbers}
use Rattle.theory_history.specs.Line.{orphan}
use Rattle.theory_history.proofs.Climb.{climbed}
use Rattle.theory_protocol.specs.Model.{Model, is_card}
use Rattle.theory_protocol.specs.Calls.{lines, recovery_line, is_lost, frame_above, some_frame_above}
use Rattle.cabinet_layout.specs.declared.Core.{Core}
use Rattle.cabinet_layout.specs.Shape.{limits16, at, list_of, ring_change, in_hand, change_in_hand, model_of}
use Rattle.cabinet_layout.proofs.Limits.{width16, slots8}
use Rattle.cabinet_layout.proofs.Held.{at_list}
use Rattle.cabinet_listing.specs.Lost.{framed_by, some_framed, lost_by}

module _ (entries changes : List ℕ) (core : Core) where
  abbrev pub found : Model
  found = model_of entries changes core

  abbrev pub found_line : List ℕ
  found_line = list_of (lines limits16 found)

  frames_same : (k c x : ℕ) → at core.base c ≤ x → framed_by changes c x (at core.reached c) k ≡ frame_above found k c x
  frames_same k c x b = any_same (at core.reached c - x) (λ s. eqb (ring_change changes c (suc (x + s))) k) (λ s. eqb (change_in_hand changes core.base core.reached c (suc (x + s))) k) each
    where
      each : (s : ℕ) → s < at core.reached c - x → eqb (ring_change changes c (suc (x + s))) k ≡ eqb (change_in_hand changes core.base core.reached c (suc (x + s))) k
      each s l =
          let e : in_hand core.base core.reached c (suc (x + s)) ≡ true = and_intro (lt-ltb (at core.base c) (suc (x + s)) (omega arith)) (le-leb (suc (x + s)) (at core.reached c) (omega arith)) in
          ap (λ (b : Bool). eqb (cond b (ring_change changes c (suc (x + s))) 0) k) (sym e)

  -- above numbers that are not below base
  framed_same : (numbers : List ℕ) (x : Numbers) → ((c : ℕ) → c < 16 → ltb c core.head.cards ≡ true → at numbers c ≡ x c) → ((c : ℕ) → at core.base c ≤ x c) → (k : ℕ)
      → some_framed changes numbers core.reached core.head.cards k ≡ some_frame_above limits16 found k x
  framed_same numbers x e b k =
      any_same 16 (λ c. ltb c core.head.cards && framed_by changes c (at numbers c) (at core.reached c) k) (λ c. ltb c core.head.cards && frame_above found k c (x c)) each
      ∙ ap (λ (w : ℕ). any_below w (λ c. ltb c core.head.cards && frame_above found k c (x c))) (sym width16)
    where
      each : (c : ℕ) → c < 16 → ltb c core.head.cards && framed_by changes c (at numbers c) (at core.reached c) k ≡ ltb c core.head.cards && frame_above found k c (x c)
      each c l =
          test (ltb c core.head.cards)
          (λ t. ap (λ (y : ℕ). ltb c core.head.cards && framed_by changes c y (at core.reached c) k) (e c l t) ∙ ap (λ (f : Bool). ltb c core.head.cards && f) (frames_same k c (x c) (b c)))
          (λ t. rw t)

  pub framed_base : (k : ℕ) (b : Bool) → b ≡ some_framed changes core.base core.reached core.head.cards k → b ≡ some_frame_above limits16 found k (at core.base)
  framed_base k b e = e ∙ framed_same core.base (at core.base) (λ c l t. refl) (λ c. le_refl (at core.base c)) k

  -- ---- the line is at or above base
  base_line : (c : ℕ) → at core.base c ≤ recovery_line limits16 found c
  base_line c = (climbed (λ (x : ℕ). orphan limits16.width found.numbers.stored (found.memory.frame c x)) (at core.base c) (at core.reached c - at core.base c)).from_base

  pub line_at : (c : ℕ) → c < 16 → ltb c core.head.cards ≡ true → at found_line c ≡ recovery_line limits16 found c
  line_at c l t =
      at_list (lines limits16 found) c l
      ∙ cond_true (recovery_line limits16 found c) (at core.base c) (and_intro (lt-ltb c limits16.width (omega (arith, width16))) t)

  pub line_above : (c : ℕ) → c < 16 → at core.base c ≤ at found_line c
  line_above c l =
      subst (λ (x : ℕ). at core.base c ≤ x) (sym (at_list (lines limits16 found) c l))
      (cond_case (λ (x : ℕ). at core.base c ≤ x) (is_card limits16 found c) (λ e. base_line c) (λ e. le_refl (at core.base c)))

  pub framed_line : (k : ℕ) → some_framed changes found_line core.reached core.head.cards k ≡ some_frame_above limits16 found k (recovery_line limits16 found)
  framed_line = framed_same found_line (recovery_line limits16 found) line_at base_line

  -- ---- the changes lost
  pub lost_same : (k : ℕ) → lost_by changes found_line core.reached core.ended core.head.cards k ≡ is_lost limits16 found k
  lost_same k =
      ap₂ (λ (a b : Bool). not (eqb k 0) && (a || b)) (framed_line k) (ap (λ (w : ℕ). any_below w (λ p. eqb (at core.ended p) k)) (sym slots8))
