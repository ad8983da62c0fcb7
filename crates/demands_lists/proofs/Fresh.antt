-- A fresh cabinet shows the fresh model. Assumes nothing.
use Prim.Native.Nat.{ℕ, ◌+◌, ◌*◌}
use mathlib.Core.Path.{◌≡◌, refl, ◌∙◌, ap}
use mathlib.Core.Bool.{Bool, true, false, cond}
use mathlib.Core.List.{List, []}
use mathlib.Core.Logic.{by_cases}
use native.Mathlib.Decide.{dec_lt}
use native.Mathlib.Omega.{arith}
use lib.Dec.{ltb}
use lib.ListN.{get_or, replicate, length-replicate, get_or-replicate, get_or-eq_default}
use Rattle.base_limits.specs.Ring.{ring_place}
use Rattle.theory_history.specs.Vector.{no_entries}
use Rattle.theory_protocol.specs.Model.{free_slot}
use Rattle.theory_protocol.specs.Edit as edit
use Rattle.theory_protocol.specs.Calls.{fresh_model}
use Rattle.cabinet_layout.specs.declared.Vector.{Vector}
use Rattle.cabinet_layout.specs.Shape.{limits16, at, vector_at, open_of, open_at, slot_for, in_hand, change_in_hand, frame_in_hand, empty_slot}
use Rattle.cabinet.specs.View.{view}
use Rattle.cabinet.specs.Fresh.{zero_cabinet, fresh_head}
use Rattle.cabinet_layout.proofs.Held.{no_members, open_back, free_fits, no_slot}
use Rattle.demands_lists.proofs.Lengths.{zero_sized}
use Rattle.demands_lists.proofs.Laws.{Shows}

-- every place of a list of n times a shows f of a, and so do the places beyond it
replicated : {A B : Type 0} (n : ℕ) (a d : A) (f : A → B) (b : B) → f a ≡ b → f d ≡ b → (i : ℕ) → f (get_or (replicate n a) i d) ≡ b
replicated n a d f b h g i =
    by_cases (dec_lt i n) (λ l. ap f (get_or-replicate n i a d l) ∙ h)
    (λ l. ap f (get_or-eq_default (replicate n a) d (omega (arith, l, length-replicate n a))) ∙ g)

pub zeros : (n i : ℕ) → at (replicate n 0) i ≡ 0
zeros n i = replicated n 0 0 (λ x. x) 0 refl refl i

vectors : vector_at (replicate 16 (record { entries = replicate 16 0 })) ≡ (λ c. no_entries)
vectors = λ i c. replicated 16 (record { entries = replicate 16 0 }) (record { entries = [] }) (λ (v : Vector). at v.entries) no_entries (λ j k. zeros 16 k j) refl c i

slots : open_at (replicate 8 (slot_for free_slot)) ≡ (λ p. free_slot)
slots = λ i p. replicated 8 (slot_for free_slot) empty_slot open_of free_slot (open_back free_slot free_fits) no_slot p i

either_none : {A : Type 0} (b : Bool) (x z : A) → x ≡ z → cond b x z ≡ z
either_none true x z e = e
either_none false x z e = refl

changes : (base reached : List ℕ) → change_in_hand (replicate 768 0) base reached ≡ (λ c x. 0)
changes base reached = λ i c x. either_none (in_hand base reached c x) (at (replicate 768 0) (ring_place c x)) 0 (zeros 768 (ring_place c x)) i

frames : (base reached : List ℕ) → frame_in_hand (replicate 12288 0) base reached ≡ (λ c x. no_entries)
frames base reached = λ i c x. either_none (in_hand base reached c x) (λ j. cond (ltb j limits16.width) (at (replicate 12288 0) (ring_place c x * 16 + j)) 0) no_entries (λ k j. either_none (ltb j limits16.width) (at (replicate 12288 0) (ring_place c x * 16 + j)) 0 (zeros 12288 (ring_place c x * 16 + j)) k) i

fresh_view : (n : ℕ) → view (zero_cabinet (fresh_head n)) ≡ fresh_model (λ c. ltb c n)
fresh_view n =
    λ i. edit.with_writing
    (edit.with_line
    (edit.with_slots
    (edit.with_numbers (fresh_model (λ c. ltb c n))
    (record { base = λ c. zeros 16 c i; stored = λ c. zeros 16 c i; held = λ c. zeros 16 c i; reached = λ c. zeros 16 c i })
    (record { last = vectors i; pending = vectors i; change = changes (replicate 16 0) (replicate 16 0) i; frame = frames (replicate 16 0) (replicate 16 0) i }))
    (slots i) (λ p. zeros 8 p i))
    (λ c. zeros 16 c i) (no_members i))
    (λ c. zeros 16 c i)

pub fresh_shows : (n : ℕ) → Shows (fresh_model (λ c. ltb c n)) (zero_cabinet (fresh_head n))
fresh_shows n =
    record { same = fresh_view n; sized = zero_sized (fresh_head n); narrow = record { slots = λ p. free_fits; last = λ c k h. refl; pending = λ c k h. refl } }
