-- The law of an append: the ring shows the new frame at its state, and every other frame in hand as it was. Assumes nothing.
use Prim.Native.Nat.{ℕ, suc, ◌+◌, ◌*◌, ◌≤◌, ◌<◌}
use mathlib.Core.Path.{◌≡◌, refl, sym, ◌∙◌, ap, ap₂}
use mathlib.Core.Bool.{Bool, true, false, ◌&&◌, cond}
use mathlib.Core.List.{List, []}
use mathlib.Core.Logic.{◌⊎◌, inl, inr, by_cases}
use native.Mathlib.Decide.{dec_lt, ℕ_discrete}
use native.Mathlib.Omega.{arith}
use lib.Dec.{eqb, leb, ltb}
use lib.ListN.{length, set}
use lib.Seq.{sets, get_or-set_same, get_or-set_other}
use borrow.Author.Tests.{eq-eqb, ne_eqb, lt-ltb, le-ltb, le-leb, ltb-true, leb-true}
use Rattle.base_limits.specs.Ring.{ring_place}
use Rattle.base_laws.proofs.Logic.{test, and_left, and_right, and_intro, same_test}
use Rattle.base_laws.proofs.Seq.{sets_outside, sets_inside}
use Rattle.base_laws.proofs.Fill.{length_tabulate}
use Rattle.theory_history.specs.Vector.{no_entries}
use Rattle.theory_history.specs.Vector as history
use Rattle.theory_protocol.specs.Edit.{put, edited}
use Rattle.theory_protocol.specs.Edit as edit
use Rattle.cabinet_layout.specs.declared.Vector.{Vector}
use Rattle.cabinet_layout.specs.Shape.{limits16, at, vector_at, ring_change, ring_frame, truncate, in_hand, change_in_hand, frame_in_hand, vector_for, list_of}
use Rattle.cabinet_layout.proofs.Limits.{width16}
use Rattle.cabinet_layout.proofs.Held.{at_list, at_list_all}
use Rattle.cabinet.specs.declared.Cabinet.{Cabinet}
use Rattle.cabinet.specs.View.{view}
use Rattle.cabinet.specs.Apply.{apply}
use Rattle.cabinet.proofs.Laws.{shown_set, at_set}

-- ---- the ring
places_apart : (d y c x : ℕ) → ¬ (d ≡ c) → ¬ (ring_place d y ≡ ring_place c x)
places_apart d y c x h e = h (omega arith)

states_apart : (c y x : ℕ) → y < x → x < y + 48 → ¬ (ring_place c y ≡ ring_place c x)
states_apart c y x h g e = omega arith

-- what is in hand after an append, of whatever the ring holds for a state
module _ {A : Type 0} (base reached : List ℕ) (c : ℕ) (long : c < length reached) (low : at base c ≤ at reached c) (room : at reached c < at base c + 48)
    (old new : ℕ → ℕ → A) (z a : A) (new-here : new c (suc (at reached c)) ≡ a)
    (new-other : (d y : ℕ) → ¬ (ring_place d y ≡ ring_place c (suc (at reached c))) → new d y ≡ old d y) where
  here_now : at (set reached c (suc (at reached c))) c ≡ suc (at reached c)
  here_now = get_or-set_same reached c (suc (at reached c)) 0 long

  other_card : (d y : ℕ) → ¬ (d ≡ c)
      → cond (in_hand base (set reached c (suc (at reached c))) d y) (new d y) z ≡ cond (in_hand base reached d y) (old d y) z
  other_card d y h =
      ap₂ (λ (r : ℕ) (x : A). cond (ltb (at base d) y && leb y r) x z) (get_or-set_other reached c d (suc (at reached c)) 0 h) (new-other d y (places_apart d y c (suc (at reached c)) h))

  same_hand : (y : ℕ) → ¬ (y ≡ suc (at reached c)) → leb y (suc (at reached c)) ≡ leb y (at reached c)
  same_hand y h =
      same_test (leb y (suc (at reached c))) (leb y (at reached c))
      (λ e. let l : y ≤ suc (at reached c) = leb-true y (suc (at reached c)) e in by_cases (dec_lt (at reached c) y) (λ g. absurd (h (omega arith))) (λ g. le-leb y (at reached c) (omega (arith, g))))
      (λ e. let l : y ≤ at reached c = leb-true y (at reached c) e in le-leb y (suc (at reached c)) (omega arith))

  new_state : (y : ℕ) → y ≡ suc (at reached c)
      → cond (in_hand base (set reached c (suc (at reached c))) c y) (new c y) z ≡ cond (eqb y (suc (at reached c))) a (cond (in_hand base reached c y) (old c y) z)
  new_state y q =
      let r : at (set reached c (suc (at reached c))) c ≡ suc (at reached c) = here_now in
      let i : in_hand base (set reached c (suc (at reached c))) c y ≡ true =
      and_intro (lt-ltb (at base c) y (omega arith)) (le-leb y (at (set reached c (suc (at reached c))) c) (omega arith)) in
      ap (λ (b : Bool). cond b (new c y) z) i ∙ ap (new c) q ∙ new-here
      ∙ sym (ap (λ (b : Bool). cond b a (cond (in_hand base reached c y) (old c y) z)) (eq-eqb y (suc (at reached c)) q))

  old_state : (y : ℕ) → ¬ (y ≡ suc (at reached c))
      → cond (in_hand base (set reached c (suc (at reached c))) c y) (new c y) z ≡ cond (eqb y (suc (at reached c))) a (cond (in_hand base reached c y) (old c y) z)
  old_state y h =
      let i : in_hand base (set reached c (suc (at reached c))) c y ≡ in_hand base reached c y =
      ap (λ (b : Bool). ltb (at base c) y && b) (ap (λ (r : ℕ). leb y r) here_now ∙ same_hand y h) in
      ap (λ (b : Bool). cond b (new c y) z) i
      ∙ test (in_hand base reached c y) (kept (in_hand base reached c y) refl) (lacking (in_hand base reached c y))
      ∙ sym (ap (λ (b : Bool). cond b a (cond (in_hand base reached c y) (old c y) z)) (ne_eqb y (suc (at reached c)) h))
    where
      kept : (b : Bool) → in_hand base reached c y ≡ b → b ≡ true → cond b (new c y) z ≡ cond b (old c y) z
      kept b q e =
          let l : at base c < y = ltb-true (at base c) y (and_left (ltb (at base c) y) (leb y (at reached c)) (q ∙ e)) in
          let g : y ≤ at reached c = leb-true y (at reached c) (and_right (ltb (at base c) y) (leb y (at reached c)) (q ∙ e)) in
          ap (λ (x : A). cond b x z) (new-other c y (states_apart c y (suc (at reached c)) (omega arith) (omega arith)))

      lacking : (b : Bool) → b ≡ false → cond b (new c y) z ≡ cond b (old c y) z
      lacking b e = rw e

  pub in_hand_after : (λ (d y : ℕ). cond (in_hand base (set reached c (suc (at reached c))) d y) (new d y) z)
      ≡ put (λ d y. cond (in_hand base reached d y) (old d y) z) c (put (λ y. cond (in_hand base reached c y) (old c y) z) (suc (at reached c)) a)
  in_hand_after = λ i d y. by_cases (ℕ_discrete d c) (of_card d y) (of_other d y) i
    where
      of_card : (d y : ℕ) → d ≡ c
          → cond (in_hand base (set reached c (suc (at reached c))) d y) (new d y) z
          ≡ cond (eqb d c) (put (λ y. cond (in_hand base reached c y) (old c y) z) (suc (at reached c)) a) (λ y. cond (in_hand base reached d y) (old d y) z) y
      of_card d y q =
          ap (λ (e : ℕ). cond (in_hand base (set reached c (suc (at reached c))) e y) (new e y) z) q
          ∙ by_cases (ℕ_discrete y (suc (at reached c))) (new_state y) (old_state y)
          ∙ sym (ap (λ (b : Bool). cond b (put (λ y. cond (in_hand base reached c y) (old c y) z) (suc (at reached c)) a) (λ y. cond (in_hand base reached d y) (old d y) z) y) (eq-eqb d c q))

      of_other : (d y : ℕ) → ¬ (d ≡ c)
          → cond (in_hand base (set reached c (suc (at reached c))) d y) (new d y) z
          ≡ cond (eqb d c) (put (λ y. cond (in_hand base reached c y) (old c y) z) (suc (at reached c)) a) (λ y. cond (in_hand base reached d y) (old d y) z) y
      of_other d y h =
          other_card d y h
          ∙ sym (ap (λ (b : Bool). cond b (put (λ y. cond (in_hand base reached c y) (old c y) z) (suc (at reached c)) a) (λ y. cond (in_hand base reached d y) (old d y) z) y) (ne_eqb d c h))

-- what the law of an append asks: lists of their lengths, room for one state more, and a vector of the width
pub record Grows (s : Cabinet) (c : ℕ) (v : history.Vector) : Type 0 where
  pub card : c < 16
  pub entries : length s.entries ≡ 12288
  pub changes : length s.changes ≡ 768
  pub last : length s.core.last ≡ 16
  pub pending : length s.core.pending ≡ 16
  pub held : length s.core.held ≡ 16
  pub reached : length s.core.reached ≡ 16
  pub low : at s.core.base c ≤ at s.core.reached c
  pub room : at s.core.reached c < at s.core.base c + 48
  pub vector : (k : ℕ) → 16 ≤ k → v k ≡ 0

module _ (s : Cabinet) (c k : ℕ) (v : history.Vector) (g : Grows s c v) where
  abbrev x : ℕ
  x = suc (at s.core.reached c)

  abbrev from : ℕ
  from = ring_place c x * 16

  listed : length (list_of v) ≡ 16
  listed = length_tabulate limits16.width v ∙ width16

  frame_here : truncate (ring_frame (sets s.entries from (list_of v)) c x) ≡ v
  frame_here = λ i j. by_cases (dec_lt j 16) (inside j) (outside j) i
    where
      inside : (j : ℕ) → j < 16 → truncate (ring_frame (sets s.entries from (list_of v)) c x) j ≡ v j
      inside j h =
          ap (λ (b : Bool). cond b (at (sets s.entries from (list_of v)) (from + j)) 0) (lt-ltb j limits16.width (omega (arith, width16)))
          ∙ sets_inside (list_of v) s.entries from j 0 (omega (arith, listed, g.entries, g.card)) (omega (arith, listed)) ∙ at_list v j h

      outside : (j : ℕ) → ¬ (j < 16) → truncate (ring_frame (sets s.entries from (list_of v)) c x) j ≡ v j
      outside j h =
          ap (λ (b : Bool). cond b (at (sets s.entries from (list_of v)) (from + j)) 0) (le-ltb j limits16.width (omega (arith, width16, h)))
          ∙ sym (g.vector j (omega (arith, h)))

  frame_other : (d y : ℕ) → ¬ (ring_place d y ≡ ring_place c x)
      → truncate (ring_frame (sets s.entries from (list_of v)) d y) ≡ truncate (ring_frame s.entries d y)
  frame_other d y h = λ i j. by_cases (dec_lt j 16) (inside j) (outside j) i
    where
      apart : (j : ℕ) → j < 16 → (ring_place d y * 16 + j < from) ⊎ (from + length (list_of v) ≤ ring_place d y * 16 + j)
      apart j l =
          by_cases (dec_lt (ring_place d y) (ring_place c x)) (λ b. inl (omega arith))
          (λ b. by_cases (dec_lt (ring_place c x) (ring_place d y)) (λ b'. inr (omega (arith, listed))) (λ b'. absurd (h (omega (arith, b, b')))))

      inside : (j : ℕ) → j < 16 → truncate (ring_frame (sets s.entries from (list_of v)) d y) j ≡ truncate (ring_frame s.entries d y) j
      inside j l = ap (λ (e : ℕ). cond (ltb j limits16.width) e 0) (sets_outside (list_of v) s.entries from (ring_place d y * 16 + j) 0 (apart j l))

      outside : (j : ℕ) → ¬ (j < 16) → truncate (ring_frame (sets s.entries from (list_of v)) d y) j ≡ truncate (ring_frame s.entries d y) j
      outside j l =
          ap (λ (b : Bool). cond b (at (sets s.entries from (list_of v)) (ring_place d y * 16 + j)) 0) (le-ltb j limits16.width (omega (arith, width16, l)))
          ∙ sym (ap (λ (b : Bool). cond b (at s.entries (ring_place d y * 16 + j)) 0) (le-ltb j limits16.width (omega (arith, width16, l))))

  frames : frame_in_hand (sets s.entries from (list_of v)) s.core.base (set s.core.reached c x)
      ≡ put (frame_in_hand s.entries s.core.base s.core.reached) c (put (frame_in_hand s.entries s.core.base s.core.reached c) x v)
  frames =
      in_hand_after s.core.base s.core.reached c (omega (arith, g.reached, g.card)) g.low g.room
      (λ d y. truncate (ring_frame s.entries d y)) (λ d y. truncate (ring_frame (sets s.entries from (list_of v)) d y)) no_entries v frame_here frame_other

  makes : change_in_hand (set s.changes (ring_place c x) k) s.core.base (set s.core.reached c x)
      ≡ put (change_in_hand s.changes s.core.base s.core.reached) c (put (change_in_hand s.changes s.core.base s.core.reached c) x k)
  makes =
      in_hand_after s.core.base s.core.reached c (omega (arith, g.reached, g.card)) g.low g.room
      (ring_change s.changes) (ring_change (set s.changes (ring_place c x) k)) 0 k
      (get_or-set_same s.changes (ring_place c x) k 0 (omega (arith, g.changes, g.card)))
      (λ d y h. get_or-set_other s.changes (ring_place c x) (ring_place d y) k 0 h)

  lists : (l : List Vector) → length l ≡ 16 → vector_at (set l c (vector_for v)) ≡ put (vector_at l) c v
  lists l e =
      shown_set (record { entries = [] }) (λ (w : Vector). at w.entries) l c (vector_for v) (omega (arith, e, g.card))
      ∙ ap (λ (q : history.Vector). put (vector_at l) c q) (at_list_all v g.vector)

  pub grow_law : view (apply (edit.grow c k v) s) ≡ edited limits16 (edit.grow c k v) (view s)
  grow_law =
      λ i. edit.with_numbers (view s)
      (record {
        base = at s.core.base;
        stored = at s.core.stored;
        held = at_set s.core.held c x (omega (arith, g.held, g.card)) i;
        reached = at_set s.core.reached c x (omega (arith, g.reached, g.card)) i;
      })
      (record { last = lists s.core.last g.last i; pending = lists s.core.pending g.pending i; change = makes i; frame = frames i })
