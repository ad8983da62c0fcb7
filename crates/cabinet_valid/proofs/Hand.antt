-- The frames in hand are those at the ring's places, where the check for 28 looks. Assumes nothing.
use Prim.Native.Nat.{ℕ, zero, suc, ◌+◌, ◌-◌, ◌<◌}
use mathlib.Core.Path.{◌≡◌, sym, ◌∙◌, ap, ap₂}
use mathlib.Core.Bool.{Bool, true, not, ◌&&◌, ◌||◌, cond}
use mathlib.Core.List.{List}
use native.Mathlib.Omega.{arith}
use lib.Dec.{eqb, leb, ltb}
use borrow.Author.Tests.{lt-ltb, le-leb}
use Rattle.base_laws.specs.Below.{all_below}
use Rattle.base_laws.proofs.Logic.{and_intro}
use Rattle.base_laws.proofs.Fill.{all_same}
use Rattle.theory_history.specs.Vector as history
use Rattle.theory_history.specs.Vector.{no_entries}
use Rattle.theory_history.specs.Change.{CardSet}
use Rattle.theory_protocol.specs.Model.{Memory, StateNumbers, up}
use Rattle.theory_protocol.specs.Valid.{frame_valid, rises_valid, frames_valid, entries_valid, numbers_valid, line_valid, card_valid}
use Rattle.cabinet_layout.specs.declared.Head.{Head}
use Rattle.cabinet_layout.specs.declared.Vector.{Vector}
use Rattle.cabinet_layout.specs.declared.Core.{Core}
use Rattle.cabinet_layout.specs.Shape.{limits16, phase_of, at, present_of, vector_at, ring, ring_change, ring_frame, truncate, numbers_of, part_of, in_hand, change_in_hand, frame_in_hand, model_of, there_valid}
use Rattle.cabinet_layout.proofs.Limits.{width16}
use Rattle.cabinet_numbers.proofs.Tests.{entries_absent}

module _ (entries changes base reached : List ℕ) (last pending : List Vector) where
  -- the frames in hand, as the model has them
  abbrev pub hand_memory : Memory
  hand_memory =
      record {
        last = vector_at last;
        pending = vector_at pending;
        change = change_in_hand changes base reached;
        frame = frame_in_hand entries base reached;
      }

  abbrev pub hand_numbers : StateNumbers
  hand_numbers = record { base = at base; stored = at base; held = at base; reached = at reached }

  in_hand_lem : (c k : ℕ) → k < at reached c - at base c → in_hand base reached c (suc (at base c + k)) ≡ true
  in_hand_lem c k h = and_intro (lt-ltb (at base c) (suc (at base c + k)) (omega arith)) (le-leb (suc (at base c + k)) (at reached c) (omega arith))

  -- entries beyond the width are not looked at
  cut_all : (present : CardSet) (v : history.Vector) → entries_valid limits16 present (truncate v) ≡ entries_valid limits16 present v
  cut_all present v = all_same limits16.width _ _ (λ k h. ap (λ (b : Bool). leb (cond b (v k) 0) (cond (present k) limits16.greatest_state 0)) (lt-ltb k limits16.width h))

  frame_here : (n c x : ℕ) → c < 16 → in_hand base reached c x ≡ true
      → frame_valid limits16 (part_of n up hand_numbers hand_memory 0) c x ≡ frame_valid limits16 (part_of n up hand_numbers (ring entries changes) 0) c x
  frame_here n c x h e =
      ap (λ (b : Bool). not (eqb (cond b (ring_change changes c x) 0) 0) && eqb (cond b (truncate (ring_frame entries c x)) no_entries c) x && entries_valid limits16 (present_of n) (cond b (truncate (ring_frame entries c x)) no_entries)) e
      ∙ ap₂ (λ (y : ℕ) (b : Bool). not (eqb (ring_change changes c x) 0) && eqb y x && b)
      (ap (λ (b : Bool). cond b (ring_frame entries c x c) 0) (lt-ltb c limits16.width (omega (arith, width16))))
      (cut_all (present_of n) (ring_frame entries c x))

  rises_here : (c x : ℕ) → in_hand base reached c x ≡ true → in_hand base reached c (suc x) ≡ true
      → rises_valid limits16 hand_memory c x ≡ rises_valid limits16 (ring entries changes) c x
  rises_here c x e d =
      ap₂ (λ (a b : Bool). ltb (cond a (ring_change changes c x) 0) (cond b (ring_change changes c (suc x)) 0) && all_below limits16.width (λ j. leb (cond a (truncate (ring_frame entries c x)) no_entries j) (cond b (truncate (ring_frame entries c (suc x))) no_entries j))) e d
      ∙ ap (λ (b : Bool). ltb (ring_change changes c x) (ring_change changes c (suc x)) && b)
      (all_same limits16.width _ _ (λ k h. ap (λ (b : Bool). leb (cond b (ring_frame entries c x k) 0) (cond b (ring_frame entries c (suc x) k) 0)) (lt-ltb k limits16.width h)))

  pub frames_in_hand : (n c : ℕ) → c < 16
      → frames_valid limits16 (part_of n up hand_numbers hand_memory 0) c ≡ frames_valid limits16 (part_of n up (numbers_of (at base c) 0 0 (at reached c)) (ring entries changes) 0) c
  frames_in_hand n c b16 = all_same (at reached c - at base c) _ _ each
    where
      each : (k : ℕ) → k < at reached c - at base c
          → frame_valid limits16 (part_of n up hand_numbers hand_memory 0) c (suc (at base c + k)) && (eqb k 0 || rises_valid limits16 hand_memory c (at base c + k))
          ≡ frame_valid limits16 (part_of n up hand_numbers (ring entries changes) 0) c (suc (at base c + k)) && (eqb k 0 || rises_valid limits16 (ring entries changes) c (at base c + k))
      each zero h = ap (λ (b : Bool). b && true) (frame_here n c (suc (at base c + 0)) b16 (in_hand_lem c 0 h))
      each (suc k) h =
          let l : k < at reached c - at base c = omega arith in
          let i : in_hand base reached c (at base c + suc k) ≡ true = ap (λ (x : ℕ). in_hand base reached c x) (let e : at base c + suc k ≡ suc (at base c + k) = omega arith in e) ∙ in_hand_lem c k l in
          ap₂ (λ (a b : Bool). a && (eqb (suc k) 0 || b)) (frame_here n c (suc (at base c + suc k)) b16 (in_hand_lem c (suc k) h)) (rises_here c (at base c + suc k) i (in_hand_lem c (suc k) h))

-- the flags that the check of a card works out, with the cards that its vectors may have entries of
pub card_flags : (h : Head) (c n : ℕ) (last pending : List ℕ) (a b w there : Bool)
    → n ≡ cond (present_of h.cards c) h.cards 0
    → a ≡ entries_valid limits16 (present_of n) (at last)
    → b ≡ entries_valid limits16 (present_of n) (at pending)
    → w ≡ there
    → a && b && (not (present_of h.cards c) || w)
    ≡ entries_valid limits16 (λ j. present_of h.cards c && present_of h.cards j) (at last) && entries_valid limits16 (λ j. present_of h.cards c && present_of h.cards j) (at pending) && (not (present_of h.cards c) || there)
card_flags h c n last pending a b w there en ea eb ew =
    let seen : (v : history.Vector) → entries_valid limits16 (present_of n) v ≡ entries_valid limits16 (λ j. present_of h.cards c && present_of h.cards j) v =
    λ v. ap (λ (k : ℕ). entries_valid limits16 (present_of k) v) en ∙ entries_absent (present_of h.cards c) h.cards v in
    ap₂ (λ (x y : Bool). x && y) (ap₂ (λ (x y : Bool). x && y) (ea ∙ seen (at last)) (eb ∙ seen (at pending))) (ap (λ (x : Bool). not (present_of h.cards c) || x) ew)

-- what the check of a card says of its elements is what the definition says of the card
pub card_whole : (entries changes : List ℕ) (s : Core) (c : ℕ) (found : Bool)
    → c < 16
    → found
    ≡ entries_valid limits16 (λ j. present_of s.head.cards c && present_of s.head.cards j) (vector_at s.last c) && entries_valid limits16 (λ j. present_of s.head.cards c && present_of s.head.cards j) (vector_at s.pending c)
    && (not (present_of s.head.cards c) || there_valid (part_of s.head.cards (phase_of s.head.phase) (numbers_of (at s.base c) (at s.stored c) (at s.held c) (at s.reached c)) (ring entries changes) (at s.line c)) c)
    → found ≡ card_valid limits16 (model_of entries changes s) c
card_whole entries changes s c found b16 e =
    e
    ∙ ap (λ (x : Bool). entries_valid limits16 (λ j. present_of s.head.cards c && present_of s.head.cards j) (vector_at s.last c) && entries_valid limits16 (λ j. present_of s.head.cards c && present_of s.head.cards j) (vector_at s.pending c)
    && (not (present_of s.head.cards c) || (numbers_valid limits16 (numbers_of (at s.base c) (at s.stored c) (at s.held c) (at s.reached c)) c && line_valid (part_of s.head.cards (phase_of s.head.phase) (numbers_of (at s.base c) (at s.stored c) (at s.held c) (at s.reached c)) (ring entries changes) (at s.line c)) c && x)))
    (sym (frames_in_hand entries changes s.base s.reached s.last s.pending s.head.cards c b16))
