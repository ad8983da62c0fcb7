-- The law of each edit: on a cabinet whose lists have their lengths, the view of what was applied is the edited view. Assumes nothing.
use Prim.Native.Nat.{ℕ, suc, max, ◌≤◌, ◌<◌}
use mathlib.Core.Path.{◌≡◌, refl, sym, ◌∙◌, ap}
use mathlib.Core.Bool.{Bool, true, false, cond}
use mathlib.Core.List.{List, []}
use mathlib.Core.Logic.{by_cases}
use native.Mathlib.Decide.{dec_lt, ℕ_discrete}
use native.Mathlib.Omega.{arith}
use lib.ListN.{length, get_or, set, get_or-eq_default}
use lib.Seq.{get_or-set_same, get_or-set_other}
use borrow.Author.Tests.{eq-eqb, ne_eqb}
use Rattle.base_laws.specs.Below.{tabulate}
use Rattle.base_laws.proofs.Fill.{length_tabulate, get_d_tabulate}
use Rattle.theory_history.specs.Change.{CardSet, Numbers}
use Rattle.theory_history.specs.Vector.{no_entries}
use Rattle.theory_history.specs.Vector as history
use Rattle.theory_protocol.specs.Model.{Model, OpenChange, free_slot, no_cards}
use Rattle.theory_protocol.specs.Edit.{put, edited, remembered}
use Rattle.theory_protocol.specs.Edit as edit
use Rattle.cabinet_layout.specs.declared.Slot.{Slot}
use Rattle.cabinet_layout.specs.declared.Vector.{Vector}
use Rattle.cabinet_layout.specs.Shape.{limits16, at, vector_at, open_of, open_at, slot_for, vector_for, empty_slot}
use Rattle.cabinet_layout.proofs.Limits.{width16, slots8}
use Rattle.cabinet_layout.proofs.Held.{at_list_all, member_set, Fits, open_back, free_fits, no_slot}
use Rattle.cabinet.specs.declared.Cabinet.{Cabinet}
use Rattle.cabinet.specs.View.{view}
use Rattle.cabinet.specs.Apply.{apply}

-- ---- lists as functions of the index
-- what a list shows after a store, seen through f
pub shown_set : {A B : Type 0} (d : A) (f : A → B) (l : List A) (i : ℕ) (v : A) → i < length l → (λ (k : ℕ). f (get_or (set l i v) k d)) ≡ put (λ k. f (get_or l k d)) i (f v)
shown_set d f l i v h = λ x k. each k x
  where
    here : (k : ℕ) → k ≡ i → f (get_or (set l i v) k d) ≡ put (λ k. f (get_or l k d)) i (f v) k
    here k q =
        ap (λ (j : ℕ). f (get_or (set l i v) j d)) q ∙ ap f (get_or-set_same l i v d h)
        ∙ sym (ap (λ (b : Bool). cond b (f v) (f (get_or l k d))) (eq-eqb k i q))

    other : (k : ℕ) → ¬ (k ≡ i) → f (get_or (set l i v) k d) ≡ put (λ k. f (get_or l k d)) i (f v) k
    other k q = ap f (get_or-set_other l i k v d q) ∙ sym (ap (λ (b : Bool). cond b (f v) (f (get_or l k d))) (ne_eqb k i q))

    each : (k : ℕ) → f (get_or (set l i v) k d) ≡ put (λ k. f (get_or l k d)) i (f v) k
    each k = by_cases (ℕ_discrete k i) (here k) (other k)

pub at_set : (l : List ℕ) (i v : ℕ) → i < length l → at (set l i v) ≡ put (at l) i v
at_set l i v h = shown_set 0 (λ x. x) l i v h

-- ---- the laws
pub keep_law : (s : Cabinet) (c x : ℕ) → c < length s.core.stored → view (apply (edit.keep c x) s) ≡ edited limits16 (edit.keep c x) (view s)
keep_law s c x h = ap (λ (f : Numbers). edit.with_numbers (view s) (record { base = at s.core.base; stored = f; held = at s.core.held; reached = at s.core.reached }) (view s).memory) (at_set s.core.stored c x h)

pub begin_law : (s : Cabinet) (c x : ℕ) → c < length s.core.writing → view (apply (edit.begin c x) s) ≡ edited limits16 (edit.begin c x) (view s)
begin_law s c x h = ap (λ (f : Numbers). edit.with_writing (view s) f) (at_set s.core.writing c (suc x) h)

pub end_law : (s : Cabinet) (c x : ℕ) → c < length s.core.stored → c < length s.core.held → c < length s.core.writing → view (apply (edit.end c x) s) ≡ edited limits16 (edit.end c x) (view s)
end_law s c x hs hh hw =
    λ i. edit.with_writing
    (edit.with_numbers (view s)
    (record {
      base = at s.core.base;
      stored = at_set s.core.stored c x hs i;
      held = at_set s.core.held c (max (at s.core.held c) x) hh i;
      reached = at s.core.reached;
    })
    (view s).memory)
    (at_set s.core.writing c 0 hw i)

pub count_law : (s : Cabinet) (k : ℕ) → view (apply (edit.latest k) s) ≡ edited limits16 (edit.latest k) (view s)
count_law s k = refl

pub place_law : (s : Cabinet) (p : ℕ) (o : OpenChange) → p < length s.core.slots → Fits o → view (apply (edit.place p o) s) ≡ edited limits16 (edit.place p o) (view s)
place_law s p o h f =
    ap (λ (g : ℕ → OpenChange). edit.with_slots (view s) g (view s).ended) (shown_set empty_slot open_of s.core.slots p (slot_for o) h ∙ ap (λ (q : OpenChange). put (open_at s.core.slots) p q) (open_back o f))

-- a vector read back from the list of 16 that holds it
pub raise_law : (s : Cabinet) (c : ℕ) (v : history.Vector) → c < length s.core.pending → ((k : ℕ) → 16 ≤ k → history.joined (vector_at s.core.pending c) v k ≡ 0)
    → view (apply (edit.raise c v) s) ≡ edited limits16 (edit.raise c v) (view s)
raise_law s c v h z =
    ap (λ (g : ℕ → history.Vector). edit.with_memory (view s) (record { last = (view s).memory.last; pending = g; change = (view s).memory.change; frame = (view s).memory.frame }))
    (shown_set (record { entries = [] }) (λ (x : Vector). at x.entries) s.core.pending c (vector_for (history.joined (vector_at s.core.pending c) v)) h
    ∙ ap (λ (q : history.Vector). put (vector_at s.core.pending) c q) (at_list_all (history.joined (vector_at s.core.pending c) v) z))

-- numbers of cards beyond the width are 0 in a list of 16
pub beyond : (l : List ℕ) (k : ℕ) → length l ≡ 16 → 16 ≤ k → at l k ≡ 0
beyond l k e h = get_or-eq_default l 0 (omega (arith, e))

pub fall_law : (s : Cabinet) (cards : CardSet) → length s.core.stored ≡ 16 → length s.core.held ≡ 16 → view (apply (edit.fall cards) s) ≡ edited limits16 (edit.fall cards) (view s)
fall_law s cards es eh =
    ap (λ (f : Numbers). edit.with_numbers (view s) (record { base = at s.core.base; stored = at s.core.stored; held = f; reached = at s.core.reached }) (view s).memory)
    (at_list_all (λ c. cond (cards c) (at s.core.stored c) (at s.core.held c)) none)
  where
    either : (b : Bool) (x y : ℕ) → x ≡ 0 → y ≡ 0 → cond b x y ≡ 0
    either true x y p q = p
    either false x y p q = q

    none : (k : ℕ) → 16 ≤ k → cond (cards k) (at s.core.stored k) (at s.core.held k) ≡ 0
    none k h = either (cards k) (at s.core.stored k) (at s.core.held k) (beyond s.core.stored k es h) (beyond s.core.held k eh h)

-- ---- the law of a halt
-- a list of eight places, one by one, and what stands beyond them
pub slots_by : {A B : Type 0} (d : A) (f : A → B) (g : ℕ → A) (h : ℕ → B) → ((p : ℕ) → p < 8 → f (g p) ≡ h p) → ((p : ℕ) → 8 ≤ p → f d ≡ h p)
    → (λ (p : ℕ). f (get_or (tabulate limits16.slots g) p d)) ≡ h
slots_by d f g h below beyond' = λ i p. by_cases (dec_lt p 8) (here p) (there p) i
  where
    here : (p : ℕ) → p < 8 → f (get_or (tabulate limits16.slots g) p d) ≡ h p
    here p l = ap f (get_d_tabulate limits16.slots g d p (omega (arith, slots8))) ∙ below p l

    there : (p : ℕ) → ¬ (p < 8) → f (get_or (tabulate limits16.slots g) p d) ≡ h p
    there p l = ap f (get_or-eq_default (tabulate limits16.slots g) d (omega (arith, l, length_tabulate limits16.slots g, slots8))) ∙ beyond' p (omega (arith, l))

pub halt_law : (s : Cabinet) → length s.core.slots ≡ 8 → view (apply edit.halt s) ≡ edited limits16 edit.halt (view s)
halt_law s e =
    λ i. edit.with_head
    (edit.with_slots (view s)
    (slots_by empty_slot open_of (λ p. slot_for free_slot) (λ p. free_slot) (λ p l. open_back free_slot free_fits) (λ p l. no_slot) i)
    (slots_by 0 (λ (x : ℕ). x) (λ p. remembered limits16 (open_at s.core.slots p)) (λ p. remembered limits16 (open_at s.core.slots p)) (λ p l. refl) gone i))
    (view s).session
    Rattle.theory_protocol.specs.Model.down
    (view s).latest
  where
    gone : (p : ℕ) → 8 ≤ p → 0 ≡ remembered limits16 (open_at s.core.slots p)
    gone p l =
        sym (ap (λ (q : Slot). remembered limits16 (open_of q)) (get_or-eq_default s.core.slots empty_slot (omega (arith, e))))

-- ---- the laws of a trim, a fix, a roll and a new session
pub fix_law : (s : Cabinet) (line : Numbers) → ((k : ℕ) → 16 ≤ k → line k ≡ 0) → view (apply (edit.fix line) s) ≡ edited limits16 (edit.fix line) (view s)
fix_law s line z =
    λ i. edit.with_head
    (edit.with_line (edit.with_slots (view s) (view s).slot (slots_by 0 (λ (x : ℕ). x) (λ p. 0) (λ p. 0) (λ p l. refl) (λ p l. refl) i)) (at_list_all line z i) (member_set no_cards (λ k h. refl) i))
    (view s).session
    Rattle.theory_protocol.specs.Model.rolling
    (view s).latest

vectors_none : vector_at (tabulate limits16.width (λ c. vector_for no_entries)) ≡ (λ c. no_entries)
vectors_none = λ i c. by_cases (dec_lt c 16) (here c) (there c) i
  where
    here : (c : ℕ) → c < 16 → vector_at (tabulate limits16.width (λ c. vector_for no_entries)) c ≡ no_entries
    here c l =
        ap (λ (x : Vector). at x.entries) (get_d_tabulate limits16.width (λ c. vector_for no_entries) (record { entries = [] }) c (omega (arith, width16)))
        ∙ at_list_all no_entries (λ k h. refl)

    there : (c : ℕ) → ¬ (c < 16) → vector_at (tabulate limits16.width (λ c. vector_for no_entries)) c ≡ no_entries
    there c l =
        ap (λ (x : Vector). at x.entries)
        (get_or-eq_default (tabulate limits16.width (λ c. vector_for no_entries)) (record { entries = [] }) (omega (arith, l, width16, length_tabulate limits16.width (λ c. vector_for no_entries))))

pub renew_law : (s : Cabinet) → view (apply edit.renew s) ≡ edited limits16 edit.renew (view s)
renew_law s =
    λ i. edit.with_head
    (edit.with_line (edit.with_memory (view s) (record { last = vectors_none i; pending = vectors_none i; change = (view s).memory.change; frame = (view s).memory.frame })) (view s).line (member_set no_cards (λ k h. refl) i))
    (suc (view s).session)
    Rattle.theory_protocol.specs.Model.up
    0
