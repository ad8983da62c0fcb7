-- Every edit keeps the lengths of the cabinet's lists. Assumes nothing.
use Prim.Native.Nat.{ℕ, suc, ◌*◌, ◌<◌}
use mathlib.Core.Path.{◌≡◌, sym, ◌∙◌, subst}
use mathlib.Core.List.{List}
use lib.ListN.{length, replicate, length-set, length-replicate}
use lib.Seq.{length-sets}
use lib.Dec.{lit<}
use Rattle.base_limits.specs.Ring.{ring_place}
use Rattle.base_laws.specs.Below.{tabulate}
use Rattle.base_laws.proofs.Fill.{length_tabulate}
use Rattle.base_bits.specs.Member.{number}
use Rattle.base_bits.proofs.Members.{number_lt}
use Rattle.theory_history.specs.Change.{CardSet}
use Rattle.theory_protocol.specs.Model.{free_slot}
use Rattle.theory_protocol.specs.Edit.{Edit}
use Rattle.theory_protocol.specs.Edit as edit
use Rattle.cabinet_layout.specs.Shape.{limits16, at, list_of, set_of, slot_for, with_head, with_vectors, with_slots, with_numbers, with_line, with_writing}
use Rattle.cabinet_layout.specs.Applied.{applied, entries_after, changes_after}
use Rattle.cabinet_layout.proofs.Limits.{width16, slots8}
use Rattle.cabinet_layout.proofs.Made.{made_by}
use Rattle.cabinet.specs.declared.Cabinet.{Cabinet}
use Rattle.cabinet.specs.Apply.{apply}
use Rattle.cabinet.specs.Fresh.{zero_cabinet}
use Rattle.cabinet_layout.specs.declared.Head.{Head}
use Rattle.cabinet_layout.specs.declared.Vector.{Vector}
use Rattle.cabinet_layout.specs.declared.Slot.{Slot}
use Rattle.cabinet_layout.specs.declared.Core.{Core}
use Rattle.demands_lists.specs.Lists.{SizedCore, Sized}

pub by_card : {A : Type 0} (f : ℕ → A) → length (tabulate limits16.width f) ≡ 16
by_card f = length_tabulate limits16.width f ∙ width16

pub by_slot : {A : Type 0} (f : ℕ → A) → length (tabulate limits16.slots f) ≡ 8
by_slot f = length_tabulate limits16.slots f ∙ slots8

pub set_small : (p : CardSet) → set_of p < 65536
set_small p = subst (λ (w : ℕ). number w p < 65536) (sym width16) (number_lt 16 p)

pub zero_sized : (h : Head) → Sized (zero_cabinet h)
zero_sized h =
    record {
      entries = length-replicate {A = ℕ} 12288 0;
      changes = length-replicate {A = ℕ} 768 0;
      core = record {
        last = length-replicate 16 none;
        pending = length-replicate 16 none;
        slots = length-replicate 8 free;
        base = length-replicate {A = ℕ} 16 0;
        stored = length-replicate {A = ℕ} 16 0;
        held = length-replicate {A = ℕ} 16 0;
        reached = length-replicate {A = ℕ} 16 0;
        line = length-replicate {A = ℕ} 16 0;
        ended = length-replicate {A = ℕ} 8 0;
        rolled = lit< tt;
        writing = length-replicate {A = ℕ} 16 0;
      };
    }
  where
    none : Vector
    none = record { entries = replicate 16 0 }

    free : Slot
    free = slot_for free_slot

-- ---- each group of fields, set to lists of their lengths
module _ (s : Core) (z : SizedCore s) where
  head_sized : (h : Head) → SizedCore (with_head s h)
  head_sized h = record { last = z.last; pending = z.pending; slots = z.slots; base = z.base; stored = z.stored; held = z.held; reached = z.reached; line = z.line; ended = z.ended; rolled = z.rolled; writing = z.writing }

  vectors_sized : (last pending : List Vector) → length last ≡ 16 → length pending ≡ 16 → SizedCore (with_vectors s last pending)
  vectors_sized last pending el ep = record { last = el; pending = ep; slots = z.slots; base = z.base; stored = z.stored; held = z.held; reached = z.reached; line = z.line; ended = z.ended; rolled = z.rolled; writing = z.writing }

  slots_sized : (slots : List Slot) (ended : List ℕ) → length slots ≡ 8 → length ended ≡ 8 → SizedCore (with_slots s slots ended)
  slots_sized slots ended ep ee = record { last = z.last; pending = z.pending; slots = ep; base = z.base; stored = z.stored; held = z.held; reached = z.reached; line = z.line; ended = ee; rolled = z.rolled; writing = z.writing }

  numbers_sized : (base stored kept reached : List ℕ) → length base ≡ 16 → length stored ≡ 16 → length kept ≡ 16 → length reached ≡ 16 → SizedCore (with_numbers s base stored kept reached)
  numbers_sized base stored kept reached eb es eh er = record { last = z.last; pending = z.pending; slots = z.slots; base = eb; stored = es; held = eh; reached = er; line = z.line; ended = z.ended; rolled = z.rolled; writing = z.writing }

  line_sized : (line : List ℕ) (rolled : ℕ) → length line ≡ 16 → rolled < 65536 → SizedCore (with_line s line rolled)
  line_sized line rolled el er = record { last = z.last; pending = z.pending; slots = z.slots; base = z.base; stored = z.stored; held = z.held; reached = z.reached; line = el; ended = z.ended; rolled = er; writing = z.writing }

  writing_sized : (writing : List ℕ) → length writing ≡ 16 → SizedCore (with_writing s writing)
  writing_sized writing ew = record { last = z.last; pending = z.pending; slots = z.slots; base = z.base; stored = z.stored; held = z.held; reached = z.reached; line = z.line; ended = z.ended; rolled = z.rolled; writing = ew }

-- what an edit leaves of a core
core_sized : (e : Edit) (s : Core) → SizedCore s → SizedCore (applied e s)
core_sized (edit.place p o) s z = slots_sized s z _ _ (length-set s.slots p _ ∙ z.slots) z.ended
core_sized (edit.latest k) s z = head_sized s z _
core_sized (edit.grow c k v) s z =
    vectors_sized _ (numbers_sized s z _ _ _ _ z.base z.stored (length-set s.held _ _ ∙ z.held) (length-set s.reached _ _ ∙ z.reached)) _ _ (length-set s.last _ _ ∙ z.last) (length-set s.pending _ _ ∙ z.pending)
core_sized (edit.raise c v) s z = vectors_sized s z _ _ z.last (length-set s.pending _ _ ∙ z.pending)
core_sized (edit.keep c x) s z = numbers_sized s z _ _ _ _ z.base (length-set s.stored _ _ ∙ z.stored) z.held z.reached
core_sized (edit.begin c x) s z = writing_sized s z _ (length-set s.writing _ _ ∙ z.writing)
core_sized (edit.end c x) s z =
    writing_sized _ (numbers_sized s z _ _ _ _ z.base (length-set s.stored _ _ ∙ z.stored) (length-set s.held _ _ ∙ z.held) z.reached) _ (length-set s.writing _ _ ∙ z.writing)
core_sized (edit.rebase bases) s z = numbers_sized s z _ _ _ _ (by_card bases) z.stored z.held z.reached
core_sized (edit.fall cards) s z = numbers_sized s z _ _ _ _ z.base z.stored (by_card _) z.reached
core_sized edit.halt s z = head_sized _ (slots_sized s z _ _ (by_slot _) (by_slot _)) _
core_sized (edit.fix line) s z = head_sized _ (line_sized _ (slots_sized s z _ _ z.slots (by_slot _)) _ _ (by_card line) (set_small _)) _
core_sized (edit.lower c) s z =
    line_sized _ (numbers_sized s z _ _ _ _ (length-set s.base _ _ ∙ z.base) (length-set s.stored _ _ ∙ z.stored) (length-set s.held _ _ ∙ z.held) (length-set s.reached _ _ ∙ z.reached)) _ _ z.line (set_small _)
core_sized edit.renew s z = head_sized _ (line_sized _ (vectors_sized s z _ _ (by_card _) (by_card _)) _ _ z.line (set_small _)) _

-- and of the lists of frames
entries_sized : (e : Edit) (s : Core) (l : List ℕ) → length l ≡ 12288 → length (entries_after e s l) ≡ 12288
entries_sized e s l z = made_by (λ (x : List ℕ). length x ≡ 12288) e l _ z (λ c k v. length-sets l (ring_place c (suc (at s.reached c)) * 16) (list_of v) ∙ z)

changes_sized : (e : Edit) (s : Core) (l : List ℕ) → length l ≡ 768 → length (changes_after e s l) ≡ 768
changes_sized e s l z = made_by (λ (x : List ℕ). length x ≡ 768) e l _ z (λ c k v. length-set l (ring_place c (suc (at s.reached c))) k ∙ z)

pub edit_sized : (e : Edit) (s : Cabinet) → Sized s → Sized (apply e s)
edit_sized e s z =
    record { entries = entries_sized e s.core s.entries z.entries; changes = changes_sized e s.core s.changes z.changes; core = core_sized e s.core z.core }
