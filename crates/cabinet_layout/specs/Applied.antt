-- What each edit does to a core: every list of it, unused slots included, whatever core it is.
use Rattle.std.specs.Prelude.{ℕ, suc, max, ◌*◌, ◌≡◌, cond, List, [], ◌∷◌, set}
use Rattle.std.proofs.lemmas.List.Edits.{sets}
use Rattle.base_limits.specs.Ring.{ring_place}
use Rattle.base_limits.specs.Document.{most_cards}
use Rattle.base_laws.specs.Below.{tabulate}
use Rattle.base_bits.specs.Member.{member}
use Rattle.theory_history.specs.Vector.{no_entries, joined}
use Rattle.theory_history.specs.Vector as history
use Rattle.theory_protocol.specs.Model.{free_slot, no_cards, with_card}
use Rattle.theory_protocol.specs.Edit.{Edit, remembered}
use Rattle.theory_protocol.specs.Edit as edit
use Rattle.theory_protocol.specs.Plan.{Plan, Reply}
use Rattle.cabinet_layout.specs.declared.Phase.TheVariants.{Up, Down, Rolling}
use Rattle.cabinet_layout.specs.declared.Head.{Head}
use Rattle.cabinet_layout.specs.declared.Core.{Core}
use Rattle.cabinet_layout.specs.Shape.{limits16, at, vector_at, open_at, set_of, list_of, vector_for, slot_for, head_of, in_phase, counted, with_head, with_vectors, with_slots, with_numbers, with_line, with_writing}

-- the head of the next session
abbrev pub next_head : Head → Head
next_head h = head_of (suc h.session) h.cards Up

abbrev pub applied : Edit → Core → Core
applied (edit.place p o) s = with_slots s (set s.slots p (slot_for o)) s.ended
applied (edit.latest k) s = with_head s (counted s.head k)
-- the core's part of it: the state's frame is no part of a core
applied (edit.grow c k v) s =
    with_vectors (with_numbers s s.base s.stored (set s.held c (suc (at s.reached c))) (set s.reached c (suc (at s.reached c))))
    (set s.last c (vector_for v))
    (set s.pending c (vector_for v))
applied (edit.raise c v) s = with_vectors s s.last (set s.pending c (vector_for (joined (vector_at s.pending c) v)))
applied (edit.keep c x) s = with_numbers s s.base (set s.stored c x) s.held s.reached
applied (edit.begin c x) s = with_writing s (set s.writing c (suc x))
applied (edit.end c x) s =
    with_writing (with_numbers s s.base (set s.stored c x) (set s.held c (max (at s.held c) x)) s.reached) (set s.writing c 0)
applied (edit.rebase bases) s = with_numbers s (list_of bases) s.stored s.held s.reached
applied (edit.fall cards) s =
    with_numbers s s.base s.stored (list_of (λ c. cond (cards c) (at s.stored c) (at s.held c))) s.reached
applied edit.halt s =
    with_head (with_slots s (tabulate limits16.slots (λ p. slot_for free_slot)) (tabulate limits16.slots (λ p. remembered limits16 (open_at s.slots p))))
    (in_phase s.head Down)
applied (edit.fix line) s =
    with_head (with_line (with_slots s s.slots (tabulate limits16.slots (λ p. 0))) (list_of line) (set_of no_cards))
    (in_phase s.head Rolling)
applied (edit.lower c) s =
    with_line
    (with_numbers s (set s.base c (at s.line c)) (set s.stored c (at s.line c)) (set s.held c (at s.line c)) (set s.reached c (at s.line c)))
    s.line
    (set_of (with_card (member s.rolled) c))
applied edit.renew s =
    with_head
    (with_line (with_vectors s (tabulate limits16.width (λ c. vector_for no_entries)) (tabulate limits16.width (λ c. vector_for no_entries))) s.line (set_of no_cards))
    (next_head s.head)

abbrev pub applied_all : List Edit → Core → Core
applied_all [] s = s
applied_all (e ∷ es) s = applied_all es (applied e s)

-- the state that an edit makes, of card c by change k with vector v: only a growth makes one
abbrev pub made : {A : Type 0} → Edit → A → ((c k : ℕ) → history.Vector → A) → A
made (edit.place p o) none f = none
made (edit.latest k) none f = none
made (edit.grow c k v) none f = f c k v
made (edit.raise c v) none f = none
made (edit.keep c x) none f = none
made (edit.begin c x) none f = none
made (edit.end c x) none f = none
made (edit.rebase bases) none f = none
made (edit.fall cards) none f = none
made edit.halt none f = none
made (edit.fix line) none f = none
made (edit.lower c) none f = none
made edit.renew none f = none

-- what an edit leaves in the lists of frames that stand beside the core
abbrev pub entries_after : Edit → Core → List ℕ → List ℕ
entries_after e s l = made e l (λ c k v. sets l (ring_place c (suc (at s.reached c)) * most_cards) (list_of v))

abbrev pub changes_after : Edit → Core → List ℕ → List ℕ
changes_after e s l = made e l (λ c k v. set l (ring_place c (suc (at s.reached c))) k)

abbrev pub entries_all : List Edit → Core → List ℕ → List ℕ
entries_all [] s l = l
entries_all (e ∷ es) s l = entries_all es (applied e s) (entries_after e s l)

abbrev pub changes_all : List Edit → Core → List ℕ → List ℕ
changes_all [] s l = l
changes_all (e ∷ es) s l = changes_all es (applied e s) (changes_after e s l)

-- what a call on a core answers and the core that it hands back, by its plan
pub record CoreCarried (s : Core) (p : Plan) (reply : Reply) (next : Core) : Type 0 where
  pub answer : reply ≡ p.reply
  pub core : next ≡ applied_all p.edits s
