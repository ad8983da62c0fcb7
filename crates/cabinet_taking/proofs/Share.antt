-- What a take leaves is what its edits leave. Assumes nothing.
use Rattle.std.specs.Prelude.{Ok, Err, is_ok}
use Prim.Native.Nat.{ℕ, suc, ◌*◌, ◌<◌}
use mathlib.Core.Path.{◌≡◌, refl, sym, ◌∙◌, ap, ap₂}
use mathlib.Core.Bool.{Bool, true, false, not, cond, true≢false}
use mathlib.Core.List.{List, [], ◌∷◌}
use native.Mathlib.Omega.{arith}
use lib.ListN.{set}
use lib.Seq.{sets}
use borrow.Author.Tests.{ne_eqb, lt-ltb}
use Rattle.base_limits.specs.Ring.{ring_place}
use Rattle.base_laws.proofs.Logic.{and_intro, not_intro}
use Rattle.base_bits.specs.Member.{member}
use Rattle.theory_protocol.specs.Model.{slot_of}
use Rattle.theory_protocol.specs.Edit.{Edit}
use Rattle.theory_protocol.specs.Edit as edit
use Rattle.theory_protocol.specs.Plan.{done, Check, Plan, checked, accepted, refused}
use Rattle.theory_protocol.specs.Calls.{take_checks, share_edit, took_share}
use Rattle.cabinet_layout.specs.declared.Slot.{Slot}
use Rattle.cabinet_layout.specs.declared.Vector.{Vector}
use Rattle.cabinet_layout.specs.declared.Core.{Core}
use Rattle.base_refusal.specs.Reply.{Reply}
use Rattle.cabinet_layout.specs.Answers.{reply_of, first_failing, after28}
use Rattle.cabinet_layout.specs.Shape.{limits16, at, list_of, vector_for, open_of, open_at, slot_for, with_vectors, with_numbers, with_slots}
use Rattle.cabinet_layout.specs.Applied.{applied_all, entries_all, changes_all}
use Rattle.cabinet_layout.proofs.Checks.{done_plan, refused_plan}
use Rattle.cabinet_plans.specs.Plans.{alone, is_made, TakeCarriedOn}
use Rattle.cabinet_plans.proofs.Call.{core_done, core_refused}

-- the edits of a share, where the card is written and where it is only read
abbrev pub share_edits : Slot → ℕ → ℕ → List Edit
share_edits q p c = share_edit (open_of q) c ∷ edit.place p (took_share limits16 (open_of q) c) ∷ []

abbrev chosen : Bool → Slot → ℕ → ℕ → List Edit
chosen b q p c = cond b (edit.grow c q.number (at q.vector)) (edit.raise c (at q.vector)) ∷ edit.place p (took_share limits16 (open_of q) c) ∷ []

abbrev kept : List ℕ → Vector
kept l = record { entries = l }

pub share_grown : (s : Core) (c x p : ℕ) (w : Vector) (q sh : Slot)
    → member q.writes c ≡ true
    → x ≡ suc (at s.reached c)
    → w.entries ≡ q.vector
    → q.vector ≡ list_of (at q.vector)
    → sh ≡ slot_for (took_share limits16 (open_of q) c)
    → with_vectors (with_numbers (with_slots s (set s.slots p sh) s.ended) s.base s.stored (set s.held c x) (set s.reached c x)) (set s.last c w) (set s.pending c w)
    ≡ applied_all (share_edits q p c) s
share_grown s c x p w q sh ew ex ev el es =
    let l : w ≡ vector_for (at q.vector) = ap (λ (y : List ℕ). kept y) (ev ∙ el) in
    (λ i. with_vectors (with_numbers (with_slots s (set s.slots p (es i)) s.ended) s.base s.stored (set s.held c (ex i)) (set s.reached c (ex i))) (set s.last c (l i)) (set s.pending c (l i)))
    ∙ ap (λ (b : Bool). applied_all (chosen b q p c) s) (sym ew)

-- a card that is there and has made a state
made_known : (c x r : ℕ) → c < 16 → x ≡ suc r → is_made c x ≡ true
made_known c x r h e = and_intro (not_intro (ne_eqb x 0 (λ (z : x ≡ 0). absurd (omega (arith, e, z))))) (lt-ltb (ring_place c x) 768 (omega arith))

pub grown_entries : (s : Core) (c x p : ℕ) (w : Vector) (q : Slot)
    → c < 16
    → member q.writes c ≡ true
    → x ≡ suc (at s.reached c)
    → w.entries ≡ q.vector
    → (l : List ℕ)
    → cond (is_made c x) (sets l (ring_place c x * 16) (list_of (at w.entries))) l ≡ entries_all (share_edits q p c) s l
grown_entries s c x p w q h ew ex ev l =
    ap (λ (b : Bool). cond b (sets l (ring_place c x * 16) (list_of (at w.entries))) l) (made_known c x (at s.reached c) h ex)
    ∙ ap₂ (λ (y : ℕ) (v : List ℕ). sets l (ring_place c y * 16) (list_of (at v))) ex ev
    ∙ ap (λ (b : Bool). entries_all (chosen b q p c) s l) (sym ew)

pub grown_changes : (s : Core) (c x p : ℕ) (q : Slot)
    → c < 16
    → member q.writes c ≡ true
    → x ≡ suc (at s.reached c)
    → (l : List ℕ)
    → cond (is_made c x) (set l (ring_place c x) q.number) l ≡ changes_all (share_edits q p c) s l
grown_changes s c x p q h ew ex l =
    ap (λ (b : Bool). cond b (set l (ring_place c x) q.number) l) (made_known c x (at s.reached c) h ex)
    ∙ ap (λ (y : ℕ). set l (ring_place c y) q.number) ex
    ∙ ap (λ (b : Bool). changes_all (chosen b q p c) s l) (sym ew)

-- ---- the whole answer
module _ (whole : Bool) (s : Core) (k c : ℕ) where
  abbrev checks : List Check
  checks = after28 (not whole) (take_checks limits16 (alone s) k c)

  abbrev those : ℕ → List Edit
  those p = share_edit (open_at s.slots p) c ∷ edit.place p (took_share limits16 (open_at s.slots p) c) ∷ []

  pub take_done : (p : ℕ) (vector : List ℕ) (state made : ℕ) (r : Reply) (next : Core)
      → r ≡ first_failing checks
      → r ≡ Ok tt
      → p ≡ slot_of limits16 (alone s) k
      → next ≡ applied_all (those p) s
      → ((l : List ℕ) → cond (is_made c state) (sets l (ring_place c state * 16) (list_of (at vector))) l ≡ entries_all (those p) s l)
      → ((l : List ℕ) → cond (is_made c state) (set l (ring_place c state) made) l ≡ changes_all (those p) s l)
      → TakeCarriedOn whole s k c vector state made (reply_of r) next
  take_done p vector state made r next e d ep n fe fm =
      let P : ℕ = slot_of limits16 (alone s) k in
      let pl : checked checks done (those P) ≡ record { reply = accepted done; edits = those P } = done_plan checks done (those P) (sym e ∙ d) in
      record {
        carried = core_done s next checks (those P) r e d (n ∙ ap (λ (i : ℕ). applied_all (those i) s) ep);
        entries = λ l. fe l ∙ ap (λ (i : ℕ). entries_all (those i) s l) ep ∙ sym (ap (λ (x : Plan). entries_all x.edits s l) pl);
        changes = λ l. fm l ∙ ap (λ (i : ℕ). changes_all (those i) s l) ep ∙ sym (ap (λ (x : Plan). changes_all x.edits s l) pl);
      }

  pub take_refused : (vector : List ℕ) (r : Reply) → r ≡ first_failing checks → is_ok r ≡ false → TakeCarriedOn whole s k c vector 0 0 (reply_of r) s
  take_refused vector (Ok tt) e f = absurd (true≢false f)
  take_refused vector (Err q) e f =
      let P : ℕ = slot_of limits16 (alone s) k in
      let pl : checked checks done (those P) ≡ record { reply = refused q; edits = [] } = refused_plan checks done (those P) q (sym e) in
      record {
        carried = core_refused s s checks (those P) (Err q) q e refl refl;
        entries = λ l. sym (ap (λ (x : Plan). entries_all x.edits s l) pl);
        changes = λ l. sym (ap (λ (x : Plan). changes_all x.edits s l) pl);
      }
