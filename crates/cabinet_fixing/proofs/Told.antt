-- What fix hands back is what its plan says. Assumes nothing.
use Rattle.std.specs.Prelude.{Result, Ok, Err, is_ok}
use Prim.Native.Nat.{ℕ}
use mathlib.Core.Path.{◌≡◌, refl, sym, ◌∙◌, ap}
use mathlib.Core.Bool.{true, false, true≢false}
use mathlib.Core.List.{List, [], ◌∷◌}
use lib.ListN.{length, replicate}
use Rattle.base_laws.specs.Below.{tabulate}
use Rattle.base_refusal.specs.declared.Refusal.{Refusal}
use Rattle.theory_protocol.specs.Edit.{Edit, fix}
use Rattle.theory_protocol.specs.Model.{Model}
use Rattle.theory_protocol.specs.Plan.{Answer, fixed, Check, ◌⇒◌, checked, accepted, refused}
use Rattle.theory_protocol.specs.Plan as plan
use Rattle.theory_protocol.specs.Calls.{lines, card_rows, lost_numbers, fix_checks, fix_plan}
use Rattle.cabinet_layout.specs.declared.Phase.TheVariants.{Rolling}
use Rattle.cabinet_layout.specs.declared.Head.{Head}
use Rattle.cabinet_layout.specs.declared.Core.{Core}
use Rattle.cabinet_layout.specs.Shape.{in_phase, limits16, list_of, model_of, with_head, with_slots, with_line}
use Rattle.cabinet_layout.specs.Applied.{applied_all}
use Rattle.cabinet_layout.proofs.Held.{zero_set}
use Rattle.cabinet_recovery.specs.Fix.{FixWorked, fix_reply_of, lines_after}
use Rattle.cabinet_fixing.specs.Fixed.{CoreFixed}

-- an accepted plan makes its edits, a refused one none
edits_made : (cs : List Check) (a x : Answer) (es : List Edit) → accepted x ≡ (checked cs a es).reply → (checked cs a es).edits ≡ es
edits_made [] a x es e = refl
edits_made ((true ⇒ r) ∷ cs) a x es e = let z : ◌≡◌ {A = ℕ} 0 1 = cc in absurd (omega native.Mathlib.Omega.arith)
edits_made ((false ⇒ r) ∷ cs) a x es e = edits_made cs a x es e

edits_none : (cs : List Check) (a : Answer) (q : Refusal) (es : List Edit) → refused q ≡ (checked cs a es).reply → (checked cs a es).edits ≡ []
edits_none [] a q es e = let z : ◌≡◌ {A = ℕ} 0 1 = cc in absurd (omega native.Mathlib.Omega.arith)
edits_none ((true ⇒ r) ∷ cs) a q es e = refl
edits_none ((false ⇒ r) ∷ cs) a q es e = edits_none cs a q es e

pub none_ended : replicate {A = ℕ} 8 0 ≡ tabulate limits16.slots (λ p. 0)
unfolding limits16
none_ended = refl

-- the core whose line is fixed
abbrev with_fixed : Core → (line : List ℕ) → Head → Core
with_fixed s line h = with_head (with_line (with_slots s s.slots (replicate 8 0)) line 0) h

module _ (entries changes : List ℕ) (s : Core) (places : ℕ) (before line after : List ℕ) (r : (Result ℕ Refusal))
    (t : FixWorked (model_of entries changes s) (fix_plan limits16 (model_of entries changes s) places (length before)) s.head.cards s.stored line before after r) where
  abbrev m : Model
  m = model_of entries changes s

  abbrev checks : List Check
  checks = fix_checks limits16 m places (length before)

  abbrev answered : Answer
  answered = fixed (card_rows limits16 m) (lost_numbers limits16 m)

  -- what is answered, where the reply is known
  replied : (x : (Result ℕ Refusal)) → r ≡ x → fix_reply_of s.head.cards s.stored line after x ≡ (checked checks answered (fix (lines limits16 m) ∷ [])).reply
  replied x d = sym (ap (fix_reply_of s.head.cards s.stored line after) d) ∙ t.told.answer

  refused_by : (q : Refusal) → r ≡ Err q → CoreFixed entries changes s places before after r s
  refused_by q d =
      record {
        told = record {
          answer = ap (fix_reply_of s.head.cards s.stored s.line after) d ∙ replied (Err q) d;
          inside = t.told.inside;
          list = t.told.list;
        };
        core = sym (ap (λ (es : List Edit). applied_all es s) (edits_none checks answered q (fix (lines limits16 m) ∷ []) (replied (Err q) d)));
      }

  fixed_next : (h : Head) → line ≡ list_of (lines limits16 m) → h ≡ in_phase s.head Rolling → with_fixed s line h ≡ applied_all (fix (lines limits16 m) ∷ []) s
  fixed_next h e eh = λ i. with_head (with_line (with_slots s s.slots (none_ended i)) (e i) (sym zero_set i)) (eh i)

  done_by : (k : ℕ) (h : Head) → r ≡ Ok k → h ≡ in_phase s.head Rolling → CoreFixed entries changes s places before after r (with_fixed s line h)
  done_by k h d eh =
      record {
        told = t.told;
        core = fixed_next h (t.lines_are ∙ sym (ap (λ (x : plan.Reply). lines_after x m) (replied (Ok k) d))) eh
            ∙ sym (ap (λ (es : List Edit). applied_all es s) (edits_made checks answered _ (fix (lines limits16 m) ∷ []) (replied (Ok k) d)));
      }

  fix_refused_as : (x : Result ℕ Refusal) → r ≡ x → is_ok x ≡ false → CoreFixed entries changes s places before after r s
  fix_refused_as (Ok k) d e = absurd (true≢false e)
  fix_refused_as (Err q) d e = refused_by q d

  fix_done_as : (x : Result ℕ Refusal) (h : Head) → r ≡ x → is_ok x ≡ true → h ≡ in_phase s.head Rolling → CoreFixed entries changes s places before after r (with_fixed s line h)
  fix_done_as (Ok k) h d e eh = done_by k h d eh
  fix_done_as (Err q) h d e eh = absurd (true≢false (sym e))

  pub fix_refused : is_ok r ≡ false → CoreFixed entries changes s places before after r s
  fix_refused = fix_refused_as r refl

  pub fix_done : (h : Head) → is_ok r ≡ true → h ≡ in_phase s.head Rolling → CoreFixed entries changes s places before after r (with_fixed s line h)
  fix_done h = fix_done_as r h refl
