-- What a roll that was accepted shows, and what a roll leaves is what its edits leave. Assumes nothing.
use Rattle.std.specs.Prelude.{Ok, Err, is_ok}
use Prim.Native.Nat.{ℕ, ◌<◌, suc}
use mathlib.Core.Path.{◌≡◌, refl, sym, ◌∙◌, ap}
use mathlib.Core.Bool.{Bool, true, false, not, cond, true≢false}
use mathlib.Core.List.{List, [], ◌∷◌}
use borrow.Author.Tests.{not-false}
use Rattle.base_laws.specs.Below.{tabulate}
use Rattle.base_refusal.specs.declared.Refusal.TheVariants.{BadCabinet, NoSuchCard, WrongPhase, AlreadyRolled}
use Rattle.theory_protocol.specs.Model.{Model, is_card, is_rolling, with_card}
use Rattle.theory_protocol.specs.Valid.{valid}
use Rattle.theory_protocol.specs.Calls.{roll_checks}
use Rattle.theory_protocol.specs.Plan.{Check, checked, done}
use Rattle.base_refusal.specs.Reply.{Reply}
use Rattle.cabinet_layout.specs.Answers.{reply_of, first_failing, rest, after28}
use Rattle.cabinet_layout.specs.Shape.{head_of, limits16, model_of, set_of, at, vector_for, with_head, with_vectors, with_numbers, with_line}
use lib.ListN.{set}
use Rattle.base_bits.specs.Member.{member}
use Rattle.theory_history.specs.Vector.{no_entries}
use Rattle.theory_protocol.specs.Edit.{Edit}
use Rattle.theory_protocol.specs.Edit as edit
use Rattle.cabinet_layout.specs.declared.Head.{Head}
use Rattle.cabinet_layout.specs.declared.Vector.{Vector}
use Rattle.cabinet_layout.specs.declared.Core.{Core}
use Rattle.cabinet_layout.specs.Applied.{applied_all, CoreCarried}
use Rattle.cabinet_layout.specs.declared.Phase.TheVariants.{Up}
use Rattle.cabinet_layout.proofs.Held.{zero_set}
use Rattle.cabinet_plans.proofs.Known.{session_room}
use Rattle.cabinet_plans.proofs.Call.{card_below, first_passes, second_passes, two_pass, Passed, passed, core_refused}
use Rattle.cabinet_plans.specs.Plans.{Stands, alone}

pub record Rolls (m : Model) (c : ℕ) : Type 0 where
  pub card : c < 16
  pub room : m.session ≡ 4294967295 → ⊥

passed_rolls : (m : Model) (c : ℕ) → first_failing (roll_checks limits16 m c) ≡ Ok tt → Rolls m c
passed_rolls m c e =
    let cs : List Check = rest (rest (roll_checks limits16 m c)) in
    let s : not (valid limits16 m) ≡ false = first_passes (not (valid limits16 m)) BadCabinet (not (is_card limits16 m c)) NoSuchCard cs e in
    let i : not (is_card limits16 m c) ≡ false = second_passes (not (valid limits16 m)) BadCabinet (not (is_card limits16 m c)) NoSuchCard cs e in
    let two : first_failing cs ≡ Ok tt = two_pass (not (valid limits16 m)) BadCabinet (not (is_card limits16 m c)) NoSuchCard cs e in
    let r : not (is_rolling m.phase) ≡ false = first_passes (not (is_rolling m.phase)) WrongPhase (m.rolled c) AlreadyRolled [] two in
    record { card = card_below m c i; room = session_room m (not-false (valid limits16 m) s) (not-false (is_rolling m.phase) r) }

pub rolls : (whole : Bool) (s : Core) (c : ℕ) → (whole ≡ true → Stands s) → first_failing (after28 (not whole) (roll_checks limits16 (alone s) c)) ≡ Ok tt → Rolls (alone s) c
rolls whole s c f e =
    let p : Passed s (roll_checks limits16 (alone s) c) = passed whole s (roll_checks limits16 (alone s) c) f e in
    let r : _ = passed_rolls (model_of p.stands.entries p.stands.changes s) c p.checks in
    record { card = r.card; room = r.room }

-- a call that was refused leaves the core as it was
pub refused_as : (s : Core) (cs : List Check) (es : List Edit) (r : Reply) → r ≡ first_failing cs → is_ok r ≡ false → CoreCarried s (checked cs done es) (reply_of r) s
refused_as s cs es (Ok tt) e f = absurd (true≢false f)
refused_as s cs es (Err q) e f = core_refused s s cs es (Err q) q e refl refl

-- the edits of a roll, of the last card or not
abbrev pub roll_edits : ℕ → Bool → List Edit
roll_edits c last = edit.lower c ∷ cond last (edit.renew ∷ []) []

-- the numbers of card c at its line
abbrev at_line : Core → ℕ → Core
at_line s c =
    with_numbers s (set s.base c (at s.line c)) (set s.stored c (at s.line c)) (set s.held c (at s.line c)) (set s.reached c (at s.line c))

pub lowered_next : (s : Core) (c : ℕ) (last : Bool) (rolled : ℕ)
    → last ≡ false
    → rolled ≡ set_of (with_card (member s.rolled) c)
    → with_line (at_line s c) s.line rolled ≡ applied_all (roll_edits c last) s
lowered_next s c last rolled l r =
    (λ i. with_line (at_line s c) s.line (r i)) ∙ ap (λ (b : Bool). applied_all (roll_edits c b) s) (sym l)

pub renewed_next : (s : Core) (c : ℕ) (last : Bool) (none : List Vector) (head : Head)
    → last ≡ true
    → none ≡ tabulate limits16.width (λ k. vector_for no_entries)
    → head ≡ head_of (suc s.head.session) s.head.cards Up
    → with_head (with_line (with_vectors (at_line s c) none none) s.line 0) head ≡ applied_all (roll_edits c last) s
renewed_next s c last none head l n e =
    (λ i. with_head (with_line (with_vectors (at_line s c) (n i) (n i)) s.line (sym zero_set i)) (e i)) ∙ ap (λ (b : Bool). applied_all (roll_edits c b) s) (sym l)
