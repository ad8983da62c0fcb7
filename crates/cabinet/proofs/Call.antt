-- A call on the core of a cabinet is a call on the cabinet: what it hands back is what its plan says. Assumes nothing.
use Rattle.std.specs.Prelude.{Result}
use Rattle.base_refusal.specs.declared.Refusal.{Refusal}
use Prim.Native.Nat.{ℕ, ◌*◌}
use mathlib.Core.Path.{◌≡◌, refl, sym, ◌∙◌, ap, subst}
use mathlib.Core.Bool.{Bool, true, false, not, cond}
use mathlib.Core.List.{List, [], ◌∷◌}
use lib.ListN.{length, set}
use lib.Seq.{sets}
use Rattle.base_limits.specs.Ring.{ring_place}
use Rattle.theory_protocol.specs.Valid.{valid}
use Rattle.theory_protocol.specs.Edit.{Edit, fix, fall, halt}
use Rattle.theory_protocol.specs.Calls.{lines, card_rows, lost_numbers, fix_checks}
use Rattle.theory_protocol.specs.Plan.{Answer, fixed, Check, ◌⇒◌, Plan, checked}
use Rattle.theory_protocol.specs.Plan as plan
use Rattle.cabinet_layout.specs.declared.Core.{Core}
use Rattle.cabinet_layout.specs.declared.CoreAnswer.{CoreAnswer}
use Rattle.cabinet_layout.specs.Answers.{after28}
use Rattle.cabinet_layout.specs.Shape.{limits16, at, list_of}
use Rattle.cabinet_layout.specs.Applied.{applied_all, entries_all, changes_all, CoreCarried}
use Rattle.theory_history.specs.Change.{CardSet}
use Rattle.cabinet_plans.specs.Plans.{judged, is_made, take_on, TakeCarriedOn}
use Rattle.cabinet_rolling.proofs.Rolled.{roll_edits}
use Rattle.cabinet_fixing.specs.Fixed.{CoreFixed}
use Rattle.cabinet.specs.declared.Cabinet.{Cabinet}
use Rattle.cabinet.specs.View.{view}
use Rattle.cabinet.specs.Apply.{apply, apply_all, with_core, Carried}
use Rattle.cabinet.specs.Fixing.{FixCarried}

-- edits one after the other: on the lists of frames, and on the core
pub apply_all_lem : (es : List Edit) (s : Cabinet) → apply_all es s ≡ record { entries = entries_all es s.core s.entries; changes = changes_all es s.core s.changes; core = applied_all es s.core }
apply_all_lem [] s = refl
apply_all_lem (e ∷ es) s = apply_all_lem es (apply e s)

-- where the lists of frames become what the edits leave there
pub framed : (s : Cabinet) (p : Plan) (reply : plan.Reply) (entries changes : List ℕ) (core : Core) → CoreCarried s.core p reply core
    → entries ≡ entries_all p.edits s.core s.entries
    → changes ≡ changes_all p.edits s.core s.changes
    → Carried s p reply (record { entries = entries; changes = changes; core = core })
framed s p reply entries changes core k fe fm =
    let n : ◌≡◌ {A = Cabinet} (record { entries = entries; changes = changes; core = core }) (record { entries = entries_all p.edits s.core s.entries; changes = changes_all p.edits s.core s.changes; core = applied_all p.edits s.core }) = λ i. record { entries = fe i; changes = fm i; core = k.core i } in
    record { answer = k.answer; cabinet = n ∙ sym (apply_all_lem p.edits s) }

-- edits that make no state, and none at all, leave the frames
still : (f : List Edit → List ℕ) (l : List ℕ) (cs : List Check) (a : Answer) (es : List Edit) → l ≡ f es → l ≡ f [] → l ≡ f (checked cs a es).edits
still f l [] a es e n = e
still f l ((true ⇒ r) ∷ cs) a es e n = n
still f l ((false ⇒ r) ∷ cs) a es e n = still f l cs a es e n

pub kept : (s : Cabinet) (cs : List Check) (a : Answer) (es : List Edit) (reply : plan.Reply) (core : Core)
    → s.entries ≡ entries_all es s.core s.entries
    → s.changes ≡ changes_all es s.core s.changes
    → CoreCarried s.core (checked cs a es) reply core
    → Carried s (checked cs a es) reply (with_core s core)
kept s cs a es reply core fe fm k =
    framed s (checked cs a es) reply s.entries s.changes core k
    (still (λ (x : List Edit). entries_all x s.core s.entries) s.entries cs a es fe refl)
    (still (λ (x : List Edit). changes_all x s.core s.changes) s.changes cs a es fm refl)

-- the same, where 28 was found beforehand
pub swapped : (s : Cabinet) (cs : List Check) (a : Answer) (es : List Edit) (b : Bool) (reply : plan.Reply) (core : Core)
    → b ≡ valid limits16 (view s)
    → s.entries ≡ entries_all es s.core s.entries
    → s.changes ≡ changes_all es s.core s.changes
    → CoreCarried s.core (judged b cs a es) reply core
    → Carried s (judged (valid limits16 (view s)) cs a es) reply (with_core s core)
swapped s cs a es b reply core eb fe fm k =
    kept s (after28 (not (valid limits16 (view s))) cs) a es reply core fe fm (subst (λ (x : Bool). CoreCarried s.core (judged x cs a es) reply core) eb k)

-- and as the cabinet has it that the core is put back into
pub put_back : {T : Type 0} (s : Cabinet) (cs : List Check) (a : Answer) (es : List Edit) (f : Result T Refusal → plan.Reply) (out : CoreAnswer T) (reply : Result T Refusal) (next : Cabinet)
    → s.entries ≡ entries_all es s.core s.entries
    → s.changes ≡ changes_all es s.core s.changes
    → CoreCarried s.core (judged (valid limits16 (view s)) cs a es) (f out.reply) out.core
    → reply ≡ out.reply
    → next ≡ with_core s out.core
    → Carried s (judged (valid limits16 (view s)) cs a es) (f reply) next
put_back s cs a es f out reply next fe fm k er en =
    let t : Carried s (judged (valid limits16 (view s)) cs a es) (f out.reply) (with_core s out.core) = kept s (after28 (not (valid limits16 (view s))) cs) a es (f out.reply) out.core fe fm k in
    record { answer = ap f er ∙ t.answer; cabinet = en ∙ t.cabinet }

-- a take, with the frame that the core's part of it tells
pub framed_take : (s : Cabinet) (k c x m : ℕ) (v : List ℕ) (b : Bool) (reply : plan.Reply) (core : Core) (es ms : List ℕ)
    → b ≡ valid limits16 (view s)
    → TakeCarriedOn b s.core k c v x m reply core
    → es ≡ cond (is_made c x) (sets s.entries (ring_place c x * 16) (list_of (at v))) s.entries
    → ms ≡ cond (is_made c x) (set s.changes (ring_place c x) m) s.changes
    → Carried s (take_on (valid limits16 (view s)) s.core k c) reply (record { entries = es; changes = ms; core = core })
framed_take s k c x m v b reply core es ms eb t fe fm =
    let t' : TakeCarriedOn (valid limits16 (view s)) s.core k c v x m reply core = subst (λ (y : Bool). TakeCarriedOn y s.core k c v x m reply core) eb t in
    framed s (take_on (valid limits16 (view s)) s.core k c) reply es ms core t'.carried (fe ∙ t'.entries s.entries) (fm ∙ t'.changes s.changes)

-- the edits of a loss, from phase up or not
abbrev pub loss_edits : CardSet → Bool → List Edit
loss_edits cards up = fall cards ∷ cond up (halt ∷ []) []

-- the edits of a loss and of a roll make no state
pub loss_still : (s : Cabinet) (cards : CardSet) (up : Bool) → (s.entries ≡ entries_all (loss_edits cards up) s.core s.entries) × (s.changes ≡ changes_all (loss_edits cards up) s.core s.changes)
loss_still s cards true = (refl, refl)
loss_still s cards false = (refl, refl)

pub roll_still : (s : Cabinet) (c : ℕ) (last : Bool) → (s.entries ≡ entries_all (roll_edits c last) s.core s.entries) × (s.changes ≡ changes_all (roll_edits c last) s.core s.changes)
roll_still s c true = (refl, refl)
roll_still s c false = (refl, refl)

-- fix: its one edit makes no state
pub fixed_carried : (s : Cabinet) (places : ℕ) (before after : List ℕ) (reply : (Result ℕ Refusal)) (core : Core) → CoreFixed s.entries s.changes s.core places before after reply core → FixCarried s places before after reply (with_core s core)
fixed_carried s places before after reply core t =
    let cs : List Check = fix_checks limits16 (view s) places (length before) in
    let a : Answer = fixed (card_rows limits16 (view s)) (lost_numbers limits16 (view s)) in
    record { told = t.told; cabinet = (kept s cs a (fix (lines limits16 (view s)) ∷ []) (checked cs a (fix (lines limits16 (view s)) ∷ [])).reply core refl refl (record { answer = refl; core = t.core })).cabinet }

pub core_fixed : (s next : Cabinet) (es : List Edit) → next ≡ apply_all es s → next.core ≡ applied_all es s.core
core_fixed s next es e = ap (λ (c : Cabinet). c.core) (e ∙ apply_all_lem es s)

-- a call that changes nothing, accepted or not
pub no_edits : (cs : List Check) (a : Answer) → (checked cs a []).edits ≡ []
no_edits [] a = refl
no_edits ((true ⇒ r) ∷ cs) a = refl
no_edits ((false ⇒ r) ∷ cs) a = no_edits cs a
