-- The edits of every call fit the cabinet that they are made on. Assumes nothing.
use Prim.Native.Nat.{ℕ, suc, ◌+◌, ◌-◌, ◌≤◌, ◌<◌}
use mathlib.Core.Path.{◌≡◌, refl, ◌∙◌, ap}
use mathlib.Core.Bool.{Bool, true, false, not, ◌&&◌, cond}
use native.Mathlib.Nat.{le_refl}
use native.Mathlib.Omega.{arith}
use lib.Dec.{eqb, ltb}
use borrow.Author.Tests.{ne_eqb, le-ltb, ltb-true}
use Rattle.base_laws.proofs.Logic.{cond_case, and_left, and_right, and_intro}
use Rattle.base_laws.proofs.Below.{greatest_below}
use Rattle.base_bits.specs.Member.{member}
use Rattle.base_bits.proofs.Members.{member_above}
use Rattle.theory_history.specs.Change.{CardSet, Change, touches}
use Rattle.theory_history.specs.Vector.{Vector, share, vector_of}
use Rattle.theory_history.specs.Line.{orphan}
use Rattle.theory_history.proofs.Climb.{climbed}
use Rattle.theory_protocol.specs.Model.{OpenChange, Model, is_up, is_card, is_open, decided, closed, with_card, slot_of, free_at, is_known, tracked, with_yes, with_taken}
use Rattle.theory_protocol.specs.Valid.{valid, room_to_write}
use Rattle.theory_protocol.proofs.Passed.{NumbersPassed}
use Rattle.theory_protocol.specs.Edit as edit
use Rattle.theory_protocol.specs.Plan.{Plan, Passed}
use Rattle.theory_protocol.specs.Run.{Plain, vote_call, take_call, withdraw_call, store_call, begin_call, end_call, trim_call, safe_call, roll_call, plain_plan}
use Rattle.theory_protocol.specs.Calls.{open_checks, open_plan, voted, vote_checks, vote_plan, took_share, share_edit, take_checks, take_plan, withdraw_checks, withdraw_plan, store_checks, store_plan, begin_plan, end_checks, end_plan, recovery_line, lines, safe_checks, safe_plan, trim_checks, trim_plan, lose_checks, lose_plan, fix_checks, fix_plan, roll_checks, roll_plan, all_rolled}
use Rattle.theory_protocol.proofs.Steps.{checked_case, not_not, card_below, known_slot}
use Rattle.cabinet_layout.specs.Shape.{limits16, at}
use Rattle.cabinet_layout.proofs.Limits.{width16, in_hand48, slots8}
use Rattle.cabinet.specs.declared.Cabinet.{Cabinet}
use Rattle.cabinet.specs.View.{view}
use Rattle.cabinet.specs.Apply.{apply}
use Rattle.cabinet_layout.proofs.Held.{Fits, free_fits}
use Rattle.cabinet.proofs.Laws.{beyond}
use Rattle.cabinet_plans.proofs.Known.{valid_slots, valid_card, room_known}
use Rattle.demands_lists.specs.Lists.{Sized}
use Rattle.demands_lists.proofs.Narrow.{Short, Narrow, with_narrow}
use Rattle.demands_lists.proofs.Laws.{EditFits, EditsFit}

-- ---- what the calls bring
card16 : (m : Model) (c : ℕ) → not (is_card limits16 m c) ≡ false → c < 16
card16 m c e = let l : c < limits16.width = card_below limits16 m c (not_not (is_card limits16 m c) e) in omega (arith, l, width16)

slot8 : (m : Model) (k : ℕ) → not (is_known limits16 m k) ≡ false → slot_of limits16 m k < 8
slot8 m k e = let l : slot_of limits16 m k < limits16.slots = (known_slot limits16 m k (not_not (is_known limits16 m k) e)).0 in omega (arith, l, slots8)

vector_short : (m : Model) (t : Change) → Narrow m → Short (vector_of limits16.width (tracked m) t)
vector_short m t w j h =
    let l : vector_of limits16.width (tracked m) t j ≤ 0 = greatest_below limits16.width (λ c. share (tracked m) t c j) 0 each in
    omega arith
  where
    each : (c : ℕ) → c < limits16.width → share (tracked m) t c j ≤ 0
    each c l =
        cond_case (λ (v : Vector). v j ≤ 0) (t.writes c)
        (λ e. let q : cond (eqb j c) (suc (m.numbers.reached c)) (m.memory.pending c j) ≡ 0 = ap (λ (b : Bool). cond b (suc (m.numbers.reached c)) (m.memory.pending c j)) (ne_eqb j c (λ (p : j ≡ c). absurd (omega (arith, l, h, width16)))) ∙ w.pending c j h in omega arith)
        (λ e. cond_case (λ (v : Vector). v j ≤ 0) (t.reads c) (λ e'. let q : m.memory.last c j ≡ 0 = w.last c j h in omega arith) (λ e'. le_refl 0))

voted_fits : (m : Model) (o : OpenChange) (c : ℕ) (agrees : Bool) → Narrow m → Fits o → c < 16 → Fits (voted limits16 m o c agrees)
voted_fits m o c agrees w f l =
    cond_case Fits agrees
    (λ e. cond_case Fits (decided limits16 (with_yes o (with_card o.yes c)))
    (λ e'. record { reads = f.reads; writes = f.writes; yes = with_narrow o.yes c l f.yes; taken = f.taken; vector = vector_short m o.change w })
    (λ e'. record { reads = f.reads; writes = f.writes; yes = with_narrow o.yes c l f.yes; taken = f.taken; vector = f.vector }))
    (λ e. free_fits)

took_fits : (o : OpenChange) (c : ℕ) → Fits o → c < 16 → Fits (took_share limits16 o c)
took_fits o c f l =
    cond_case Fits (closed limits16 (with_taken o (with_card o.taken c))) (λ e. free_fits)
    (λ e. record { reads = f.reads; writes = f.writes; yes = f.yes; taken = with_narrow o.taken c l f.taken; vector = f.vector })

-- "base ≤ stored ≤ held ≤ reached"
low_reached : (m : Model) → valid limits16 m ≡ true → (c : ℕ) → c < 16 → m.present c ≡ true → m.numbers.base c ≤ m.numbers.reached c
low_reached m e c h p =
    let n : NumbersPassed limits16 m c = (valid_card m e c h p).numbers in
    omega (arith, n.base_stored, n.stored_held, n.held_reached)

-- a card beyond the width is not in the cabinet, and its line is its base, 0
lines_beyond : (s : Cabinet) → Sized s → (k : ℕ) → 16 ≤ k → lines limits16 (view s) k ≡ 0
lines_beyond s z k h =
    ap (λ (b : Bool). cond (b && (view s).present k) (recovery_line limits16 (view s) k) (at s.core.base k)) (le-ltb k limits16.width (omega (arith, h, width16)))
    ∙ beyond s.core.base k z.core.base h

lines_above : (m : Model) (c : ℕ) → m.numbers.base c ≤ lines limits16 m c
lines_above m c =
    cond_case (λ (x : ℕ). m.numbers.base c ≤ x) (is_card limits16 m c)
    (λ e. (climbed (λ x. orphan limits16.width m.numbers.stored (m.memory.frame c x)) (m.numbers.base c) (m.numbers.reached c - m.numbers.base c)).from_base)
    (λ e. le_refl (m.numbers.base c))

-- ---- a cabinet of its lengths, with nothing beyond card 15
module _ (s : Cabinet) (z : Sized s) (w : Narrow (view s)) where
  abbrev m : Model
  m = view s

  abbrev PlanFits : Plan → Type 0
  PlanFits p = EditsFit s p.edits

  pub open_fits : (reads writes : ℕ) → reads < 65536 → writes < 65536 → PlanFits (open_plan limits16 m (member reads) (member writes))
  open_fits reads writes hr hw =
      checked_case PlanFits (open_checks limits16 m (member reads) (member writes)) _ _ (λ r. tt)
      (λ ps.
      let free : free_at limits16 m < limits16.slots = ltb-true (free_at limits16 m) limits16.slots (not_not (ltb (free_at limits16 m) limits16.slots) ps.1.1.1.1.1.0) in
      ((omega (arith, free, slots8), record { reads = λ k h. member_above 16 reads k hr h; writes = λ k h. member_above 16 writes k hw h; yes = λ k h. refl; taken = λ k h. refl; vector = λ k h. refl }), (tt, tt)))

  vote_fits : (k c : ℕ) (agrees : Bool) → PlanFits (vote_plan limits16 m k c agrees)
  vote_fits k c agrees =
      checked_case PlanFits (vote_checks limits16 m k c) _ _ (λ r. tt)
      (λ ps. ((slot8 m k ps.1.1.1.0, voted_fits m (m.slot (slot_of limits16 m k)) c agrees w (w.slots (slot_of limits16 m k)) (card16 m c ps.1.0)), tt))

  -- the share that a card takes: there is room where it is to write
  share_fits : (k c : ℕ) → Passed (take_checks limits16 m k c) → EditFits s (share_edit (m.slot (slot_of limits16 m k)) c)
  share_fits k c ps =
      cond_case (EditFits s) (o.change.writes c) grows (λ e. (card, (w.slots p).vector))
    where
      p : ℕ
      p = slot_of limits16 m k

      o : OpenChange
      o = m.slot (slot_of limits16 m k)

      card : c < 16
      card = card16 m c ps.1.0

      fine : valid limits16 m ≡ true
      fine = not_not (valid limits16 m) ps.0

      open_now : is_open (m.slot (slot_of limits16 m k)) ≡ true
      open_now = (known_slot limits16 m k (not_not (is_known limits16 m k) ps.1.1.1.0)).1

      untaken : not ((m.slot (slot_of limits16 m k)).taken c) ≡ true
      untaken = and_right (touches (m.slot (slot_of limits16 m k)).change c) (not ((m.slot (slot_of limits16 m k)).taken c)) (not_not (touches (m.slot (slot_of limits16 m k)).change c && not ((m.slot (slot_of limits16 m k)).taken c)) ps.1.1.1.1.1.0)

      grows : (m.slot (slot_of limits16 m k)).change.writes c ≡ true → EditFits s (edit.grow c (m.slot (slot_of limits16 m k)).change.number (m.slot (slot_of limits16 m k)).vector)
      grows e =
          let room : room_to_write limits16 m.numbers c ≡ true =
          room_known m (m.slot (slot_of limits16 m k)) (valid_slots m fine (slot_of limits16 m k) (slot8 m k ps.1.1.1.0)) open_now c card (and_intro e untaken) in
          let r : at s.core.reached c < at s.core.base c + limits16.in_hand = ltb-true (at s.core.reached c) (at s.core.base c + limits16.in_hand) (and_left (ltb (at s.core.reached c) (at s.core.base c + limits16.in_hand)) (ltb (at s.core.reached c) limits16.greatest_state) room) in
          (card, low_reached m fine c card (and_right (ltb c limits16.width) (m.present c) (not_not (is_card limits16 m c) ps.1.0)), omega (arith, r, in_hand48), (w.slots (slot_of limits16 m k)).vector)

  take_fits : (k c : ℕ) → PlanFits (take_plan limits16 m k c)
  take_fits k c =
      checked_case PlanFits (take_checks limits16 m k c) _ _ (λ r. tt)
      (λ ps. (share_fits k c ps, ((slot8 m k ps.1.1.1.0, took_fits (m.slot (slot_of limits16 m k)) c (w.slots (slot_of limits16 m k)) (card16 m c ps.1.0)), tt)))

  withdraw_fits : (k : ℕ) → PlanFits (withdraw_plan limits16 m k)
  withdraw_fits k = checked_case PlanFits (withdraw_checks limits16 m k) _ _ (λ r. tt) (λ ps. ((slot8 m k ps.1.1.0, free_fits), tt))

  store_fits : (c x : ℕ) → PlanFits (store_plan limits16 m c x)
  store_fits c x = checked_case PlanFits (store_checks limits16 m c x) _ _ (λ r. tt) (λ ps. (card16 m c ps.1.0, tt))

  begin_fits : (c x : ℕ) → PlanFits (begin_plan limits16 m c x)
  begin_fits c x = checked_case PlanFits (store_checks limits16 m c x) _ _ (λ r. tt) (λ ps. (card16 m c ps.1.0, tt))

  end_fits : (c x : ℕ) → PlanFits (end_plan limits16 m c x)
  end_fits c x = checked_case PlanFits (end_checks limits16 m c x) _ _ (λ r. tt) (λ ps. (card16 m c ps.1.0, tt))

  trim_fits : PlanFits (trim_plan limits16 m)
  trim_fits = checked_case PlanFits (trim_checks limits16 m) _ _ (λ r. tt) (λ ps. ((lines_beyond s z, lines_above m), tt))

  safe_fits : (k : ℕ) → PlanFits (safe_plan limits16 m k)
  safe_fits k = checked_case PlanFits (safe_checks limits16 m k) _ _ (λ r. tt) (λ ps. tt)

  pub lose_fits : (cards : CardSet) → PlanFits (lose_plan limits16 m cards)
  lose_fits cards =
      checked_case PlanFits (lose_checks limits16 m cards) _ _ (λ r. tt)
      (λ ps. (tt, cond_case (EditsFit (apply (edit.fall cards) s)) (is_up m.phase) (λ e. (tt, tt)) (λ e. tt)))

  pub fix_fits : (a b : ℕ) → PlanFits (fix_plan limits16 m a b)
  fix_fits a b = checked_case PlanFits (fix_checks limits16 m a b) _ _ (λ r. tt) (λ ps. (lines_beyond s z, tt))

  roll_fits : (c : ℕ) → PlanFits (roll_plan limits16 m c)
  roll_fits c =
      checked_case PlanFits (roll_checks limits16 m c) _ _ (λ r. tt)
      (λ ps. (card16 m c ps.1.0, cond_case (EditsFit (apply (edit.lower c) s)) (all_rolled limits16 m (with_card m.rolled c)) (λ e. (tt, tt)) (λ e. tt)))

  pub plain_fits : (q : Plain) → PlanFits (plain_plan limits16 m q)
  plain_fits (vote_call k c agrees) = vote_fits k c agrees
  plain_fits (take_call k c) = take_fits k c
  plain_fits (withdraw_call k) = withdraw_fits k
  plain_fits (store_call c x) = store_fits c x
  plain_fits (begin_call c x) = begin_fits c x
  plain_fits (end_call c x) = end_fits c x
  plain_fits trim_call = trim_fits
  plain_fits (safe_call k) = safe_fits k
  plain_fits (roll_call c) = roll_fits c
