-- Demand 1 and the card that 21 names, for any limits, any cabinet and any arguments. Assumes nothing.
use Prim.Native.Nat.{ℕ, ◌<◌}
use mathlib.Core.Path.{◌≡◌, refl, sym, ◌∙◌, ap, subst}
use mathlib.Core.Bool.{Bool, true, false, not, ◌&&◌, ◌||◌}
use mathlib.Core.Logic.{◌⊎◌, inl, inr, ⊎_elim}
use mathlib.Core.List.{List, [], ◌∷◌}
use native.Mathlib.Omega.{arith}
use lib.Dec.{eqb}
use borrow.Author.Tests.{eq-eqb, lt-ltb}
use Rattle.base_laws.specs.Below.{any_below}
use Rattle.base_laws.proofs.Logic.{clash, and_left, and_right, and_intro, or_left, or_right, or_elim}
use Rattle.base_laws.proofs.Below.{Found, any_elim, first_before, first_below_lem, first_some}
use Rattle.base_refusal.specs.declared.Refusal.{Refusal}
use Rattle.base_refusal.specs.declared.Refusal.TheVariants.{NoSuchCard, BothSetsEmpty, WrongPhase, Barred, NoSlot, InHandFull, LimitReached, BadCabinet}
use Rattle.base_refusal.specs.Number.{number_of}
use Rattle.base_refusal.proofs.Rows.{row_of}
use Rattle.theory_history.specs.Change.{CardSet, touches}
use Rattle.theory_protocol.specs.Codec.{Codec}
use Rattle.theory_protocol.specs.Model.{Limits, OpenChange, Model, strays, is_open}
use Rattle.theory_protocol.specs.Edit.{Edit}
use Rattle.theory_protocol.specs.Plan.{Answer, Reply, accepted, refused, Check, ◌⇒◌, Plan, checked, Passed, Due, after_plan}
use Rattle.theory_protocol.specs.Calls.{bars, barred, lowest_barred, open_checks}
use Rattle.theory_protocol.specs.Run.{Plain, Call, plain, open_call, vote_call, take_call, withdraw_call, store_call, begin_call, end_call, trim_call, safe_call, lose_call, fix_call, roll_call, sheet_call, restart_call, plain_checks, plain_plan, checks_of, plan_of, after_call, after_restart}
use Rattle.theory_protocol.specs.Demands.{Demand1, NamedRight, NamesLowest}
use Rattle.theory_protocol.proofs.Steps.{checked_case, touched_there}

-- ---- demand 1
pub not_both : {A : Type 0} (a : Answer) (r : Refusal) → accepted a ≡ refused r → A
not_both a r e = let z : ◌≡◌ {A = ℕ} 0 1 = cc in absurd (omega arith)

refusal_keeps : (L : Limits) (m : Model) (cs : List Check) (a : Answer) (es : List Edit) (r : Refusal) → (checked cs a es).reply ≡ refused r → after_plan L (checked cs a es) m ≡ m
refusal_keeps L m cs a es =
    checked_case (λ (p : Plan). (r : Refusal) → p.reply ≡ refused r → after_plan L p m ≡ m) cs a es (λ x r e. refl) (λ ps r e. not_both a r e)

-- the first check that fails refuses, and where none does the call is accepted
refusal_due : (cs : List Check) (a : Answer) (es : List Edit) (r : Refusal) → (checked cs a es).reply ≡ refused r → Due cs r
refusal_due [] a es r e = not_both a r e
refusal_due ((true ⇒ q) ∷ cs) a es r e = let z : q ≡ r = cc in inl (refl, z)
refusal_due ((false ⇒ q) ∷ cs) a es r e = inr (refl, refusal_due cs a es r e)

acceptance_passed : (cs : List Check) (a : Answer) (es : List Edit) (b : Answer) → (checked cs a es).reply ≡ accepted b → Passed cs
acceptance_passed cs a es = checked_case (λ (p : Plan). (b : Answer) → p.reply ≡ accepted b → Passed cs) cs a es (λ r b e. not_both b r (sym e)) (λ ps b e. ps)

-- the reply of a call is that of its table
abbrev pub ByTable : Plan → List Check → Type 0
ByTable p cs = (a : Answer) × (es : List Edit) × (p ≡ checked cs a es)

by_plain : (L : Limits) (m : Model) (q : Plain) → ByTable (plain_plan L m q) (plain_checks L m q)
by_plain L m (vote_call k c agrees) = (_, _, refl)
by_plain L m (take_call k c) = (_, _, refl)
by_plain L m (withdraw_call k) = (_, _, refl)
by_plain L m (store_call c s) = (_, _, refl)
by_plain L m (begin_call c s) = (_, _, refl)
by_plain L m (end_call c x) = (_, _, refl)
by_plain L m trim_call = (_, _, refl)
by_plain L m (safe_call k) = (_, _, refl)
by_plain L m (roll_call c) = (_, _, refl)

pub by_table : (C : Codec) (L : Limits) (m : Model) (call : Call) → ByTable (plan_of C L m call) (checks_of C L m call)
by_table C L m (open_call reads writes) = (_, _, refl)
by_table C L m (plain q) = by_plain L m q
by_table C L m (lose_call cards) = (_, _, refl)
by_table C L m (fix_call a b) = (_, _, refl)
by_table C L m (sheet_call c places) = (_, _, refl)
by_table C L m restart_call = (_, _, refl)

pub demand_1 : Demand1
demand_1 C L m call =
    record {
      passed = λ b e. acceptance_passed (checks_of C L m call) t.0 t.1 b (sym (ap (λ (p : Plan). p.reply) t.2) ∙ e);
      due = λ r e. refusal_due (checks_of C L m call) t.0 t.1 r (sym (ap (λ (p : Plan). p.reply) t.2) ∙ e);
      listed = λ r e. (row_of r).listed;
      unchanged = unchanged call;
    }
  where
    t : ByTable (plan_of C L m call) (checks_of C L m call)
    t = by_table C L m call

    keeps : (call : Call) (r : Refusal) → (plan_of C L m call).reply ≡ refused r → after_plan L (plan_of C L m call) m ≡ m
    keeps call r e =
        let b : ByTable (plan_of C L m call) (checks_of C L m call) = by_table C L m call in
        ap (λ (q : Plan). after_plan L q m) b.2 ∙ refusal_keeps L m (checks_of C L m call) b.0 b.1 r (sym (ap (λ (q : Plan). q.reply) b.2) ∙ e)

    unchanged : (call : Call) (r : Refusal) → (plan_of C L m call).reply ≡ refused r → after_call C L m call ≡ m
    unchanged (open_call reads writes) = keeps (open_call reads writes)
    unchanged (plain q) = keeps (plain q)
    unchanged (lose_call cards) = keeps (lose_call cards)
    unchanged (fix_call a b) = keeps (fix_call a b)
    unchanged (sheet_call c places) = keeps (sheet_call c places)
    unchanged restart_call = λ r e. ap (λ (y : Reply). after_restart y (C.restarted L (C.joined L m)) m) e

-- ---- the card that 21 names
-- a row whose refusal has another number than the one due has passed
past : {A B C : Type 0} (q r : Refusal) → eqb (number_of q) (number_of r) ≡ false → (A × (q ≡ r)) ⊎ (B × C) → B × C
past q r n (inl z) = clash (eq-eqb (number_of q) (number_of r) (ap number_of z.1)) n
past q r n (inr z) = z

-- in the table of open the fifth row alone has 21
fifth : (a b c d e f g h : Bool) (named x : ℕ)
    → Due (a ⇒ BadCabinet ∷ b ⇒ NoSuchCard ∷ c ⇒ BothSetsEmpty ∷ d ⇒ WrongPhase ∷ e ⇒ Barred named ∷ f ⇒ NoSlot ∷ g ⇒ InHandFull ∷ h ⇒ LimitReached ∷ []) (Barred x)
    → (b ≡ false) × (e ≡ true) × (named ≡ x)
fifth a b c d e f g h named x z =
    let second : (b ≡ false) × Due (c ⇒ BothSetsEmpty ∷ d ⇒ WrongPhase ∷ e ⇒ Barred named ∷ f ⇒ NoSlot ∷ g ⇒ InHandFull ∷ h ⇒ LimitReached ∷ []) (Barred x) = past NoSuchCard (Barred x) refl (past BadCabinet (Barred x) refl z).1 in
    let row : (e ≡ true) × (named ≡ x) = of_row (past WrongPhase (Barred x) refl (past BothSetsEmpty (Barred x) refl second.1).1).1 in
    (second.0, row.0, row.1)
  where
    of_row : Due (e ⇒ Barred named ∷ f ⇒ NoSlot ∷ g ⇒ InHandFull ∷ h ⇒ LimitReached ∷ []) (Barred x) → (e ≡ true) × (named ≡ x)
    of_row (inl y) = let q : Barred named ≡ Barred x = y.1 in let same : named ≡ x = cc in (y.0, same)
    of_row (inr y) = absurd (past LimitReached (Barred x) refl (past InHandFull (Barred x) refl (past NoSlot (Barred x) refl y.1).1).1).1

module _ (L : Limits) (m : Model) (reads writes : CardSet) where
  -- what an opening finds barred it touches
  barred_touched : (c : ℕ) → barred L m reads writes c ≡ true → reads c || writes c ≡ true
  barred_touched c e = let f : Found L.slots (λ p. bars (m.slot p) reads writes c) = any_elim L.slots (λ p. bars (m.slot p) reads writes c) e in by_slot (m.slot f.0) f.2
    where
      by_slot : (o : OpenChange) → bars o reads writes c ≡ true → reads c || writes c ≡ true
      by_slot o z =
          ⊎_elim (λ (y : writes c ≡ true). or_right (reads c) y) (λ (y : reads c && o.change.writes c ≡ true). or_left (writes c) (and_left (reads c) (o.change.writes c) y))
          (or_elim (writes c) (reads c && o.change.writes c) (and_right (is_open o && touches o.change c && not (o.taken c)) (writes c || (reads c && o.change.writes c)) z))

  abbrev lowest : ℕ
  lowest = lowest_barred L m reads writes

  module _ (some : any_below L.width (barred L m reads writes) ≡ true) where
    -- barred, and no lower card is
    lowest_found : (barred L m reads writes lowest ≡ true) × ((d : ℕ) → d < lowest → barred L m reads writes d ≡ false)
    lowest_found = (first_some L.width (barred L m reads writes) some, first_before L.width (barred L m reads writes))

    lowest_below : lowest < L.width
    lowest_below = first_below_lem L.width (barred L m reads writes) some

    lowest_touched : reads lowest || writes lowest ≡ true
    lowest_touched = barred_touched lowest lowest_found.0

    named_right : strays L m reads || strays L m writes ≡ false → NamedRight L m reads writes lowest
    named_right e =
        record {
          is_card_lem = and_intro (lt-ltb lowest L.width lowest_below) (touched_there L m reads writes e lowest lowest_below lowest_touched);
          touched = lowest_touched;
          is_barred = lowest_found.0;
          lowest = lowest_found.1;
        }

pub names_lowest : NamesLowest
names_lowest L m reads writes c e =
    let z : (strays L m reads || strays L m writes ≡ false) × (any_below L.width (barred L m reads writes) ≡ true) × (lowest_barred L m reads writes ≡ c) = fifth _ _ _ _ _ _ _ _ _ c (refusal_due (open_checks L m reads writes) _ _ (Barred c) e) in
    subst (NamedRight L m reads writes) z.2 (named_right L m reads writes z.1 z.0)
