-- Demand 1 of the 16-card cabinet, a forged one too: each answer is that of the call's table, and what is refused changes nothing; the card that 21 names, and the list of lost changes. Assumes nothing.
use Prim.Native.Nat.{ℕ}
use mathlib.Core.Path.{◌≡◌, refl, sym, ◌∙◌, ap}
use mathlib.Core.List.{List, []}
use lib.ListN.{length}
use Rattle.base_refusal.specs.declared.Refusal.{Refusal}
use Rattle.base_bits.specs.Member.{member}
use Rattle.theory_codec.specs.Sheets.{codec}
use Rattle.theory_protocol.specs.Edit.{Edit}
use Rattle.theory_protocol.specs.Plan.{Answer, fixed, Reply, accepted, refused, Check, Plan, checked}
use Rattle.theory_protocol.specs.Calls.{fix_plan}
use Rattle.theory_protocol.specs.Codec.{sheet_plan}
use Rattle.theory_protocol.specs.Run.{Call, checks_of, plan_of}
use Rattle.theory_protocol.specs.Run as run
use Rattle.theory_protocol.proofs.Steps.{checked_case}
use Rattle.theory_protocol.proofs.Claims.{ByTable, by_table, not_both, demand_1, names_lowest}
use Rattle.theory_protocol.proofs.Listed.{lists_rising}
use Rattle.cabinet_layout.specs.Shape.{limits16}
use Rattle.cabinet_recovery.specs.Fix.{list_after}
use Rattle.cabinet_sheet.specs.Card.{buffer_after}
use Rattle.cabinet.specs.declared.Cabinet.{Cabinet}
use Rattle.cabinet.specs.View.{view}
use Rattle.cabinet.specs.Apply.{Carried, apply_all}
use Rattle.cabinet.specs.Lent.{records_after}
use Rattle.cabinet_records.specs.declared.CardRecord.{CardRecord}
use Rattle.theory_codec.specs.Sheets.{restart_reply}
use Rattle.sheet_readout.specs.Joint.{readout_of}
use Rattle.cabinet_restart.specs.Restart.{cabinet_for}
use Rattle.cabinet_joined.specs.Joined.{own_sheets, going_on}
use Rattle.demands_lists.specs.Lists.{Asked, opening, plain, lose, fix, sheet, restart, Lent, nothing_lent, FixAnswered, SheetAnswered, Answered}
use Rattle.demands_lists.specs.Claims.{Said, answers, refuses, Outcome, Gets, CallsAnswer}
use Rattle.demands_lists.proofs.Some.{some}

-- a plan that refuses changes nothing
refused_keeps : (s : Cabinet) (cs : List Check) (a : Answer) (es : List Edit) (r : Refusal) → refused r ≡ (checked cs a es).reply → apply_all (checked cs a es).edits s ≡ s
refused_keeps s cs a es r =
    checked_case (λ (p : Plan). refused r ≡ p.reply → apply_all p.edits s ≡ s) cs a es (λ q e. refl) (λ ps e. not_both a r (sym e))

both_lists : (x y : Lent) → x.records ≡ y.records → x.numbers ≡ y.numbers → x ≡ y
both_lists x y p q = λ i. record { records = p i; numbers = q i }

-- by the plan of a call
said_of : (s : Cabinet) (call : Call) (reply : Reply) → reply ≡ (plan_of codec limits16 (view s) call).reply → Said (checks_of codec limits16 (view s) call) reply
said_of s call (accepted a) e = answers a ((demand_1 codec limits16 (view s) call).passed a (sym e))
said_of s call (refused r) e = refuses r ((demand_1 codec limits16 (view s) call).due r (sym e)) ((demand_1 codec limits16 (view s) call).listed r (sym e))

outcome_of : (s : Cabinet) (call : Call) (t : Cabinet) (before after : Lent) (reply : Reply) → reply ≡ (plan_of codec limits16 (view s) call).reply
    → ((r : Refusal) → reply ≡ refused r → (t ≡ s) × (after ≡ before)) → Outcome (checks_of codec limits16 (view s) call) s t before after reply
outcome_of s call t before after reply e keeps = record { said = said_of s call reply e; unchanged = keeps }

-- of a call that is carried out by its plan; what is lent stays where it is refused
by_plan : (s : Cabinet) (call : Call) (t : Cabinet) (before after : Lent) (reply : Reply) → Carried s (plan_of codec limits16 (view s) call) reply t
    → ((r : Refusal) → refused r ≡ (plan_of codec limits16 (view s) call).reply → after ≡ before) → Outcome (checks_of codec limits16 (view s) call) s t before after reply
by_plan s call t before after reply d stays =
    let b : ByTable (plan_of codec limits16 (view s) call) (checks_of codec limits16 (view s) call) = by_table codec limits16 (view s) call in
    outcome_of s call t before after reply d.answer
    (λ r z. let q : refused r ≡ (plan_of codec limits16 (view s) call).reply = sym z ∙ d.answer in (
      d.cabinet ∙ ap (λ (y : Plan). apply_all y.edits s) b.2 ∙ refused_keeps s (checks_of codec limits16 (view s) call) b.0 b.1 r (q ∙ ap (λ (y : Plan). y.reply) b.2),
      stays r q,
    ))

-- what a fix answers: the reply of its plan, and each place of both lists
pub fix_carried : (s : Cabinet) (records : List CardRecord) (list : List ℕ) (reply : Reply) (t : Cabinet) (after : Lent) → FixAnswered s records list reply t after → Carried s (fix_plan limits16 (view s) (length records) (length list)) reply t
fix_carried s records list reply t after d = record { answer = d.answer ∙ d.both.carried.told.answer; cabinet = d.both.carried.cabinet }

fix_lent : (s : Cabinet) (records : List CardRecord) (list : List ℕ) (reply : Reply) (t : Cabinet) (after : Lent) → FixAnswered s records list reply t after
    → (y : Reply) → (fix_plan limits16 (view s) (length records) (length list)).reply ≡ y → after ≡ record { records = records_after y records; numbers = list_after y list }
fix_lent s records list reply t after d y e =
    both_lists after (record { records = records_after y records; numbers = list_after y list }) (d.both.filled ∙ ap (λ (u : Reply). records_after u records) e) (d.both.carried.told.list ∙ ap (λ (u : Reply). list_after u list) e)

-- a card's sheet likewise
pub sheet_carried : (s : Cabinet) (c : ℕ) (buffer : List ℕ) (reply : Reply) (t : Cabinet) (after : Lent) → SheetAnswered s c buffer reply t after → Carried s (sheet_plan codec limits16 (view s) c (length buffer)) reply t
sheet_carried s c buffer reply t after d = record { answer = d.answer ∙ d.carried.told.answer; cabinet = d.carried.cabinet }

sheet_lent : (s : Cabinet) (c : ℕ) (buffer : List ℕ) (reply : Reply) (t : Cabinet) (after : Lent) → SheetAnswered s c buffer reply t after
    → (y : Reply) → (sheet_plan codec limits16 (view s) c (length buffer)).reply ≡ y → after ≡ record { records = []; numbers = buffer_after y buffer }
sheet_lent s c buffer reply t after d y e =
    both_lists after (record { records = []; numbers = buffer_after y buffer }) d.no_records (d.carried.told.buffer ∙ ap (λ (u : Reply). buffer_after u buffer) e)

-- ---- every answer is as said
pub every : (s : Cabinet) (asked : Asked) (reply : Reply) (t : Cabinet) (after : Lent) → Answered s asked reply t after → Gets s asked reply t after
every s (opening reads writes) reply t after d =
    record {
      outcome = by_plan s (run.open_call (member reads) (member writes)) t nothing_lent after reply d.0 (λ r e. d.1);
      names = λ c e. names_lowest limits16 (view s) (member reads) (member writes) c (sym d.0.answer ∙ e);
      lists = tt;
    }
every s (plain q) reply t after d = record { outcome = by_plan s (run.plain q) t nothing_lent after reply d.0 (λ r e. d.1); names = tt; lists = tt }
every s (lose cards) reply t after d = record { outcome = by_plan s (run.lose_call (member cards)) t nothing_lent after reply d.0 (λ r e. d.1); names = tt; lists = tt }
every s (fix records list) reply t after d =
    record {
      outcome = by_plan s (run.fix_call (length records) (length list)) t (record { records = records; numbers = list }) after reply (fix_carried s records list reply t after d) (λ r q. fix_lent s records list reply t after d (refused r) (sym q));
      names = tt;
      lists = λ rows numbers e.
          let q : (fix_plan limits16 (view s) (length records) (length list)).reply ≡ accepted (fixed rows numbers) = sym (fix_carried s records list reply t after d).answer ∙ e in
          (lists_rising limits16 (view s) (length records) (length list) rows numbers q, ap (λ (x : Lent). x.numbers) (fix_lent s records list reply t after d (accepted (fixed rows numbers)) q));
    }
every s (sheet c buffer) reply t after d =
    record {
      outcome = by_plan s (run.sheet_call c (length buffer)) t (record { records = []; numbers = buffer }) after reply (sheet_carried s c buffer reply t after d) (λ r q. sheet_lent s c buffer reply t after d (refused r) (sym q));
      names = tt;
      lists = tt;
    }
every s restart reply t after d =
    record {
      outcome = outcome_of s run.restart_call t nothing_lent after reply d.0.answer
          (λ r z. (d.0.cabinet ∙ ap (λ (u : Reply). going_on u (cabinet_for (restart_reply (own_sheets s)) (readout_of (own_sheets s)).readout) s) (sym d.0.answer ∙ z), d.1));
      names = tt;
      lists = tt;
    }

-- ---- there is no other
same_plan : (s : Cabinet) (p : Plan) (reply reply' : Reply) (t t' : Cabinet) (after after' : Lent) → Carried s p reply t → Carried s p reply' t' → after ≡ after' → (reply ≡ reply') × (t ≡ t') × (after ≡ after')
same_plan s p reply reply' t t' after after' d d' e = (d.answer ∙ sym d'.answer, d.cabinet ∙ sym d'.cabinet, e)

one : (s : Cabinet) (asked : Asked) (reply reply' : Reply) (t t' : Cabinet) (after after' : Lent) → Answered s asked reply t after → Answered s asked reply' t' after' → (reply ≡ reply') × (t ≡ t') × (after ≡ after')
one s (opening reads writes) reply reply' t t' after after' d d' = same_plan s _ reply reply' t t' after after' d.0 d'.0 (d.1 ∙ sym d'.1)
one s (plain q) reply reply' t t' after after' d d' = same_plan s _ reply reply' t t' after after' d.0 d'.0 (d.1 ∙ sym d'.1)
one s (lose cards) reply reply' t t' after after' d d' = same_plan s _ reply reply' t t' after after' d.0 d'.0 (d.1 ∙ sym d'.1)
one s (fix records list) reply reply' t t' after after' d d' =
    same_plan s _ reply reply' t t' after after' (fix_carried s records list reply t after d) (fix_carried s records list reply' t' after' d') (fix_lent s records list reply t after d _ refl ∙ sym (fix_lent s records list reply' t' after' d' _ refl))
one s (sheet c buffer) reply reply' t t' after after' d d' =
    same_plan s _ reply reply' t t' after after' (sheet_carried s c buffer reply t after d) (sheet_carried s c buffer reply' t' after' d') (sheet_lent s c buffer reply t after d _ refl ∙ sym (sheet_lent s c buffer reply' t' after' d' _ refl))
one s restart reply reply' t t' after after' d d' = (d.0.answer ∙ sym d'.0.answer, d.0.cabinet ∙ sym d'.0.cabinet, d.1 ∙ sym d'.1)

pub calls_answer : CallsAnswer
calls_answer = record { some = some; one = one; each = every }
