-- Demands 1, 2 and 3 of the 16-card cabinet: what it shows runs as the model runs. Assumes nothing.
use Rattle.std.specs.Prelude.{Ok, Err}
use Prim.Native.Nat.{ℕ, ◌+◌, ◌*◌, ◌≤◌}
use mathlib.Core.Path.{◌≡◌, refl, sym, ◌∙◌, ap, subst, subst₂}
use mathlib.Core.Bool.{Bool, true, false, not, ◌&&◌, cond}
use mathlib.Core.List.{List, [], ◌∷◌}
use native.Mathlib.Omega.{arith}
use lib.Dec.{leb, ltb}
use lib.ListN.{length, get_or}
use borrow.Author.Tests.{leb-true, lt-ltb, le-ltb}
use Rattle.base_limits.specs.Ring.{ring_place}
use Rattle.base_laws.proofs.Logic.{test, and_left, and_right}
use Rattle.base_bits.specs.Member.{member}
use Rattle.base_refusal.specs.Reply as refusal
use Rattle.sheet_lines.specs.Format.{formats}
use Rattle.theory_history.specs.Change.{Numbers}
use Rattle.theory_codec.specs.Sheets.{codec}
use Rattle.theory_protocol.specs.Model.{Model}
use Rattle.theory_protocol.specs.Plan.{Answer, done, Reply, accepted, refused, reply_of, ◌⇒◌, Plan, checked, after_plan}
use Rattle.theory_protocol.specs.Calls.{fresh_refused, fresh_model, fix_plan}
use Rattle.theory_protocol.proofs.Steps.{checked_case, not_not}
use Rattle.theory_protocol.proofs.Claims.{not_both}
use Rattle.base_refusal.specs.declared.Refusal.TheVariants.{CardCount, BadCabinet}
use Rattle.sheet_pages.specs.declared.Readout.{Readout}
use Rattle.sheet_readout.specs.Joint.{readout_of}
use Rattle.theory_protocol.specs.Valid.{valid}
use Rattle.theory_protocol.specs.Codec.{sheet_checks, sheet_plan, verdict_checks}
use Rattle.theory_codec.specs.Sheets.{joined_sheets, restart_reply, restarted_from}
use Rattle.cabinet_restart.proofs.Ring.{stored_in, is_in, vector_in, ring_model}
use Rattle.theory_protocol.specs.Run.{Call, plan_of, after_call, Calls, none, further, Run, after_restart}
use Rattle.theory_protocol.specs.Run as run
use Rattle.theory_protocol.specs.Demands as model
use Rattle.theory_codec.specs.Claims.{SheetLimits}
use Rattle.theory_protocol.specs.Demands.{CallRight, CabinetRight}
use Rattle.theory_codec.proofs.Document.{demands}
use Rattle.cabinet_layout.specs.Shape.{limits16}
use Rattle.cabinet_layout.proofs.Limits.{width16, in_hand48, greatest60000, greatest_number32}
use Rattle.cabinet.specs.declared.Cabinet.{Cabinet}
use Rattle.cabinet.specs.View.{view}
use Rattle.cabinet.specs.Apply.{Carried, apply_all}
use Rattle.cabinet.specs.Fixing.{FixCarried}
use Rattle.cabinet.specs.Fresh.{Freshly, zero_cabinet, fresh_head, void_head}
use Rattle.cabinet_joined.specs.Joined.{own_sheets, going_on}
use Rattle.demands_lists.specs.Lists.{Asked, opening, plain, lose, fix, sheet, restart, call_of, Typed, Lent, Sized, Answered, List16, start, next}
use Rattle.demands_lists.specs.Claims.{RestartGives, CabinetRight16, Throughout, Demands23}
use Rattle.cabinet_layout.proofs.Held.{free_fits}
use Rattle.sheet_pages.proofs.Lay as lay
use Rattle.cabinet_restart.specs.Restart.{restarted_cabinet, cabinet_for, Restarted}
use Rattle.cabinet_restart.proofs.Shows as restarts
use Rattle.demands_lists.proofs.Narrow.{Narrow}
use Rattle.demands_lists.proofs.Lengths.{by_card, by_slot, set_small}
use Rattle.demands_lists.proofs.Laws.{EditsFit, Shows, edits_show}
use Rattle.demands_lists.proofs.Plans.{open_fits, plain_fits, lose_fits, fix_fits}
use Rattle.demands_lists.proofs.Fresh.{fresh_shows}

limits_fit : SheetLimits limits16
limits_fit = record { width = width16; in_hand = in_hand48; greatest_state = greatest60000; greatest_number = greatest_number32 }

-- ---- one call
-- what the struct's call is in the model: its reply and the cabinet after it
pub record Step (s : Cabinet) (call : Call) (reply : Reply) (t : Cabinet) : Type 0 where
  pub replied : reply ≡ (plan_of codec limits16 (view s) call).reply
  pub after : Shows (after_call codec limits16 (view s) call) t

shown : (s : Cabinet) → Sized s → Narrow (view s) → Shows (view s) s
shown s z w = record { same = refl; sized = z; narrow = w }

-- the cabinet after a plan whose edits fit
planned : (s : Cabinet) → Sized s → Narrow (view s) → (p : Plan) (t : Cabinet) → EditsFit s p.edits → t ≡ apply_all p.edits s → Shows (after_plan limits16 p (view s)) t
planned s z w p t f e = subst (Shows (after_plan limits16 p (view s))) (sym e) (edits_show p.edits (view s) s (shown s z w) f)

-- a call that is carried out by its plan
carried_step : (s : Cabinet) → Sized s → Narrow (view s) → (call : Call) (reply : Reply) (t : Cabinet)
    → (after_call codec limits16 (view s) call ≡ after_plan limits16 (plan_of codec limits16 (view s) call) (view s))
    → EditsFit s (plan_of codec limits16 (view s) call).edits → Carried s (plan_of codec limits16 (view s) call) reply t → Step s call reply t
carried_step s z w call reply t e f d =
    record {
      replied = d.answer;
      after = subst (λ (m : Model). Shows m t) (sym e) (planned s z w (plan_of codec limits16 (view s) call) t f d.cabinet);
    }

sheet_fits : (s : Cabinet) (c places : ℕ) → EditsFit s (sheet_plan codec limits16 (view s) c places).edits
sheet_fits s c places = checked_case (λ (p : Plan). EditsFit s p.edits) (sheet_checks codec limits16 (view s) c places) _ _ (λ r. tt) (λ ps. tt)

restarted_narrow : (r : Readout) → Narrow (ring_model r)
restarted_narrow r = record { slots = λ p. free_fits; last = short; pending = short }
  where
    short : (c k : ℕ) → 16 ≤ k → vector_in r c (stored_in r c) k ≡ 0
    short c k h = outside (is_in r c (stored_in r c)) (ltb k limits16.width) (le-ltb k limits16.width (omega (arith, h, width16)))
      where
        outside : (a b : Bool) → b ≡ false → cond (a && b) (get_or r.entries (ring_place c (stored_in r c) * 16 + k) 0) 0 ≡ 0
        outside true b e = ap (λ (x : Bool). cond x (get_or r.entries (ring_place c (stored_in r c) * 16 + k) 0) 0) e
        outside false b e = refl

restarted_sized : (r : Readout) → lay.Sized r → Sized (restarted_cabinet r)
restarted_sized r z =
    record {
      entries = z.entries;
      changes = z.changes;
      core = record {
        last = by_card _;
        pending = by_card _;
        slots = by_slot _;
        base = by_card _;
        stored = by_card _;
        held = by_card _;
        reached = by_card _;
        line = by_card _;
        ended = by_slot _;
        rolled = set_small _;
        writing = by_card _;
      };
    }

-- the cabinet after a restart, by whether 28 lets the old one pass and by the verdict on its sheets
restarted_shows : (b : Bool) (v : refusal.Reply) (bytes : List ℕ) (s t : Cabinet) → Sized s → Narrow (view s) → restart_reply bytes ≡ v
    → t ≡ going_on (checked (not b ⇒ BadCabinet ∷ verdict_checks v) done []).reply (cabinet_for v (readout_of bytes).readout) s
    → Shows (after_restart (checked (not b ⇒ BadCabinet ∷ verdict_checks v) done []).reply (restarted_from limits16 bytes) (view s)) t
restarted_shows true (Ok tt) bytes s t z w v e =
    subst (Shows (restarted_from limits16 bytes)) (sym e)
    (record {
      same = restarts.restarted_shows bytes v;
      sized = restarted_sized (readout_of bytes).readout (restarts.readout_sized bytes v);
      narrow = subst Narrow (restarts.ring_shows bytes v) (restarted_narrow (readout_of bytes).readout);
    })
restarted_shows true (Err r) bytes s t z w v e = subst (Shows (view s)) (sym e) (shown s z w)
restarted_shows false v bytes s t z w q e = subst (Shows (view s)) (sym e) (shown s z w)

pub step : (s : Cabinet) → Sized s → Narrow (view s) → (asked : Asked) → Typed asked → (reply : Reply) (t : Cabinet) (after : Lent) → Answered s asked reply t after → Step s (call_of asked) reply t
step s z w (opening reads writes) y reply t after d = carried_step s z w (run.open_call (member reads) (member writes)) reply t refl (open_fits s z w reads writes y.0 y.1) d.0
step s z w (plain q) y reply t after d = carried_step s z w (run.plain q) reply t refl (plain_fits s z w q) d.0
step s z w (lose cards) y reply t after d = carried_step s z w (run.lose_call (member cards)) reply t refl (lose_fits s z w (member cards)) d.0
step s z w (fix records list) y reply t after d =
    let c : FixCarried s (length records) list after.numbers d.told t = d.both.carried in
    record {
      replied = d.answer ∙ c.told.answer;
      after = planned s z w (fix_plan limits16 (view s) (length records) (length list)) t (fix_fits s z w (length records) (length list)) c.cabinet;
    }
step s z w (sheet c buffer) y reply t after d =
    record {
      replied = d.answer ∙ d.carried.told.answer;
      after = planned s z w (sheet_plan codec limits16 (view s) c (length buffer)) t (sheet_fits s c (length buffer)) d.carried.cabinet;
    }
step s z w restart y reply t after d =
    record {
      replied = d.0.answer;
      after = restarted_shows (valid limits16 (view s)) (restart_reply (own_sheets s)) (own_sheets s) s t z w refl d.0.cabinet;
    }

-- ---- whole lists
-- the model's run of a list, and what the types say of the cabinet that it leads to
pub record Joined (n : ℕ) (cs : Calls) (s : Cabinet) : Type 0 where
  pub few : n ≤ limits16.width
  pub some : 1 ≤ n
  pub made : Run codec limits16 (λ c. ltb c n) cs (view s)
  pub sized : Sized s
  pub narrow : Narrow (view s)

fresh_joined : (n : ℕ) (s : Cabinet) → Freshly n (accepted done) s → Joined n none s
fresh_joined n s f =
    test (fresh_refused limits16 n) (λ e. not_both done CardCount (f.answer ∙ ap (λ (b : Bool). cond b (refused CardCount) (accepted done)) e))
    (λ e.
    let x : s ≡ zero_cabinet (fresh_head n) = f.cabinet ∙ ap (λ (b : Bool). zero_cabinet (cond b void_head (fresh_head n))) e in
    let h : Shows (fresh_model (λ c. ltb c n)) s = subst (Shows (fresh_model (λ c. ltb c n))) (sym x) (fresh_shows n) in
    let y : leb 1 n && leb n limits16.width ≡ true = not_not (leb 1 n && leb n limits16.width) e in
    record {
      few = leb-true n limits16.width (and_right (leb 1 n) (leb n limits16.width) y);
      some = leb-true 1 n (and_left (leb 1 n) (leb n limits16.width) y);
      made = subst (Run codec limits16 (λ c. ltb c n) none) (sym h.same) run.start;
      sized = h.sized;
      narrow = subst Narrow (sym h.same) h.narrow;
    })

further_joined : (n : ℕ) (cs : Calls) (s : Cabinet) → Joined n cs s → (call : Call) (reply : Reply) (t : Cabinet) → Step s call reply t → Joined n (further cs call reply) t
further_joined n cs s j call reply t e =
    record {
      few = j.few;
      some = j.some;
      made = subst₂ (λ (z : Reply) (m : Model). Run codec limits16 (λ c. ltb c n) (further cs call z) m) (sym e.replied) (sym e.after.same) (run.next j.made call);
      sized = e.after.sized;
      narrow = subst Narrow (sym e.after.same) e.after.narrow;
    }

pub joined : {n : ℕ} {cs : Calls} {s : Cabinet} → List16 n cs s → Joined n cs s
joined {n} (start s f) = fresh_joined n s f
joined {n} (next {cs} {s} l asked y reply t after d) =
    let j : Joined n cs s = joined l in
    further_joined n cs s j (call_of asked) reply t (step s j.sized j.narrow asked y reply t after d)

-- what holds of the cabinet that a list leads to
last_right : (n : ℕ) {cs : Calls} {m : Model} (r : Run codec limits16 (λ c. ltb c n) cs m) → model.Throughout r → CabinetRight codec limits16 (λ c. ltb c n) cs m
last_right n run.start t = t
last_right n (run.next r call) t = t.2

-- what the restart of the code hands back, from sheets that restart to a line
restart_gives : (n : ℕ) → n ≤ limits16.width → (s : Cabinet) (line : Numbers) → model.RestartsTo codec limits16 (λ c. ltb c n) (view s) line
    → (reply : Reply) (handed : Cabinet) → Restarted (joined_sheets formats limits16 (view s)) reply handed → RestartGives n line reply handed
restart_gives n few s line g reply handed told =
    record {
      accepted_so = told.answer ∙ ap reply_of g.accepted_so;
      same_line = λ c l. ap (λ (m : Model). m.line c) shows ∙ g.same_line c (omega (arith, l, few)) (lt-ltb c n l);
    }
  where
    bytes : List ℕ
    bytes = joined_sheets formats limits16 (view s)

    shows : view handed ≡ restarted_from limits16 (joined_sheets formats limits16 (view s))
    shows =
        ap view (told.cabinet ∙ ap (λ (v : refusal.Reply). cabinet_for v (readout_of (joined_sheets formats limits16 (view s))).readout) g.accepted_so)
        ∙ restarts.restarted_shows (joined_sheets formats limits16 (view s)) g.accepted_so

pub cabinet_right : (n : ℕ) {cs : Calls} {s : Cabinet} → Joined n cs s → CabinetRight16 n cs s
cabinet_right n {cs} {s} j =
    record { right = r; sheets_give_line = λ line marked e. restart_gives n j.few s line (r.sheets_give_line line marked e) }
  where
    r : CabinetRight codec limits16 (λ c. ltb c n) cs (view s)
    r = last_right n j.made (demands limits16 limits_fit n j.some j.few cs (view s) j.made)

-- what holds of an accepted call
call_right : (n : ℕ) (cs : Calls) (s : Cabinet) → Joined n cs s → (call : Call) (reply : Reply) (t : Cabinet) → Step s call reply t
    → (a : Answer) → reply ≡ accepted a → CallRight limits16 (λ c. ltb c n) cs call a (view s) (view t)
call_right n cs s j call reply t e a q =
    let more : Run codec limits16 (λ c. ltb c n) (further cs call (plan_of codec limits16 (view s) call).reply) (after_call codec limits16 (view s) call) = run.next j.made call in
    let right : model.Throughout more = demands limits16 limits_fit n j.some j.few _ _ more in
    subst (λ (m : Model). CallRight limits16 (λ c. ltb c n) cs call a (view s) m) (sym e.after.same) (right.1 a (sym e.replied ∙ q))

-- demands 2 and 3
pub demands_2_3 : Demands23
demands_2_3 n cs s l = whole l
  where
    whole : {n : ℕ} {cs : Calls} {s : Cabinet} (l : List16 n cs s) → Throughout l
    whole {n} (start s f) = cabinet_right n (fresh_joined n s f)
    whole {n} (next {cs} {s} l asked y reply t after d) =
        let j : Joined n cs s = joined l in
        let e : Step s (call_of asked) reply t = step s j.sized j.narrow asked y reply t after d in
        (whole l, call_right n cs s j (call_of asked) reply t e, cabinet_right n (further_joined n cs s j (call_of asked) reply t e))
