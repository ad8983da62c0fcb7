-- Demand 1, of all that a caller can call. Assumes nothing.
use Rattle.std.specs.Prelude.{Ok, Err}
use Prim.Native.Nat.{ℕ}
use mathlib.Core.Path.{◌≡◌, refl, sym, ◌∙◌, ap, subst}
use mathlib.Core.Bool.{Bool, true, false, cond}
use mathlib.Core.Logic.{inl, ⊎_elim}
use mathlib.Core.List.{List, [], ◌∷◌}
use native.Mathlib.Omega.{arith}
use lib.Dec.{leb}
use lib.ListN.{length}
use Rattle.base_laws.proofs.Logic.{cond_case}
use Rattle.base_refusal.specs.declared.Refusal.{Refusal}
use Rattle.base_refusal.proofs.Rows.{row_of}
use Rattle.base_refusal.specs.declared.Refusal.TheVariants.{CardCount}
use Rattle.base_refusal.specs.Reply as refusal
use Rattle.sheet_lines.specs.Format.{formats}
use Rattle.sheet_pages.specs.Pages.{Page, page_bytes, read_sheets}
use Rattle.sheet_pages.specs.Walk.{no_readout, lay_pages, pages_for}
use Rattle.sheet_readout.specs.Joint.{pages_read, readout_of}
use Rattle.sheet_readout.proofs.Accepted.{read_or}
use Rattle.sheet_reader.specs.Single.{sheet_read_of}
use Rattle.sheet_writer.specs.Single.{page_verdict, wrote}
use Rattle.sheet_page_writer.specs.Write.{Wrote, wrote_bytes}
use Rattle.theory_protocol.specs.Plan.{done, Reply, accepted, refused, reply_of, ◌⇒◌}
use Rattle.theory_protocol.specs.Calls.{fresh_refused}
use Rattle.theory_protocol.specs.Codec.{verdict_checks}
use Rattle.theory_protocol.proofs.Claims.{not_both}
use Rattle.theory_codec.specs.Sheets.{restart_reply}
use Rattle.cabinet_layout.specs.Shape.{limits16}
use Rattle.cabinet.specs.declared.Cabinet.{Cabinet}
use Rattle.cabinet.specs.Fresh.{Freshly, zero_cabinet, fresh_head, void_head}
use Rattle.cabinet_restart.specs.Restart.{Restarted, cabinet_for}
use Rattle.demands_lists.specs.Claims.{Said, answers, refuses}
use Rattle.demands_lists.proofs.Refusing.{calls_answer}
use Rattle.demands_whole.proofs.Lines.{step_answers, run_answers}
use Rattle.demands_whole.specs.Demand1.{FreshGets, RestartGets, ReaderRefuses, WriterRefuses, Demand1}

-- ---- a fresh cabinet
fresh_of : (b : Bool) (n : ℕ) (reply : Reply) (next : Cabinet) → reply ≡ cond b (refused CardCount) (accepted done) → next ≡ zero_cabinet (cond b void_head (fresh_head n))
    → Said (b ⇒ CardCount ∷ []) reply × ((r : Refusal) → reply ≡ refused r → next ≡ zero_cabinet void_head)
fresh_of true n reply next e c = (subst (Said (true ⇒ CardCount ∷ [])) (sym e) (refuses CardCount (inl (refl, refl)) (row_of CardCount).listed), λ r q. c)
fresh_of false n reply next e c = (subst (Said (false ⇒ CardCount ∷ [])) (sym e) (answers done (refl, tt)), λ r q. not_both done r (sym e ∙ q))

fresh_gets : (n : ℕ) (reply : Reply) (next : Cabinet) → Freshly n reply next → FreshGets n reply next
fresh_gets n reply next f = let g = fresh_of (fresh_refused limits16 n) n reply next f.answer f.cabinet in record { said = g.0; void = g.1 }

-- ---- restart
restart_of : (v : refusal.Reply) (bytes : List ℕ) (reply : Reply) (next : Cabinet) → reply ≡ reply_of v → next ≡ cabinet_for v (readout_of bytes).readout
    → Said (verdict_checks v) reply × ((r : Refusal) → reply ≡ refused r → next ≡ zero_cabinet void_head)
restart_of (Ok tt) bytes reply next e c = (subst (Said []) (sym e) (answers done tt), λ r q. not_both done r (sym e ∙ q))
restart_of (Err x) bytes reply next e c = (subst (Said (true ⇒ x ∷ [])) (sym e) (refuses x (inl (refl, refl)) (row_of x).listed), λ r q. c)

restart_gets : (bytes : List ℕ) (reply : Reply) (next : Cabinet) → Restarted bytes reply next → RestartGets bytes reply next
restart_gets bytes reply next d = let g = restart_of (restart_reply bytes) bytes reply next d.answer d.cabinet in record { said = g.0; void = g.1 }

-- ---- readers
one_verdict : {A : Type 0} (r : Refusal) → ◌≡◌ {A = refusal.Reply} (Ok tt) (Err r) → A
one_verdict r e = let z : ◌≡◌ {A = ℕ} 0 1 = cc in absurd (omega arith)

reads_readout : (bytes : List ℕ) (r : Refusal) → (readout_of bytes).verdict ≡ Err r → ReaderRefuses (readout_of bytes) r
reads_readout bytes r e =
    record {
      listed = (row_of r).listed;
      nothing = ⊎_elim (λ (a : (pages_read bytes).verdict ≡ Ok tt). one_verdict r (sym a ∙ e)) (λ (n : (pages_read bytes).pages ≡ []). ap (λ (ps : List Page). lay_pages ps no_readout) n) (read_or bytes);
    }

reads_sheet : (card : ℕ) (bytes : List ℕ) (r : Refusal) → (sheet_read_of card bytes).verdict ≡ Err r → ReaderRefuses (sheet_read_of card bytes) r
unfolding sheet_read_of
reads_sheet card bytes r e = record { listed = (row_of r).listed; nothing = ap (λ (v : refusal.Reply). lay_pages (pages_for v (read_sheets formats false card bytes).pages) no_readout) e }

-- ---- the writer of a sheet by value
wrote_nothing : (v : refusal.Reply) (bytes buffer : List ℕ) (r : Refusal) → (wrote_bytes v bytes buffer).answer ≡ Err r → (wrote_bytes v bytes buffer).buffer ≡ buffer
wrote_nothing (Ok tt) bytes buffer r =
    cond_case (λ (x : Wrote). x.answer ≡ Err r → x.buffer ≡ buffer) (leb (length bytes) (length buffer)) (λ t e. let z : ◌≡◌ {A = ℕ} 0 1 = cc in absurd (omega arith)) (λ t e. refl)
wrote_nothing (Err x) bytes buffer r = λ e. refl

writes_sheet : (p : Page) (buffer : List ℕ) (r : Refusal) → (wrote p buffer).answer ≡ Err r → WriterRefuses p buffer r
unfolding wrote
writes_sheet p buffer r e = record { listed = (row_of r).listed; unchanged = wrote_nothing (page_verdict p) (page_bytes formats p) buffer r e }

pub demand_1 : Demand1
demand_1 = record { fresh = fresh_gets; calls = calls_answer; restart = restart_gets; reads_sheet = reads_sheet; reads_readout = reads_readout; writes_sheet = writes_sheet; step = step_answers; run = run_answers }
