-- The text of what a restart answers and hands back. Assumes nothing.
use Rattle.std.specs.Prelude.{Ok, Err}
use Prim.Native.Nat.{ℕ, zero, suc, ◌+◌, ◌≤◌, ◌<◌}
use mathlib.Core.Path.{◌≡◌, refl, sym, ◌∙◌, ap, ap₂}
use mathlib.Core.List.{List, ◌++◌}
use native.Mathlib.Nat.{le_step, lt-suc_self}
use native.Mathlib.Omega.{arith}
use lib.ListN.{length}
use Rattle.base_refusal.specs.declared.Refusal.{Refusal}
use Rattle.base_refusal.specs.Number.{number_of}
use Rattle.base_refusal.specs.Reply.{Reply}
use Rattle.sheet_readout.specs.Joint.{pages_read, readout_of}
use Rattle.sheet_readout.proofs.Accepted.{accepted_pages, joint_passed, readout_pages}
use Rattle.theory_history.specs.Change.{Numbers}
use Rattle.theory_protocol.specs.Plan.{done, accepted, refused, reply_of}
use Rattle.theory_protocol.specs.Model.{Model}
use Rattle.theory_codec.specs.Sheets.{restarted, restart_reply, restarted_from}
use Rattle.cabinet_layout.specs.Shape.{limits16, at, list_of}
use Rattle.cabinet_layout.proofs.Held.{at_list}
use Rattle.cabinet.specs.declared.Cabinet.{Cabinet}
use Rattle.sheet_pages.specs.Pages.{Page}
use Rattle.cabinet_restart.specs.Restart.{cabinet_of, cabinet_for, Restarted}
use Rattle.cabinet_restart.proofs.Shows.{restarted_cards}
use Rattle.cabinet_report.specs.declared.Text.{Text}
use Rattle.cabinet_report.specs.Report.{row_text, rows_text, session_text, refused_text, text_for, line_text, text_of}

-- numbers kept in a list of 16 are read back
rows_same : (n : ℕ) (s l s' l' : Numbers) → ((c : ℕ) → c < n → s c ≡ s' c) → ((c : ℕ) → c < n → l c ≡ l' c) → rows_text n s l ≡ rows_text n s' l'
rows_same zero s l s' l' e f = refl
rows_same (suc n) s l s' l' e f =
    ap₂ (λ (a b : List ℕ). a ++ b) (rows_same n s l s' l' (λ c h. e c (le_step h)) (λ c h. f c (le_step h))) (ap₂ (row_text n) (e n (lt-suc_self n)) (f n (lt-suc_self n)))

is_accepted : (v : Reply) → accepted done ≡ reply_of v → v ≡ Ok tt
is_accepted (Ok tt) e = refl
is_accepted (Err q) e = let z : ◌≡◌ {A = ℕ} 0 1 = cc in absurd (omega arith)

is_refused : (v : Reply) (q : Refusal) → refused q ≡ reply_of v → v ≡ Err q
is_refused (Ok tt) q e = let z : ◌≡◌ {A = ℕ} 0 1 = cc in absurd (omega arith)
is_refused (Err x) q e = let z : x ≡ q = cc in ap Err z

module _ (bytes : List ℕ) (reply : Reply) (next : Cabinet) (h : Restarted bytes (reply_of reply) next) where
  module _ (d : reply ≡ Ok tt) where
    abbrev m : Model
    m = restarted_from limits16 bytes

    was_accepted : restart_reply bytes ≡ Ok tt
    was_accepted = is_accepted (restart_reply bytes) (sym (ap reply_of d) ∙ h.answer)

    -- the number of cards, that of the sheets
    abbrev n : ℕ
    n = length (pages_read bytes).pages

    is_cabinet : next ≡ cabinet_of (readout_of bytes).readout.entries (readout_of bytes).readout.changes n m
    is_cabinet =
        h.cabinet ∙ ap (λ (v : Reply). cabinet_for v (readout_of bytes).readout) was_accepted
        ∙ ap₂ (λ (k : ℕ) (ps : List Page). cabinet_of (readout_of bytes).readout.entries (readout_of bytes).readout.changes k (restarted limits16 ps)) (restarted_cards bytes was_accepted) (readout_pages bytes)

    sixteen : n ≤ 16
    sixteen = (accepted_pages bytes was_accepted).whole.few

    pub few : next.core.head.cards ≤ 16
    few = omega (arith, ap (λ (x : Cabinet). x.core.head.cards) is_cabinet, sixteen)

    pub left : next.core.head.session ≡ 4294967295 → ⊥
    left z = (joint_passed (pages_read bytes).pages (accepted_pages bytes was_accepted).joint).below (sym (ap (λ (x : Cabinet). x.core.head.session) is_cabinet) ∙ z)

    pub accepted_same : {t : Text} → t ≡ text_of (rows_text next.core.head.cards (at next.core.stored) (at next.core.line) ++ session_text (next.core.head.session + 1)) → t ≡ text_of (line_text bytes)
    accepted_same e =
        e
        ∙ ap (λ (x : Cabinet). text_of (rows_text x.core.head.cards (at x.core.stored) (at x.core.line) ++ session_text (x.core.head.session + 1))) is_cabinet
        ∙ ap (λ (l : List ℕ). text_of (l ++ session_text (m.session + 1))) (rows_same n (at (list_of m.numbers.stored)) (at (list_of m.line)) m.numbers.stored m.line (λ c l. at_list m.numbers.stored c (below c l)) (λ c l. at_list m.line c (below c l)))
        ∙ sym (ap (λ (v : Reply). text_of (text_for v n m)) was_accepted)
      where
        below : (c : ℕ) → c < length (pages_read bytes).pages → c < 16
        below c l = omega (arith, sixteen, l)

  pub refused_same : (q : Refusal) (n : ℕ) {t : Text} → reply ≡ Err q → n ≡ number_of q → t ≡ text_of (refused_text n) → t ≡ text_of (line_text bytes)
  refused_same q n d k e =
      let v : restart_reply bytes ≡ Err q = is_refused (restart_reply bytes) q (sym (ap reply_of d) ∙ h.answer) in
      e ∙ ap (λ (x : ℕ). text_of (refused_text x)) k ∙ sym (ap (λ (y : Reply). text_of (text_for y (length (pages_read bytes).pages) (restarted_from limits16 bytes))) v)
