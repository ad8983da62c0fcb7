-- Laws of a line that asks for a fresh cabinet, or something of the present one. Assumes nothing.
use Rattle.std.specs.Prelude.{Ok, Err}
use Prim.Native.Nat.{ℕ}
use mathlib.Core.Path.{◌≡◌, sym, ◌∙◌, ap, subst}
use mathlib.Core.Bool.{Bool, true, false, cond}
use mathlib.Core.List.{List}
use native.Mathlib.Omega.{arith}
use Rattle.base_laws.proofs.Logic.{test}
use Rattle.base_refusal.specs.declared.Refusal.{Refusal}
use Rattle.base_refusal.specs.declared.Refusal.TheVariants.{CardCount}
use Rattle.base_text.specs.declared.Progress.{Progress}
use Rattle.theory_protocol.specs.Plan.{accepted, refused, done}
use Rattle.theory_protocol.specs.Calls.{fresh_refused}
use Rattle.base_refusal.specs.Reply as verdict
use Rattle.cabinet_layout.specs.Answers.{reply_of}
use Rattle.cabinet_layout.specs.Shape.{limits16}
use Rattle.cabinet.specs.declared.Cabinet.{Cabinet}
use Rattle.cabinet.specs.Fresh.{Freshly, zero_cabinet, fresh_head, void_head}
use Rattle.list_commands.specs.declared.Request.{Request}
use Rattle.list_commands.specs.declared.Command.{Command}
use Rattle.list_commands.specs.declared.Command.TheVariants.{Asks}
use Rattle.base_text.specs.Put.{Whole}
use Rattle.list_answer_words.specs.Words.{none_text}
use Rattle.list_answers.specs.Texts.{reply_text}
use Rattle.list_results.specs.declared.Replay.{Replay}
use Rattle.list_results.specs.Result.{Result, Written, Continuing}
use Rattle.list_results.specs.Step.{Steps, Asked, Stays, Freshened}

-- a fresh cabinet that was made was not refused, and one that was refused was
passed : {n : ℕ} {q : verdict.Reply} {c : Cabinet} → Freshly n (reply_of q) c → q ≡ Ok tt → fresh_refused limits16 n ≡ false
passed {n} {q} f d =
    test (fresh_refused limits16 n)
    (λ t.
    let z : accepted done ≡ refused CardCount = sym (ap reply_of d) ∙ f.answer ∙ ap (λ (x : Bool). cond x (refused CardCount) (accepted done)) t in
    let k : ◌≡◌ {A = ℕ} 0 1 = cc in absurd (omega arith))
    (λ t. t)

failed : {n : ℕ} {q : verdict.Reply} {c : Cabinet} {x : Refusal} → Freshly n (reply_of q) c → q ≡ Err x → fresh_refused limits16 n ≡ true
failed {n} {q} {c} {x} f d =
    test (fresh_refused limits16 n) (λ t. t)
    (λ t.
    let z : refused x ≡ accepted done = sym (ap reply_of d) ∙ f.answer ∙ ap (λ (y : Bool). cond y (refused CardCount) (accepted done)) t in
    let k : ◌≡◌ {A = ℕ} 0 1 = cc in absurd (omega arith))

module _ {b : List ℕ} {w r : Progress} {e : List ℕ} where
  -- what was asked or said, known by another name
  pub told_for : {A : Type 0} (P : A → List ℕ → Type 0) {q k : A} → q ≡ k → Written (P k) b w r e → Written (P q) b w r e
  told_for P z u = subst (λ x. Written (P x) b w r e) (sym z) u

  -- ---- a fresh cabinet

  pub freshened_done : {n : ℕ} {q : verdict.Reply} {c : Cabinet} (old : Replay) → Freshly n (reply_of q) c → q ≡ Ok tt → Whole b w (reply_text (reply_of q)) r e
      → Written (Freshened n old (record { cabinet = c; begun = true })) b w r e
  freshened_done {n} {q} {c} old f d u =
      record {
        text = reply_text (reply_of q);
        told = record {
          same =
              ap (λ (x : Cabinet). record { cabinet = x; begun = true }) (f.cabinet ∙ ap (λ (x : Bool). zero_cabinet (cond x void_head (fresh_head n))) (passed f d))
              ∙ sym (ap (λ (x : Bool). cond x old (record { cabinet = zero_cabinet (fresh_head n); begun = true })) (passed f d));
          answer = ap reply_text f.answer;
        };
        put = u;
      }

  pub freshened_refused : {n : ℕ} {q : verdict.Reply} {c : Cabinet} {x : Refusal} (old : Replay) → Freshly n (reply_of q) c → q ≡ Err x → Whole b w (reply_text (reply_of q)) r e → Written (Freshened n old old) b w r e
  freshened_refused {n} {q} {c} {x} old f d u =
      record {
        text = reply_text (reply_of q);
        told = record {
          same = sym (ap (λ (y : Bool). cond y old (record { cabinet = zero_cabinet (fresh_head n); begun = true })) (failed f d));
          answer = ap reply_text f.answer;
        };
        put = u;
      }

  -- ---- a request, where there is a cabinet or none

  -- a line that asks for q
  pub asked_here : {said : Command} {q k : Request} (old next : Replay) → said ≡ Asks q → q ≡ k → old.begun ≡ true → Written (Continuing (Result old.cabinet k) next) b w r e → Written (Steps said old next) b w r e
  asked_here {said} {q} {k} old next s z t u =
      told_for (λ (x : Command). Steps x old next) s
      (told_for (λ (x : Request). Asked old.begun x old next) z (subst (λ (x : Bool). Written (Asked x k old next) b w r e) (sym t) u))

  pub asked_nowhere : {said : Command} {q : Request} (old next : Replay) → said ≡ Asks q → old.begun ≡ false → Written (Stays old none_text next) b w r e → Written (Steps said old next) b w r e
  asked_nowhere {said} {q} old next s t u =
      told_for (λ (x : Command). Steps x old next) s (subst (λ (x : Bool). Written (Asked x q old next) b w r e) (sym t) u)
