-- Laws of the calls of a list. Assumes nothing.
use Rattle.std.specs.Prelude.{Result}
use Rattle.base_refusal.specs.declared.Refusal.{Refusal}
use Prim.Native.Nat.{ℕ}
use mathlib.Core.Path.{◌≡◌, refl, sym, ◌∙◌, ap, subst}
use mathlib.Core.Bool.{true}
use mathlib.Core.List.{List}
use lib.ListN.{length, take}
use Rattle.base_text.specs.declared.Progress.{Progress}
use Rattle.theory_protocol.specs.Plan.{Plan, Reply}
use Rattle.theory_protocol.specs.Calls.{fix_plan}
use Rattle.theory_protocol.specs.Codec.{sheet_plan}
use Rattle.theory_codec.specs.Sheets.{codec}
use Rattle.cabinet_sheet.specs.Card.{sheet_reply_of}
use Rattle.cabinet_layout.specs.Shape.{limits16}
use Rattle.cabinet_recovery.specs.Fix.{fix_reply_of}
use Rattle.cabinet.specs.declared.Cabinet.{Cabinet}
use Rattle.cabinet.specs.View.{view}
use Rattle.cabinet.specs.Apply.{apply_all, Carried}
use Rattle.cabinet.specs.Fixing.{FixCarried}
use Rattle.cabinet.specs.Writing.{SheetCarried}
use Rattle.cabinet_joined.specs.Joined.{FromOwnSheets}
use Rattle.base_text.specs.Put.{Whole}
use Rattle.list_answers.specs.Texts.{reply_text}
use Rattle.list_results.specs.declared.Replay.{Replay}
use Rattle.list_results.specs.Going.{begun_with}
use Rattle.list_results.specs.Result.{Written, Continuing, Planned, RestartResult}

module _ {b : List ℕ} {w r : Progress} {e : List ℕ} where
  -- a call that has a plan
  pub by_plan : {c : Cabinet} {p : Plan} {q : Reply} {next : Cabinet} → Carried c p q next → Whole b w (reply_text q) r e → Written (Planned c p next) b w r e
  by_plan {c} {p} {q} {next} k u = record { text = reply_text q; told = record { cabinet = k.cabinet; answer = ap reply_text k.answer }; put = u }

  -- the same text, told otherwise
  pub told_as : {S T : List ℕ → Type 0} → ((t : List ℕ) → S t → T t) → Written S b w r e → Written T b w r e
  told_as f u = record { text = u.text; told = f u.text u.told; put = u.put }

  -- a call whose plan goes by how many places it was lent at the front of a list: after it they hold what it left there
  lent_by : (c next : Cabinet) (before after : List ℕ) (p : ℕ → Plan) (said : List ℕ → Reply) (places lent : ℕ) (whole : List ℕ)
      → next ≡ apply_all (p (length before)).edits c → said after ≡ (p (length before)).reply → length before ≡ lent → take places whole ≡ after
      → Whole b w (reply_text (said (take places whole))) r e → Written (Planned c (p lent) next) b w r e
  lent_by c next before after p said places lent whole k q size left u =
      record {
        text = reply_text (said (take places whole));
        told = record {
          cabinet = k ∙ ap (λ (n : ℕ). apply_all (p n).edits c) size;
          answer = ap reply_text (ap said left ∙ q ∙ ap (λ (n : ℕ). (p n).reply) size);
        };
        put = u;
      }

  -- fix, lent places for change numbers
  pub fixed_by : {c : Cabinet} {records : ℕ} {before after : List ℕ} {q : (Result ℕ Refusal)} {next : Cabinet} (places numbers : ℕ) (whole : List ℕ)
      → FixCarried c records before after q next → length before ≡ numbers → take places whole ≡ after
      → Whole b w (reply_text (fix_reply_of c.core.head.cards next.core.stored next.core.line (take places whole) q)) r e → Written (Planned c (fix_plan limits16 (view c) records numbers) next) b w r e
  fixed_by {c} {records} {before} {after} {q} {next} places numbers whole f =
      lent_by c next before after (fix_plan limits16 (view c) records) (λ l. fix_reply_of c.core.head.cards next.core.stored next.core.line l q) places numbers whole f.cabinet f.told.answer

  -- sheet writing, lent bytes of a buffer
  pub sheet_by : {c : Cabinet} {card : ℕ} {before after : List ℕ} {q : (Result ℕ Refusal)} {next : Cabinet} (places bytes : ℕ) (whole : List ℕ)
      → SheetCarried c card before after q next → length before ≡ bytes → take places whole ≡ after
      → Whole b w (reply_text (sheet_reply_of (take places whole) q)) r e → Written (Planned c (sheet_plan codec limits16 (view c) card bytes) next) b w r e
  sheet_by {c} {card} {before} {after} {q} {next} places bytes whole f =
      lent_by c next before after (sheet_plan codec limits16 (view c) card) (λ l. sheet_reply_of l q) places bytes whole f.cabinet f.told.answer

  pub restarted_by : {c : Cabinet} {q : Reply} {next : Cabinet} → FromOwnSheets c q next → Whole b w (reply_text q) r e → Written (RestartResult c next) b w r e
  restarted_by {q = q} k u = record { text = reply_text q; told = record { reply = q; restarted = k; answer = refl }; put = u }

  -- the same place, said otherwise
  pub written_as : {T : List ℕ → Type 0} {x : Progress} → x ≡ r → Written T b w r e → Written T b w x e
  written_as {T} {x} z u = subst (λ (y : Progress). Written T b w y e) (sym z) u

  -- told of the cabinet that is handed on
  pub onward : {T : Cabinet → List ℕ → Type 0} {c : Cabinet} {next : Replay} → next ≡ begun_with c → Written (T c) b w r e → Written (Continuing T next) b w r e
  onward {T} {c} {next} z u =
      record {
        text = u.text;
        told = record { begun = ap (λ (x : Replay). x.begun) z; told = subst (λ (x : Replay). T x.cabinet u.text) (sym z) u.told };
        put = u.put;
      }

  pub onward_as : {S T : Cabinet → List ℕ → Type 0} {next : Replay} → ((t : List ℕ) → S next.cabinet t → T next.cabinet t) → Written (Continuing S next) b w r e → Written (Continuing T next) b w r e
  onward_as f u = record { text = u.text; told = record { begun = u.told.begun; told = f u.text u.told.told }; put = u.put }
