-- A restart from a cabinet's own sheets, told by parts. Assumes nothing.
use Rattle.std.specs.Prelude.{Ok, Err, is_err}
use Prim.Native.Nat.{ℕ}
use mathlib.Core.Path.{◌≡◌, refl, sym, ◌∙◌, ap, ap₂, subst}
use mathlib.Core.Bool.{Bool, true, false, not, true≢false}
use mathlib.Core.List.{List, [], ◌∷◌}
use Rattle.base_refusal.specs.declared.Refusal.TheVariants.{BadCabinet}
use Rattle.sheet_readout.specs.Joint.{readout_of}
use Rattle.theory_protocol.specs.Plan.{done, Reply, refused, ◌⇒◌, checked}
use Rattle.theory_protocol.specs.Codec.{verdict_checks}
use Rattle.theory_protocol.specs.Valid.{valid}
use Rattle.theory_protocol.proofs.Lists.{restart_reply_lem}
use Rattle.theory_codec.specs.Sheets.{restart_reply, codec}
use Rattle.base_refusal.specs.Reply as verdict
use Rattle.cabinet_layout.specs.Answers.{reply_of}
use Rattle.cabinet_layout.specs.Shape.{limits16}
use Rattle.cabinet.specs.declared.Cabinet.{Cabinet}
use Rattle.cabinet.specs.View.{view}
use Rattle.cabinet_restart.specs.Restart.{cabinet_for, Restarted}
use Rattle.cabinet_joined.specs.Joined.{own_sheets, own_reply, going_on, FromOwnSheets}

-- the bytes that were read are the sheets, and the caller goes on with what was handed back
pub own_valid : {c h n : Cabinet} {bytes : List ℕ} {q r : verdict.Reply} → valid limits16 (view c) ≡ true → Restarted bytes (reply_of q) h → bytes ≡ own_sheets c → r ≡ q → n ≡ going_on (reply_of q) h c → FromOwnSheets c (reply_of r) n
own_valid {c} {h} {n} {bytes} {q} {r} fine w z e g =
    record {
      answer = ap reply_of e ∙ answer;
      cabinet = g ∙ ap₂ (λ (x : Reply) (y : Cabinet). going_on x y c) answer own.cabinet;
    }
  where
    own : Restarted (own_sheets c) (reply_of q) h
    own = subst (λ (l : List ℕ). Restarted l (reply_of q) h) z w

    answer : reply_of q ≡ own_reply c
    answer = own.answer ∙ sym (restart_reply_lem codec limits16 (view c) (restart_reply (own_sheets c)) fine refl)

pub own_invalid : (c : Cabinet) → valid limits16 (view c) ≡ false → FromOwnSheets c (refused BadCabinet) c
own_invalid c e = record { answer = sym reply; cabinet = sym (ap (λ (x : Reply). going_on x (cabinet_for (restart_reply (own_sheets c)) (readout_of (own_sheets c)).readout) c) reply) }
  where
    reply : own_reply c ≡ refused BadCabinet
    reply = ap (λ (b : Bool). (checked (not b ⇒ BadCabinet ∷ verdict_checks (restart_reply (own_sheets c))) done []).reply) e

-- the cabinet to go on with, by what the answer says
pub goes_back : (q : verdict.Reply) (handed s : Cabinet) → is_err q ≡ true → s ≡ going_on (reply_of q) handed s
goes_back (Ok tt) handed s e = absurd (true≢false (sym e))
goes_back (Err r) handed s e = refl

pub goes_on : (q : verdict.Reply) (handed s : Cabinet) → is_err q ≡ false → handed ≡ going_on (reply_of q) handed s
goes_on (Ok tt) handed s e = refl
goes_on (Err r) handed s e = absurd (true≢false e)
