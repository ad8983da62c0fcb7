-- What a line that asks something of the present cabinet comes to. Assumes nothing.
use Prim.Native.Nat.{ℕ, min}
use mathlib.Core.Path.{◌≡◌, refl, sym, ◌∙◌, ap, subst, subst₂}
use mathlib.Core.List.{List}
use native.Mathlib.Omega.{arith}
use lib.ListN.{length, replicate, length-replicate}
use Rattle.theory_protocol.specs.Plan.{Plan, Reply}
use Rattle.theory_protocol.specs.Calls.{fix_plan}
use Rattle.theory_protocol.specs.Codec.{sheet_plan}
use Rattle.theory_codec.specs.Sheets.{codec}
use Rattle.cabinet_layout.specs.Shape.{limits16}
use Rattle.cabinet_records.specs.declared.CardRecord.{CardRecord}
use Rattle.cabinet.specs.declared.Cabinet.{Cabinet}
use Rattle.cabinet.specs.View.{view}
use Rattle.cabinet.specs.Apply.{Carried}
use Rattle.list_commands.specs.declared.Command.TheVariants.{Asks}
use Rattle.list_commands.specs.declared.Request.{Request}
use Rattle.list_commands.specs.declared.Request.TheVariants.{Open, Vote, Take, Withdraw, Store, Begin, End, Trim, Safe, Lose, Fix, Roll, Sheet, Restart, Show, Frames}
use Rattle.list_answers.specs.Texts.{reply_text}
use Rattle.list_results.specs.Result.{Planned, OpenResult, reads_beyond, writes_beyond, open_within, LoseResult, set_beyond, lost_within, Result}
use Rattle.theory_protocol.specs.Run.{vote_call, take_call, withdraw_call, store_call, begin_call, end_call, trim_call, safe_call, roll_call}
use Rattle.demands_lists.specs.Lists.{Asked, opening, plain, lose, fix, sheet, restart, Typed, Lent, nothing_lent, Answered}
use Rattle.demands_lists.specs.Claims.{Reached}
use Rattle.demands_lists.proofs.Some.{some}
use Rattle.demands_lists.proofs.Refusing.{fix_carried, sheet_carried}
use Rattle.demands_whole.specs.Texts.{Makes, opens, votes, takes, withdraws, stores, begins, ends, trims, asks_safe, loses, fixes, rolls, writes_sheet, restarts, NoCall, beyond_reads, beyond_writes, beyond_lost, looks, looks_at}

-- a call, answered as its contract says, or none
pub data Meant (c : Cabinet) (q : Request) (new : Cabinet) (u : List ℕ) : Type 0 where
  called : (asked : Asked) → Makes (Asks q) asked → Typed asked → (reply : Reply) (after : Lent) → Answered c asked reply new after → u ≡ reply_text reply → Meant c q new u
  stayed : NoCall (Asks q) → new ≡ c → Meant c q new u

zero_record : CardRecord
zero_record = record { card = 0; stored = 0; line = 0 }

module _ (c : Cabinet) (new : Cabinet) (u : List ℕ) where
  -- a call with a plan that lends nothing
  planned : (q : Request) (asked : Asked) → Makes (Asks q) asked → Typed asked → (p : Plan) → Planned c p new u → Answered c asked p.reply new nothing_lent → Meant c q new u
  planned q asked k typed p d a = called asked k typed p.reply nothing_lent a d.answer

  -- one with an answer by its plan
  reached : (q : Request) (asked : Asked) → Makes (Asks q) asked → Typed asked → (p : Plan) → Planned c p new u → (g : Reached c asked) → Carried c p g.reply g.next → Meant c q new u
  reached q asked k typed p d g r =
      called asked k typed g.reply g.after
      (subst (λ (x : Cabinet). Answered c asked g.reply x g.after) (r.cabinet ∙ sym d.cabinet) g.answered)
      (d.answer ∙ ap reply_text (sym r.answer))

  pub meant : (q : Request) → Result c q new u → Meant c q new u
  meant (Open reads writes) o = opened o
    where
      opened : OpenResult c reads writes new u → Meant c (Open reads writes) new u
      opened (reads_beyond b k) = stayed (beyond_reads reads writes b) k.cabinet
      opened (writes_beyond b k) = stayed (beyond_writes reads writes b) k.cabinet
      opened (open_within a b d) = planned (Open reads writes) (opening reads writes) (opens reads writes a b) (omega arith, omega arith) _ d (record { answer = refl; cabinet = d.cabinet }, refl)
  meant (Vote change card agrees) o = planned (Vote change card agrees) (plain (vote_call change card agrees)) (votes change card agrees) tt _ o (record { answer = refl; cabinet = o.cabinet }, refl)
  meant (Take change card) o = planned (Take change card) (plain (take_call change card)) (takes change card) tt _ o (record { answer = refl; cabinet = o.cabinet }, refl)
  meant (Withdraw change) o = planned (Withdraw change) (plain (withdraw_call change)) (withdraws change) tt _ o (record { answer = refl; cabinet = o.cabinet }, refl)
  meant (Store card state) o = planned (Store card state) (plain (store_call card state)) (stores card state) tt _ o (record { answer = refl; cabinet = o.cabinet }, refl)
  meant (Begin card state) o = planned (Begin card state) (plain (begin_call card state)) (begins card state) tt _ o (record { answer = refl; cabinet = o.cabinet }, refl)
  meant (End card state) o = planned (End card state) (plain (end_call card state)) (ends card state) tt _ o (record { answer = refl; cabinet = o.cabinet }, refl)
  meant Trim o = planned Trim (plain trim_call) trims tt _ o (record { answer = refl; cabinet = o.cabinet }, refl)
  meant (Safe change) o = planned (Safe change) (plain (safe_call change)) (asks_safe change) tt _ o (record { answer = refl; cabinet = o.cabinet }, refl)
  meant (Lose cards) o = losing o
    where
      losing : LoseResult c cards new u → Meant c (Lose cards) new u
      losing (set_beyond b k) = stayed (beyond_lost cards b) k.cabinet
      losing (lost_within b d) = planned (Lose cards) (lose cards) (loses cards b) (omega arith) _ d (record { answer = refl; cabinet = d.cabinet }, refl)
  meant (Fix records numbers) o =
      reached (Fix records numbers) (fix rows list) (fixes records numbers rows list rows_long list_long) tt (fix_plan limits16 (view c) (length rows) (length list))
      (subst₂ (λ (a b : ℕ). Planned c (fix_plan limits16 (view c) a b) new u) (sym rows_long) (sym list_long) o) there (fix_carried c rows list there.reply there.next there.after there.answered)
    where
      rows : List CardRecord
      rows = replicate (min records 16) zero_record

      list : List ℕ
      list = replicate (min numbers 776) 0

      rows_long : length rows ≡ min records 16
      rows_long = length-replicate (min records 16) zero_record

      list_long : length list ≡ min numbers 776
      list_long = length-replicate (min numbers 776) 0

      there : Reached c (fix rows list)
      there = some c (fix rows list)
  meant (Roll card) o = planned (Roll card) (plain (roll_call card)) (rolls card) tt _ o (record { answer = refl; cabinet = o.cabinet }, refl)
  meant (Sheet card bytes) o =
      reached (Sheet card bytes) (sheet card buffer) (writes_sheet card bytes buffer long) tt (sheet_plan codec limits16 (view c) card (length buffer))
      (subst (λ (a : ℕ). Planned c (sheet_plan codec limits16 (view c) card a) new u) (sym long) o) there (sheet_carried c card buffer there.reply there.next there.after there.answered)
    where
      buffer : List ℕ
      buffer = replicate (min bytes 65536) 0

      long : length buffer ≡ min bytes 65536
      long = length-replicate (min bytes 65536) 0

      there : Reached c (sheet card buffer)
      there = some c (sheet card buffer)
  meant Restart o = called restart restarts tt o.reply nothing_lent (o.restarted, refl) o.answer
  meant Show o = stayed looks o.cabinet
  meant (Frames card) o = stayed (looks_at card) o.cabinet
