-- A line leaves nothing open: the replay after it is one, and so is the text of its answer. Assumes nothing.
use Prim.Native.Nat.{ℕ}
use mathlib.Core.Path.{◌≡◌, sym, ◌∙◌, ap}
use mathlib.Core.Bool.{Bool, true, false}
use mathlib.Core.List.{List}
use native.Mathlib.Omega.{arith}
use Rattle.theory_protocol.specs.Plan.{Plan}
use Rattle.cabinet.specs.declared.Cabinet.{Cabinet}
use Rattle.list_answers.specs.Texts.{reply_text}
use Rattle.list_commands.specs.declared.Request.{Request}
use Rattle.list_commands.specs.declared.Request.TheVariants.{Open, Vote, Take, Withdraw, Store, Begin, End, Trim, Safe, Lose, Fix, Roll, Sheet, Restart, Show, Frames}
use Rattle.list_commands.specs.declared.Command.{Command}
use Rattle.list_commands.specs.declared.Command.TheVariants.{Fresh, Asks, Unreadable}
use Rattle.list_results.specs.declared.Replay.{Replay}
use Rattle.list_results.specs.Result.{Result, Continuing, Kept, Planned, OpenResult, reads_beyond, writes_beyond, open_within, LoseResult, set_beyond, lost_within, RestartResult}
use Rattle.list_results.specs.Step.{Steps, Asked, Stays}

-- ---- two replays or cabinets after a line, and the texts of its answer

pub record Alike {A : Type 0} (one two : A) (t u : List ℕ) : Type 0 where
  pub same : one ≡ two
  pub text : t ≡ u

kept_alike : {c : Cabinet} {x : List ℕ} {n m : Cabinet} {t u : List ℕ} → Kept c x n t → Kept c x m u → Alike n m t u
kept_alike p q = record { same = p.cabinet ∙ sym q.cabinet; text = p.answer ∙ sym q.answer }

planned_alike : {c : Cabinet} {p : Plan} {n m : Cabinet} {t u : List ℕ} → Planned c p n t → Planned c p m u → Alike n m t u
planned_alike p q = record { same = p.cabinet ∙ sym q.cabinet; text = p.answer ∙ sym q.answer }

open_alike : {c : Cabinet} {reads writes : ℕ} {n m : Cabinet} {t u : List ℕ} → OpenResult c reads writes n t → OpenResult c reads writes m u → Alike n m t u
open_alike (reads_beyond h p) (reads_beyond l q) = kept_alike p q
open_alike (reads_beyond h p) (writes_beyond l q) = kept_alike p q
open_alike (reads_beyond h p) (open_within a b k) = absurd (omega arith)
open_alike (writes_beyond h p) (reads_beyond l q) = kept_alike p q
open_alike (writes_beyond h p) (writes_beyond l q) = kept_alike p q
open_alike (writes_beyond h p) (open_within a b k) = absurd (omega arith)
open_alike (open_within a b k) (reads_beyond l p) = absurd (omega arith)
open_alike (open_within a b k) (writes_beyond l p) = absurd (omega arith)
open_alike (open_within a b k) (open_within d f l) = planned_alike k l

lose_alike : {c : Cabinet} {cards : ℕ} {n m : Cabinet} {t u : List ℕ} → LoseResult c cards n t → LoseResult c cards m u → Alike n m t u
lose_alike (set_beyond h p) (set_beyond l q) = kept_alike p q
lose_alike (set_beyond h p) (lost_within l q) = absurd (omega arith)
lose_alike (lost_within h p) (set_beyond l q) = absurd (omega arith)
lose_alike (lost_within h p) (lost_within l q) = planned_alike p q

restart_alike : {c n m : Cabinet} {t u : List ℕ} → RestartResult c n t → RestartResult c m u → Alike n m t u
restart_alike p q =
    record {
      same = p.restarted.cabinet ∙ sym q.restarted.cabinet;
      text = p.answer ∙ ap reply_text (p.restarted.answer ∙ sym q.restarted.answer) ∙ sym q.answer;
    }

-- ---- a line

told_alike : (c : Cabinet) (q : Request) {n m : Cabinet} {t u : List ℕ} → Result c q n t → Result c q m u → Alike n m t u
told_alike c (Open reads writes) x y = open_alike x y
told_alike c (Vote change card agrees) x y = planned_alike x y
told_alike c (Take change card) x y = planned_alike x y
told_alike c (Withdraw change) x y = planned_alike x y
told_alike c (Store card state) x y = planned_alike x y
told_alike c (Begin card state) x y = planned_alike x y
told_alike c (End card state) x y = planned_alike x y
told_alike c Trim x y = planned_alike x y
told_alike c (Safe change) x y = planned_alike x y
told_alike c (Lose cards) x y = lose_alike x y
told_alike c (Fix records numbers) x y = planned_alike x y
told_alike c (Roll card) x y = planned_alike x y
told_alike c (Sheet card bytes) x y = planned_alike x y
told_alike c Restart x y = restart_alike x y
told_alike c Show x y = kept_alike x y
told_alike c (Frames card) x y = kept_alike x y

onward_alike : (c : Cabinet) (q : Request) {n m : Replay} {t u : List ℕ} → Continuing (Result c q) n t → Continuing (Result c q) m u → Alike n m t u
onward_alike c q {n} {m} {t} {u} x y =
    let a : Alike n.cabinet m.cabinet t u = told_alike c q x.told y.told in
    let b : n.begun ≡ m.begun = x.begun ∙ sym y.begun in
    record { same = λ i. record { cabinet = a.same i; begun = b i }; text = a.text }

stays_alike : {r : Replay} {v : List ℕ} {n m : Replay} {t u : List ℕ} → Stays r v n t → Stays r v m u → Alike n m t u
stays_alike x y = record { same = x.same ∙ sym y.same; text = x.answer ∙ sym y.answer }

asked_alike : (begun : Bool) (q : Request) (r : Replay) {n m : Replay} {t u : List ℕ} → Asked begun q r n t → Asked begun q r m u → Alike n m t u
asked_alike true q r x y = onward_alike r.cabinet q x y
asked_alike false q r x y = stays_alike x y

pub steps_alike : (said : Command) (r : Replay) {n m : Replay} {t u : List ℕ} → Steps said r n t → Steps said r m u → Alike n m t u
steps_alike (Fresh k) r x y = record { same = x.same ∙ sym y.same; text = x.answer ∙ sym y.answer }
steps_alike (Asks q) r x y = asked_alike r.begun q r x y
steps_alike Unreadable r x y = stays_alike x y
