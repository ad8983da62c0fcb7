-- Demands 1, 2 and 3 of the 16-card cabinet, and document 02's wishes. Statements alone: the proofs are in proofs/Refusing.antt, proofs/Whole.antt, proofs/Agreement.antt and proofs/Unseen.antt.
use Rattle.std.specs.Prelude.{ℕ, ◌<◌, ◌≡◌, true, List, ltb, replicate}
use Rattle.std.proofs.lemmas.List.Edits.{sets}
use Rattle.base_limits.specs.Document.{most_cards}
use Rattle.base_refusal.specs.declared.Refusal.{Refusal}
use Rattle.base_refusal.specs.declared.Refusal.TheVariants.{Barred}
use Rattle.base_refusal.specs.Number.{Listed, number_of}
use Rattle.base_bits.specs.Member.{member}
use Rattle.sheet_lines.specs.Format.{formats}
use Rattle.theory_history.specs.Change.{CardSet, Numbers}
use Rattle.theory_codec.specs.Sheets.{joined_sheets, codec}
use Rattle.theory_protocol.specs.Plan.{CardRow, Answer, done, fixed, Reply, accepted, refused, Check, Passed, Due}
use Rattle.theory_protocol.specs.Valid.{valid}
use Rattle.theory_protocol.specs.Journal.{fixing}
use Rattle.theory_protocol.specs.Run.{Plain, vote_call, take_call, withdraw_call, store_call, begin_call, end_call, trim_call, safe_call, roll_call, checks_of, Calls, none, further, journal}
use Rattle.theory_protocol.specs.Demands.{NamedRight, ListedRight, CallRight, CabinetRight}
use Rattle.theory_protocol.specs.Agreement.{Agrees}
use Rattle.cabinet_layout.specs.Shape.{limits16, with_writing}
use Rattle.cabinet.specs.declared.Cabinet.{Cabinet}
use Rattle.cabinet.specs.View.{view}
use Rattle.cabinet.specs.Apply.{with_core}
use Rattle.cabinet_records.specs.declared.CardRecord.{CardRecord}
use Rattle.cabinet_restart.specs.Restart.{Restarted}
use Rattle.demands_lists.specs.Lists.{Asked, opening, plain, lose, fix, sheet, restart, call_of, Lent, lent, Sized, Answered, List16, start, next}

-- ---- Demand 1, for any cabinet, a forged one too, and any arguments: "gets an answer or a refusal from document 01. A refusal changes neither the cabinet nor any lent list or buffer."
-- what is said where this is the table: an answer, where no row fails; else the refusal of the first row that does
pub data Said (table : List Check) : Reply → Type 0 where
  answers : (a : Answer) → Passed table → Said table (accepted a)
  refuses : (r : Refusal) → Due table r → Listed (number_of r) → Said table (refused r)

-- and with a refusal cabinet and lent lists are as they were
pub record Outcome (table : List Check) (s t : Cabinet) (before after : Lent) (reply : Reply) : Type 0 where
  pub said : Said table reply
  pub unchanged : (r : Refusal) → reply ≡ refused r → (t ≡ s) × (after ≡ before)

-- beside it document 02's wish 2, "Name the lowest such card.": what holds of the card that an opening is refused with
abbrev pub Names : Cabinet → Asked → Reply → Type 0
Names s (opening reads writes) reply = (c : ℕ) → reply ≡ refused (Barred c) → NamedRight limits16 (view s) (member reads) (member writes) c
Names s (plain q) reply = Unit {0}
Names s (lose cards) reply = Unit {0}
Names s (fix records list) reply = Unit {0}
Names s (sheet c buffer) reply = Unit {0}
Names s restart reply = Unit {0}

-- and its wish 3, "The list of lost changes comes in rising change number.": what holds of the numbers that a fix answers, and of the list lent: they stand at its front, and the other places keep what they held
abbrev pub ListsLost : Cabinet → Asked → Reply → Lent → Type 0
ListsLost s (opening reads writes) reply after = Unit {0}
ListsLost s (plain q) reply after = Unit {0}
ListsLost s (lose cards) reply after = Unit {0}
ListsLost s (fix records list) reply after =
    (rows : List CardRow) (numbers : List ℕ) → reply ≡ accepted (fixed rows numbers) → ListedRight limits16 (view s) numbers × (after.numbers ≡ sets list 0 numbers)
ListsLost s (sheet c buffer) reply after = Unit {0}
ListsLost s restart reply after = Unit {0}

-- the table is the call's
pub record Gets (s : Cabinet) (asked : Asked) (reply : Reply) (t : Cabinet) (after : Lent) : Type 0 where
  pub outcome : Outcome (checks_of codec limits16 (view s) (call_of asked)) s t (lent asked) after reply
  pub names : Names s asked reply
  pub lists : ListsLost s asked reply after

-- some answer of a call
pub record Reached (s : Cabinet) (asked : Asked) : Type 0 where
  pub reply : Reply
  pub next : Cabinet
  pub after : Lent
  pub answered : Answered s asked reply next after

pub record CallsAnswer : Type 0 where
  -- there is one
  pub some : (s : Cabinet) (asked : Asked) → Reached s asked
  -- and no other: document 02's wish 3, "Their order isn't left to the program either.", nor is anything else
  pub one : (s : Cabinet) (asked : Asked) (reply reply' : Reply) (t t' : Cabinet) (after after' : Lent) → Answered s asked reply t after → Answered s asked reply' t' after'
      → (reply ≡ reply') × (t ≡ t') × (after ≡ after')
  -- and it is as said
  pub each : (s : Cabinet) (asked : Asked) (reply : Reply) (t : Cabinet) (after : Lent) → Answered s asked reply t after → Gets s asked reply t after

-- ---- Demands 2 and 3
-- "the sheets of all cards, joined, restart to the line answered": what the restart of the code hands back
pub record RestartGives (n : ℕ) (line : Numbers) (reply : Reply) (handed : Cabinet) : Type 0 where
  pub accepted_so : reply ≡ accepted done
  pub same_line : (c : ℕ) → c < n → (view handed).line c ≡ line c

-- what holds of the cabinet s after the calls cs
pub record CabinetRight16 (n : ℕ) (cs : Calls) (s : Cabinet) : Type 0 where
  pub right : CabinetRight codec limits16 (λ c. ltb c n) cs (view s)
  pub sheets_give_line : (line : Numbers) (marked : CardSet) → (journal limits16 (λ c. ltb c n) cs).fix ≡ fixing line marked
      → (reply : Reply) (handed : Cabinet) → Restarted (joined_sheets formats limits16 (view s)) reply handed → RestartGives n line reply handed

-- throughout a list: of each accepted call, and of the cabinet after each call
abbrev pub Throughout : {n : ℕ} {cs : Calls} {s : Cabinet} → List16 n cs s → Type 0
Throughout {n} (start s f) = CabinetRight16 n none s
Throughout {n} (next {cs} {s} l asked z reply t after w) =
    Throughout l
    × ((a : Answer) → reply ≡ accepted a → CallRight limits16 (λ c. ltb c n) cs (call_of asked) a (view s) (view t))
    × CabinetRight16 n (further cs (call_of asked) reply) t

-- for every list of calls, with losses anywhere and restarts in any phase
abbrev pub Demands23 : Type 0
Demands23 = (n : ℕ) (cs : Calls) (s : Cabinet) (l : List16 n cs s) → Throughout l

-- ---- Document 02, wish 1
-- the cabinet u after cards of the cabinet t have reported, one after the other, the number that they had stored
pub data Reported16 (t : Cabinet) : Cabinet → Type 0 where
  unreported : Reported16 t t
  reports : {u : Cabinet} → Reported16 t u → (c : ℕ) (v : Cabinet) (lent₀ : Lent) → Answered u (plain (end_call c ((view u).numbers.stored c))) (accepted done) v lent₀ → Reported16 t v

-- the cabinet s answers safe k, the next call is an accepted loss (of all its cards, or of any), cards whose writes run may then report what they had stored, and the next is an accepted fix
abbrev pub AgreesFrom : Cabinet → Type 0
AgreesFrom s =
    (k : ℕ) (a : Answer) (t : Cabinet) (lent₁ : Lent) → Answered s (plain (safe_call k)) (accepted a) t lent₁
    → (cards : ℕ) (b : Answer) (u : Cabinet) (lent₂ : Lent) → Answered t (lose cards) (accepted b) u lent₂
    → (w : Cabinet) → Reported16 u w
    → (records : List CardRecord) (list : List ℕ) (rows : List CardRow) (numbers : List ℕ) (v : Cabinet) (lent₃ : Lent) → Answered w (fix records list) (accepted (fixed rows numbers)) v lent₃
    → Agrees k a numbers

-- of any cabinet of its type, a forged one too
abbrev pub SafeAgreesWithFix16 : Type 0
SafeAgreesWithFix16 = (s : Cabinet) → Sized s → AgreesFrom s

-- of every cabinet that a list leads to
abbrev pub AgreesInLists16 : Type 0
AgreesInLists16 = (n : ℕ) (cs : Calls) (s : Cabinet) → List16 n cs s → AgreesFrom s

-- ---- Document 02, wish 5: "Between them the cabinet accepts openings, votes, takes and trim"
-- the cabinet with no write running
abbrev pub unwritten : Cabinet → Cabinet
unwritten s = with_core s (with_writing s.core (replicate most_cards 0))

-- the calls that go by no running write: these four, and withdrawals, safe questions, losses and sheets
abbrev pub PlainSeesNone : Plain → Type 0
PlainSeesNone (vote_call k c agrees) = Unit {0}
PlainSeesNone (take_call k c) = Unit {0}
PlainSeesNone (withdraw_call k) = Unit {0}
PlainSeesNone (store_call c x) = ⊥
PlainSeesNone (begin_call c x) = ⊥
PlainSeesNone (end_call c x) = ⊥
PlainSeesNone trim_call = Unit {0}
PlainSeesNone (safe_call k) = Unit {0}
PlainSeesNone (roll_call c) = ⊥

abbrev pub SeesNone : Asked → Type 0
SeesNone (opening reads writes) = Unit {0}
SeesNone (plain q) = PlainSeesNone q
SeesNone (lose cards) = Unit {0}
SeesNone (fix records list) = ⊥
SeesNone (sheet c buffer) = Unit {0}
SeesNone restart = ⊥

-- what such a call of the cabinet s answers, it answers with no write running too, and does the same; the writes that run go on
abbrev pub UnhinderedFrom : Cabinet → Type 0
UnhinderedFrom s =
    (asked : Asked) → SeesNone asked → (reply : Reply) (t : Cabinet) (after : Lent) → Answered s asked reply t after
    → Answered (unwritten s) asked reply (unwritten t) after × (t.core.writing ≡ s.core.writing)

-- of any cabinet that 28 lets pass, a forged one too
abbrev pub Unhindered16 : Type 0
Unhindered16 = (s : Cabinet) → valid limits16 (view s) ≡ true → UnhinderedFrom s

-- of every cabinet that a list leads to
abbrev pub UnhinderedInLists16 : Type 0
UnhinderedInLists16 = (n : ℕ) (cs : Calls) (s : Cabinet) → List16 n cs s → UnhinderedFrom s
