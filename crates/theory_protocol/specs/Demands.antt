-- Demands 1 to 3 over whole lists of calls, and what belongs to them, whatever cards there are and however their sheets are written. Statements alone: the proofs are in proofs/Claims.antt (demand 1 and the card that 21 names), proofs/Listed.antt (the list of lost changes) and proofs/Answers.antt.
use Rattle.std.specs.Prelude.{ℕ, suc, max, ◌≤◌, ◌<◌, ◌≡◌, true, false, ◌||◌, ◌↔◌, List, length, Ok, Err}
use Rattle.base_laws.specs.Below.{one_if, selected, occurs}
use Rattle.base_laws.specs.Order.{InRisingOrder, StandsBefore}
use Rattle.base_refusal.specs.declared.Refusal.{Refusal}
use Rattle.base_refusal.specs.Number.{Listed, number_of}
use Rattle.base_refusal.specs.declared.Refusal.TheVariants.{LimitReached, Barred}
use Rattle.theory_history.specs.Change.{CardSet, History, Numbers, made, Precedes, Cut, On, history_of}
use Rattle.theory_history.specs.Vector.{entry_of, LastPreceding}
use Rattle.theory_history.specs.Line.{lost, is_lost_number, lost_numbers}
use Rattle.theory_protocol.specs.Model.{Limits, is_up, is_rolling, Model, is_card}
use Rattle.theory_protocol.specs.Valid.{valid}
use Rattle.theory_protocol.specs.Plan.{CardRow, Answer, done, safe, fixed, accepted, refused, Passed, Due}
use Rattle.theory_protocol.specs.Calls.{fresh_model, barred, open_plan, end_plan, is_lost, fix_plan}
use Rattle.theory_protocol.specs.Codec.{Codec}
use Rattle.theory_protocol.specs.Journal.{Journal, fixing, note_restart}
use Rattle.theory_protocol.specs.Run.{Call, plain, vote_call, take_call, withdraw_call, open_call, store_call, begin_call, end_call, trim_call, safe_call, lose_call, fix_call, roll_call, sheet_call, restart_call, checks_of, plan_of, after_call, Calls, none, further, Run, start, next, journal, last_kept, last_begun}

-- ---- Demand 1, for any cabinet, a forged one too, and any arguments: "gets an answer or a refusal from document 01. A refusal changes neither the cabinet nor any lent list or buffer."
-- (The lent lists and buffers are in the contracts of the calls.)

pub record Refuses (C : Codec) (L : Limits) (m : Model) (call : Call) : Type 0 where
  -- accepted, no row of the call's table fails
  pub passed : (a : Answer) → (plan_of C L m call).reply ≡ accepted a → Passed (checks_of C L m call)
  -- "The first failing row is the answer."
  pub due : (r : Refusal) → (plan_of C L m call).reply ≡ refused r → Due (checks_of C L m call) r
  pub listed : (r : Refusal) → (plan_of C L m call).reply ≡ refused r → Listed (number_of r)
  pub unchanged : (r : Refusal) → (plan_of C L m call).reply ≡ refused r → after_call C L m call ≡ m

abbrev pub Demand1 : Type 0
Demand1 = (C : Codec) (L : Limits) (m : Model) (call : Call) → Refuses C L m call

-- ---- beside it document 02's wish 2: "Name the lowest such card.", with 21, "a touched card is barred by an open change"
-- what holds of the card c that is named
pub record NamedRight (L : Limits) (m : Model) (reads writes : CardSet) (c : ℕ) : Type 0 where
  pub is_card_lem : is_card L m c ≡ true
  pub touched : reads c || writes c ≡ true
  pub is_barred : barred L m reads writes c ≡ true
  pub lowest : (d : ℕ) → d < c → barred L m reads writes d ≡ false

-- for any cabinet, a forged one too, and any sets: where the reply is 21 with c, that holds of c
abbrev pub NamesLowest : Type 0
NamesLowest = (L : Limits) (m : Model) (reads writes : CardSet) (c : ℕ) → (open_plan L m reads writes).reply ≡ refused (Barred c) → NamedRight L m reads writes c

-- ---- and its wish 3: "The list of lost changes comes in rising change number."
-- what holds of the numbers that a fix lists
pub record ListedRight (L : Limits) (m : Model) (numbers : List ℕ) : Type 0 where
  -- each lost change once, and nothing else
  pub once : (k : ℕ) → occurs k numbers ≡ one_if (is_lost L m k)
  pub rise : InRisingOrder numbers

-- for any cabinet, a forged one too, and any number of places
abbrev pub ListsRising : Type 0
ListsRising =
    (L : Limits) (m : Model) (card_places lost_places : ℕ) (rows : List CardRow) (numbers : List ℕ)
    → (fix_plan L m card_places lost_places).reply ≡ accepted (fixed rows numbers) → ListedRight L m numbers

-- ---- the history of the journal: "the changes decided since the last recovery"
abbrev pub H : Journal → History
H j = history_of j.history

abbrev pub decisions : Journal → ℕ
decisions j = length j.history

-- ---- Demand 2: "each state's vector is what Definitions 1 and 2 of EPFL report IC/2005/017 give for the changes decided since the last recovery: for every card its last state that precedes, or none"
pub record VectorsRight (L : Limits) (m : Model) (j : Journal) : Type 0 where
  -- of every state in hand
  pub in_hand_lem : (c x i : ℕ) → c < L.width → i < L.width → m.numbers.base c < x → x ≤ m.numbers.reached c
      → LastPreceding L.width (H j) j.start (decisions j) c x i (entry_of (m.memory.frame c x i))
  -- in phase up the last vector of a card is that of its present state, also where a trim has put its frame away
  pub last : is_up m.phase ≡ true → (c i : ℕ) → c < L.width → i < L.width → j.start c < m.numbers.reached c
      → LastPreceding L.width (H j) j.start (decisions j) c (m.numbers.reached c) i (entry_of (m.memory.last c i))
  -- and none at the session's start
  pub none_yet : is_up m.phase ≡ true → (c i : ℕ) → c < L.width → i < L.width → m.numbers.reached c ≡ j.start c → m.memory.last c i ≡ 0

-- ---- Demand 3
-- "the line answered is a choice", and the greatest one: what is said of a line in fix, restart and safe
pub record GreatestChoice (L : Limits) (j : Journal) (line : Numbers) : Type 0 where
  pub is_cut : Cut L.width (H j) j.start (decisions j) j.stored line
  -- "and every other choice is on no card above it"
  pub greatest : (g : Numbers) → Cut L.width (H j) j.start (decisions j) j.stored g → (c : ℕ) → c < L.width → g c ≤ line c
  -- "a change is on every card it wrote or on none"
  pub whole : (i c c' : ℕ) → i < decisions j → c < L.width → c' < L.width → (H j i).writes c ≡ true → (H j i).writes c' ≡ true
      → On (H j) j.start line i c → On (H j) j.start line i c'

-- "at each accepted fixing", by its answer
pub record FixRight (L : Limits) (n : CardSet) (j : Journal) (a : Answer) : Type 0 where
  -- the line answered, by card, and the numbers of the changes lost
  pub line : Numbers
  pub numbers : List ℕ
  -- "the stored numbers answered are the book's"
  pub answered : a ≡ fixed (selected L.width n (λ c. record { card = c; stored = j.stored c; line = line c })) numbers
  pub choice : GreatestChoice L j line
  -- the numbers are the list of the journal's history and that line
  pub numbers_are : numbers ≡ lost_numbers L.width (H j) j.start (decisions j) line
  -- "Lost: decided in this session, wrote a card, not in the line. Each is listed once"
  pub lost_listed : (k : ℕ) → occurs k numbers ≡ one_if (is_lost_number L.width (H j) j.start (decisions j) line k)
  -- document 02, wish 3: "The list of lost changes comes in rising change number."
  pub rise : InRisingOrder numbers
  -- "a later one often builds on an earlier one": of two lost changes the one that precedes the other stands first
  pub builds_on : (k i : ℕ) → i < decisions j → Precedes L.width (H j) k i → lost L.width (H j) j.start line k ≡ true → lost L.width (H j) j.start line i ≡ true
      → StandsBefore (H j k).number (H j i).number numbers

-- "each roll sets its card's four numbers to that card's number in it": a line is noted, and it is that one
pub record RollRight (j : Journal) (c : ℕ) (m : Model) : Type 0 where
  pub line : Numbers
  pub marked : CardSet
  pub noted : j.fix ≡ fixing line marked
  pub base : m.numbers.base c ≡ line c
  pub stored : m.numbers.stored c ≡ line c
  pub held : m.numbers.held c ≡ line c
  pub reached : m.numbers.reached c ≡ line c

-- A restart gives a cabinet that rolls back to the line noted: the greatest choice of the journal's stored numbers, whichever phase it is made in.
pub record RestartRight (L : Limits) (n : CardSet) (j : Journal) (m : Model) : Type 0 where
  pub rolls : is_rolling m.phase ≡ true
  pub line : Numbers
  pub marked : CardSet
  pub noted : (note_restart L j).fix ≡ fixing line marked
  pub choice : GreatestChoice L j line
  pub fixed_so : (c : ℕ) → c < L.width → n c ≡ true → m.line c ≡ line c

-- Call 3: the change of number k is in the history; a card that it wrote is brought to the state that it made there, and a card only read stays at its state
pub record TakeRight (j : Journal) (k c : ℕ) (m m' : Model) : Type 0 where
  pub i : ℕ
  pub decided : i < decisions j
  pub number : (H j i).number ≡ k
  pub reached_made : (H j i).writes c ≡ true → m'.numbers.reached c ≡ made (H j) j.start i c
  pub held_made : (H j i).writes c ≡ true → m'.numbers.held c ≡ made (H j) j.start i c
  pub read_stays : (H j i).writes c ≡ false → m'.numbers.reached c ≡ m.numbers.reached c

-- Call 7: the change of number k is in the history, and it is answered safe exactly where it is on every card it wrote, in the greatest choice of the stored numbers
pub record SafeRight (L : Limits) (j : Journal) (k : ℕ) (answer : Answer) : Type 0 where
  pub i : ℕ
  pub decided : i < decisions j
  pub number : (H j i).number ≡ k
  pub line : Numbers
  pub choice : GreatestChoice L j line
  pub right : (answer ≡ safe) ↔ ((c : ℕ) → c < L.width → (H j i).writes c ≡ true → On (H j) j.start line i c)

-- Document 02, wish 5. A beginning: a write up to s runs, and no state number moves
pub record BeginRight (c s : ℕ) (m m' : Model) : Type 0 where
  pub runs : m'.writing c ≡ suc s
  pub numbers : m'.numbers ≡ m.numbers

-- An end: stored is the number reported, and "held then rises to that number"
pub record EndRight (c x : ℕ) (m m' : Model) : Type 0 where
  pub stored : m'.numbers.stored c ≡ x
  pub held : m'.numbers.held c ≡ max (m.numbers.held c) x
  pub base : m'.numbers.base c ≡ m.numbers.base c
  pub reached : m'.numbers.reached c ≡ m.numbers.reached c
  pub over : m'.writing c ≡ 0

-- what holds of an accepted call, made at the cabinet m after the calls cs, that leaves the cabinet m'
abbrev pub CallRight : Limits → (n : CardSet) → Calls → Call → Answer → (m m' : Model) → Type 0
CallRight L n cs (open_call reads writes) a m m' = Unit {0}
CallRight L n cs (plain (vote_call k c agrees)) a m m' = Unit {0}
CallRight L n cs (plain (take_call k c)) a m m' = TakeRight (journal L n cs) k c m m'
CallRight L n cs (plain (withdraw_call k)) a m m' = Unit {0}
CallRight L n cs (plain (store_call c s)) a m m' = Unit {0}
CallRight L n cs (plain (begin_call c s)) a m m' = BeginRight c s m m'
CallRight L n cs (plain (end_call c x)) a m m' = EndRight c x m m'
CallRight L n cs (plain trim_call) a m m' = Unit {0}
CallRight L n cs (plain (safe_call k)) a m m' = SafeRight L (journal L n cs) k a
-- "on a lost card its last accepted store or roll stands .. and nothing above"
CallRight L n cs (lose_call cards) a m m' = (c : ℕ) → c < L.width → n c ≡ true → cards c ≡ true → m'.numbers.held c ≡ last_kept L n cs c
CallRight L n cs (fix_call x y) a m m' = FixRight L n (journal L n cs) a
CallRight L n cs (plain (roll_call c)) a m m' = RollRight (journal L n cs) c m'
CallRight L n cs (sheet_call c places) a m m' = Unit {0}
CallRight L n cs restart_call a m m' = RestartRight L n (journal L n cs) m'

-- the sheets of the cabinet m, joined, restart to the line
pub record RestartsTo (C : Codec) (L : Limits) (n : CardSet) (m : Model) (line : Numbers) : Type 0 where
  pub accepted_so : C.verdict (C.joined L m) ≡ Ok tt
  pub same_line : (c : ℕ) → c < L.width → n c ≡ true → (C.restarted L (C.joined L m)).line c ≡ line c

-- Document 02, wish 5: the writes that run after the calls cs
pub record WritesRight (L : Limits) (n : CardSet) (cs : Calls) (m : Model) : Type 0 where
  -- those that were begun and not ended, whatever was opened, voted, taken, trimmed or lost in between
  pub begun : (c : ℕ) → c < L.width → n c ≡ true → m.writing c ≡ last_begun cs c
  -- "A cut between the two thus leaves any state from the old number to s": where a write up to s runs, its end is accepted with every number from the last one stored to s
  pub any_end : (c s x : ℕ) → c < L.width → n c ≡ true → last_begun cs c ≡ suc s → last_kept L n cs c ≤ x → x ≤ s → (end_plan L m c x).reply ≡ accepted done
  -- none runs while the cabinet rolls back
  pub none_rolling : is_rolling m.phase ≡ true → (c : ℕ) → c < L.width → n c ≡ true → last_begun cs c ≡ 0

-- what holds of the cabinet m after the calls cs
pub record CabinetRight (C : Codec) (L : Limits) (n : CardSet) (cs : Calls) (m : Model) : Type 0 where
  -- never refused with 28
  pub never_28 : valid L m ≡ true
  -- demand 2
  pub vectors : VectorsRight L m (journal L n cs)
  -- cuts: the stored number of each card, and the last state of its sheet, is its last accepted store, end or roll
  pub stored_kept : (c : ℕ) → c < L.width → n c ≡ true → m.numbers.stored c ≡ last_kept L n cs c
  pub sheet_kept : (c : ℕ) → c < L.width → n c ≡ true → C.last L m c ≡ last_kept L n cs c
  pub writes : WritesRight L n cs m
  -- "After an accepted fix, and after each later call short of the last roll, the sheets of all cards, joined, restart to the line answered": the engine's memory is gone; so after a restart too
  pub sheets_give_line : (line : Numbers) (marked : CardSet) → (journal L n cs).fix ≡ fixing line marked → RestartsTo C L n m line
  -- a restart is accepted in every phase while another session can follow, and in the last session it is refused with 24
  pub restart_accepted : m.session < L.greatest_number → C.verdict (C.joined L m) ≡ Ok tt
  pub restart_last : L.greatest_number ≤ m.session → C.verdict (C.joined L m) ≡ Err LimitReached

-- throughout a list: of each call, and of the cabinet after it
abbrev pub Throughout : {C : Codec} {L : Limits} {n : CardSet} {cs : Calls} {m : Model} → Run C L n cs m → Type 0
Throughout {C} {L} {n} start = CabinetRight C L n none (fresh_model n)
Throughout {C} {L} {n} (next {cs} {m} r call) =
    Throughout r
    × ((a : Answer) → (plan_of C L m call).reply ≡ accepted a → CallRight L n cs call a m (after_call C L m call))
    × CabinetRight C L n (further cs call (plan_of C L m call).reply) (after_call C L m call)

-- demands 2 and 3, for every list of calls from a fresh cabinet of the cards n, with losses anywhere and restarts in any phase
abbrev pub Demands : Codec → Limits → CardSet → Type 0
Demands C L n = (cs : Calls) (m : Model) (r : Run C L n cs m) → Throughout r
