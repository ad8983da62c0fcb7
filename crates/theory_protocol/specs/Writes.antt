-- Document 02, wish 5: what is refused for a running write, and what goes by none. Statements alone: the proofs are in proofs/Unseen.antt.
use Rattle.std.specs.Prelude.{ℕ, ◌≤◌, ◌<◌, ◌≡◌, Bool, true, false, ◌⊎◌}
use Rattle.base_refusal.specs.declared.Refusal.TheVariants.{StoreOutside, WriteRunning, EndOutside, WriteUnreported}
use Rattle.theory_history.specs.Change.{CardSet}
use Rattle.theory_protocol.specs.Model.{Limits, is_down, is_rolling, Model, is_card, is_writing, writes_to}
use Rattle.theory_protocol.specs.Valid.{valid}
use Rattle.theory_protocol.specs.Edit.{with_writing}
use Rattle.theory_protocol.specs.Plan.{Plan, refused, after_plan}
use Rattle.theory_protocol.specs.Calls.{open_plan, vote_plan, take_plan, withdraw_plan, store_plan, begin_plan, end_plan, trim_plan, safe_plan, lose_plan, some_writing, fix_plan}

-- "It refuses with 31 a store or beginning on a card whose write is running, with 32 an end outside those numbers or without a beginning, and with 33 a fix while a write is unreported":
-- of any cabinet that 28 lets pass, in the phases of the call
pub record WritesRefused (L : Limits) (m : Model) : Type 0 where
  pub store : (c s : ℕ) → is_card L m c ≡ true → is_rolling m.phase ≡ false → m.numbers.stored c ≤ s → s ≤ m.numbers.held c → is_writing m c ≡ true
      → ((store_plan L m c s).reply ≡ refused WriteRunning) × ((begin_plan L m c s).reply ≡ refused WriteRunning)
  -- "a bad s is 27", and so it is where a write is running
  pub bad : (c s : ℕ) → is_card L m c ≡ true → is_rolling m.phase ≡ false → (s < m.numbers.stored c) ⊎ (m.numbers.held c < s)
      → ((store_plan L m c s).reply ≡ refused StoreOutside) × ((begin_plan L m c s).reply ≡ refused StoreOutside)
  pub end : (c x : ℕ) → is_card L m c ≡ true → is_rolling m.phase ≡ false → (is_writing m c ≡ false) ⊎ ((x < m.numbers.stored c) ⊎ (writes_to m c < x))
      → (end_plan L m c x).reply ≡ refused EndOutside
  -- whatever is lent, and whichever card it is: 4 comes after it
  pub fix : (card_places lost_places : ℕ) → is_down m.phase ≡ true → m.session < L.greatest_number → some_writing L m ≡ true
      → (fix_plan L m card_places lost_places).reply ≡ refused WriteUnreported

abbrev pub RefusedWhileWriting : Type 0
RefusedWhileWriting = (L : Limits) (m : Model) → valid L m ≡ true → WritesRefused L m

-- ---- "Between them the cabinet accepts openings, votes, takes and trim"
-- the cabinet with no write running
abbrev pub unwritten : Model → Model
unwritten m = with_writing m (λ c. 0)

-- a call's plan p, and q with no write running: it answers and does the same, and leaves the writes that run
pub record Unseen (L : Limits) (m : Model) (p q : Plan) : Type 0 where
  pub same : p ≡ q
  pub does : unwritten (after_plan L p m) ≡ after_plan L q (unwritten m)
  pub leaves : (after_plan L p m).writing ≡ m.writing

-- of any cabinet that 28 lets pass: what these calls answer and do goes by no running write
pub record WritesUnseen (L : Limits) (m : Model) : Type 0 where
  pub opens : (reads writes : CardSet) → Unseen L m (open_plan L m reads writes) (open_plan L (unwritten m) reads writes)
  pub votes : (k c : ℕ) (agrees : Bool) → Unseen L m (vote_plan L m k c agrees) (vote_plan L (unwritten m) k c agrees)
  pub takes : (k c : ℕ) → Unseen L m (take_plan L m k c) (take_plan L (unwritten m) k c)
  pub withdraws : (k : ℕ) → Unseen L m (withdraw_plan L m k) (withdraw_plan L (unwritten m) k)
  pub trims : Unseen L m (trim_plan L m) (trim_plan L (unwritten m))
  pub asks : (k : ℕ) → Unseen L m (safe_plan L m k) (safe_plan L (unwritten m) k)
  pub loses : (cards : CardSet) → Unseen L m (lose_plan L m cards) (lose_plan L (unwritten m) cards)

abbrev pub Unhindered : Type 0
Unhindered = (L : Limits) (m : Model) → valid L m ≡ true → WritesUnseen L m
