-- What a call changes: each edit says one thing, and `edited` says what it does to the model.
use Rattle.std.specs.Prelude.{ℕ, suc, max, ◌&&◌, cond, List, [], ◌∷◌, eqb, ltb}
use Rattle.theory_history.specs.Change.{CardSet, Numbers}
use Rattle.theory_history.specs.Vector.{Vector, no_entries, joined}
use Rattle.theory_protocol.specs.Model.{Limits, Phase, up, down, rolling, StateNumbers, Memory, OpenChange, Model, no_cards, free_slot, with_card, is_open, decided, awaits_write}

pub data Edit : Type 0 where
  -- the change in slot p becomes o
  place : (p : ℕ) (o : OpenChange) → Edit
  -- the last change number given is k
  latest : (k : ℕ) → Edit
  -- card c goes up by one state, made by change k with vector v, which becomes its last and its pending
  grow : (c k : ℕ) (v : Vector) → Edit
  -- card c raises its pending by v, entry by entry
  raise : (c : ℕ) (v : Vector) → Edit
  -- card c has stored state s
  keep : (c s : ℕ) → Edit
  -- a write of card c up to state s is running
  begin : (c s : ℕ) → Edit
  -- the write of card c is over, and it reports state x: stored, and held at least
  end : (c x : ℕ) → Edit
  -- every base moves
  rebase : (bases : Numbers) → Edit
  -- the held numbers of a set of cards fall to stored
  fall : (cards : CardSet) → Edit
  -- the open changes end and the phase is down
  halt : Edit
  -- the line is fixed and the phase is rolling
  fix : (line : Numbers) → Edit
  -- card c goes to its line
  lower : (c : ℕ) → Edit
  -- the next session begins
  renew : Edit

-- f, but for the value v at i
abbrev pub put : {A : Type 0} → (ℕ → A) → ℕ → A → ℕ → A
put f i v k = cond (eqb k i) v (f k)

-- ---- the parts of a cabinet that edits change
-- a cabinet of the same cards; the one place that writes a changed cabinet out
abbrev remade : Model → (session : ℕ) → Phase → (latest : ℕ) → StateNumbers → Memory → (ℕ → OpenChange) → (ended : ℕ → ℕ) → (line : Numbers) → (rolled : CardSet) → (writing : Numbers) → Model
remade m session phase k n y slot ended line rolled writing =
    record {
      session = session;
      phase = phase;
      latest = k;
      present = m.present;
      numbers = n;
      memory = y;
      slot = slot;
      ended = ended;
      line = line;
      rolled = rolled;
      writing = writing;
    }

abbrev pub with_numbers : Model → StateNumbers → Memory → Model
with_numbers m n y = remade m m.session m.phase m.latest n y m.slot m.ended m.line m.rolled m.writing

abbrev pub with_memory : Model → Memory → Model
with_memory m y = with_numbers m m.numbers y

abbrev pub with_head : Model → (session : ℕ) → Phase → (latest : ℕ) → Model
with_head m session phase k = remade m session phase k m.numbers m.memory m.slot m.ended m.line m.rolled m.writing

abbrev pub with_slots : Model → (ℕ → OpenChange) → (ended : ℕ → ℕ) → Model
with_slots m slot ended = remade m m.session m.phase m.latest m.numbers m.memory slot ended m.line m.rolled m.writing

abbrev pub with_line : Model → Numbers → (rolled : CardSet) → Model
with_line m line rolled = remade m m.session m.phase m.latest m.numbers m.memory m.slot m.ended line rolled m.writing

abbrev pub with_writing : Model → Numbers → Model
with_writing m writing = remade m m.session m.phase m.latest m.numbers m.memory m.slot m.ended m.line m.rolled writing

-- the number that a slot is remembered by when a loss ends it: of a decided change with a written share untaken its own, otherwise 0
abbrev pub remembered : Limits → OpenChange → ℕ
remembered L o = cond (is_open o && decided L o && awaits_write L o) o.change.number 0

abbrev pub edited : Limits → Edit → Model → Model
edited L (place p o) m = with_slots m (put m.slot p o) m.ended
edited L (latest k) m = with_head m m.session m.phase k
edited L (grow c k v) m =
    with_numbers m
    (record {
      base = m.numbers.base;
      stored = m.numbers.stored;
      held = put m.numbers.held c (suc (m.numbers.reached c));
      reached = put m.numbers.reached c (suc (m.numbers.reached c));
    })
    (record {
      last = put m.memory.last c v;
      pending = put m.memory.pending c v;
      change = put m.memory.change c (put (m.memory.change c) (suc (m.numbers.reached c)) k);
      frame = put m.memory.frame c (put (m.memory.frame c) (suc (m.numbers.reached c)) v);
    })
edited L (raise c v) m =
    with_memory m
    (record {
      last = m.memory.last;
      pending = put m.memory.pending c (joined (m.memory.pending c) v);
      change = m.memory.change;
      frame = m.memory.frame;
    })
edited L (keep c s) m =
    with_numbers m
    (record {
      base = m.numbers.base;
      stored = put m.numbers.stored c s;
      held = m.numbers.held;
      reached = m.numbers.reached;
    })
    m.memory
edited L (begin c s) m = with_writing m (put m.writing c (suc s))
edited L (end c x) m =
    with_writing
    (with_numbers m
    (record {
      base = m.numbers.base;
      stored = put m.numbers.stored c x;
      held = put m.numbers.held c (max (m.numbers.held c) x);
      reached = m.numbers.reached;
    })
    m.memory)
    (put m.writing c 0)
edited L (rebase bases) m =
    with_numbers m
    (record { base = bases; stored = m.numbers.stored; held = m.numbers.held; reached = m.numbers.reached })
    (record {
      last = m.memory.last;
      pending = m.memory.pending;
      change = λ c x. cond (ltb (bases c) x) (m.memory.change c x) 0;
      frame = λ c x. cond (ltb (bases c) x) (m.memory.frame c x) no_entries;
    })
edited L (fall cards) m =
    with_numbers m
    (record {
      base = m.numbers.base;
      stored = m.numbers.stored;
      held = λ c. cond (cards c) (m.numbers.stored c) (m.numbers.held c);
      reached = m.numbers.reached;
    })
    m.memory
edited L halt m = with_head (with_slots m (λ p. free_slot) (λ p. remembered L (m.slot p))) m.session down m.latest
edited L (fix line) m = with_head (with_line (with_slots m m.slot (λ p. 0)) line no_cards) m.session rolling m.latest
edited L (lower c) m =
    with_line
    (with_numbers m
    (record {
      base = put m.numbers.base c (m.line c);
      stored = put m.numbers.stored c (m.line c);
      held = put m.numbers.held c (m.line c);
      reached = put m.numbers.reached c (m.line c);
    })
    (record {
      last = m.memory.last;
      pending = m.memory.pending;
      change = put m.memory.change c (λ x. 0);
      frame = put m.memory.frame c (λ x. no_entries);
    }))
    m.line
    (with_card m.rolled c)
edited L renew m =
    with_head
    (with_line (with_memory m (record { last = λ c. no_entries; pending = λ c. no_entries; change = m.memory.change; frame = m.memory.frame })) m.line no_cards)
    (suc m.session)
    up
    0

-- the edits of a list, one after the other
abbrev pub edited_all : Limits → List Edit → Model → Model
edited_all L [] m = m
edited_all L (e ∷ es) m = edited_all L es (edited L e m)
