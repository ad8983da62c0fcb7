-- Document 01's samples B to H, with what safe answers of their changes, lists of lost changes for document 02's wish 3, and the worked read-out, as lists of calls from a fresh cabinet.
use Rattle.std.specs.Prelude.{ℕ, suc, true, List, [], ◌∷◌, ◌++◌, map, ltb, length}
use Rattle.base_limits.specs.Document.{limits16}
use Rattle.base_laws.specs.Below.{tabulate}
use Rattle.base_refusal.specs.declared.Refusal.TheVariants.{NotAwaited}
use Rattle.sheet_digits.specs.Digits.{digit}
use Rattle.theory_history.specs.Samples.{among}
use Rattle.theory_protocol.specs.Model.{Model}
use Rattle.theory_protocol.specs.Plan.{CardRow, safe, unsafe, fixed, Reply, accepted, refused}
use Rattle.theory_protocol.specs.Calls.{fresh_model}
use Rattle.theory_protocol.specs.Run.{Call, plain, open_call, vote_call, take_call, store_call, safe_call, lose_call, fix_call, plan_of, after_call}
use Rattle.theory_codec.specs.Sheets.{codec}

-- the cabinet after calls
abbrev pub followed : Model → List Call → Model
followed m [] = m
followed m (c ∷ cs) = followed (after_call codec limits16 m c) cs

-- what the last of some calls answers
abbrev pub last_reply : Model → Call → List Call → Reply
last_reply m c [] = (plan_of codec limits16 m c).reply
last_reply m c (d ∷ cs) = last_reply (after_call codec limits16 m c) d cs

-- change k: opened, voted yes by every card that it touches, and taken by every one
abbrev pub decided_by : ℕ → (reads writes : List ℕ) → List Call
decided_by k reads writes = open_call (among reads) (among writes) ∷ map (λ c. plain (vote_call k c true)) (reads ++ writes)

abbrev pub wholly : ℕ → (reads writes : List ℕ) → List Call
wholly k reads writes = decided_by k reads writes ++ map (λ c. plain (take_call k c)) (reads ++ writes)

-- "Changes 1 (writes 0), 2 (reads 0, writes 1), 3 (writes 0)"
abbrev pub three_changes : List Call
three_changes = wholly 1 [] (0 ∷ []) ++ wholly 2 (0 ∷ []) (1 ∷ []) ++ wholly 3 [] (0 ∷ [])

-- change k, which is open and touches the card c alone: decided, and taken
abbrev pub yes_of : (k c : ℕ) → List Call
yes_of k c = plain (vote_call k c true) ∷ []

abbrev pub share_of : (k c : ℕ) → List Call
share_of k c = yes_of k c ++ plain (take_call k c) ∷ []

-- a recovery: the number of cards, the calls before the loss, what safe then answers of changes 1, 2, .., the cards lost, and what the fix answers: by card the stored number and
-- the line, and the changes lost
pub record Recovery : Type 0 where
  pub cards : ℕ
  pub calls : List Call
  pub safety : List Reply
  pub lost_cards : List ℕ
  pub rows : List CardRow
  pub lost : List ℕ

abbrev row : (card stored line : ℕ) → CardRow
row c s l = record { card = c; stored = s; line = l }

-- the replies to safe
abbrev pub safe_replies : Recovery → List Reply
safe_replies r = tabulate (length r.safety) (λ i. last_reply (followed (fresh_model (λ c. ltb c r.cards)) r.calls) (plain (safe_call (suc i))) [])

-- the reply to the fix
abbrev pub fix_reply : Recovery → Reply
fix_reply r = last_reply (followed (fresh_model (λ c. ltb c r.cards)) r.calls) (lose_call (among r.lost_cards)) (fix_call 16 768 ∷ [])

abbrev pub recoveries : List Recovery
recoveries =
    -- B: A, stored 2, 0. Document 02, wish 1: "the lamp was lit for change 3, and the roll-back took it"
    record { cards = 2; calls = three_changes ++ plain (store_call 0 2) ∷ []; safety = accepted safe ∷ accepted unsafe ∷ accepted unsafe ∷ []; lost_cards = 1 ∷ []; rows = row 0 2 1 ∷ row 1 0 0 ∷ []; lost = 2 ∷ 3 ∷ [] }
    -- C: A, stored 1, 1
    ∷ record { cards = 2; calls = three_changes ++ plain (store_call 0 1) ∷ plain (store_call 1 1) ∷ []; safety = accepted safe ∷ accepted safe ∷ accepted unsafe ∷ []; lost_cards = 0 ∷ []; rows = row 0 1 1 ∷ row 1 1 1 ∷ []; lost = 3 ∷ [] }
    -- D: A, stored 0, 1
    ∷ record { cards = 2; calls = three_changes ++ plain (store_call 1 1) ∷ []; safety = accepted unsafe ∷ accepted unsafe ∷ accepted unsafe ∷ []; lost_cards = 0 ∷ []; rows = row 0 0 0 ∷ row 1 1 0 ∷ []; lost = 1 ∷ 2 ∷ 3 ∷ [] }
    -- E: one change writes 0 and 1; only 0 took and stored
    ∷ record { cards = 2; calls = decided_by 1 [] (0 ∷ 1 ∷ []) ++ plain (take_call 1 0) ∷ plain (store_call 0 1) ∷ []; safety = accepted unsafe ∷ []; lost_cards = 1 ∷ []; rows = row 0 1 0 ∷ row 1 0 0 ∷ []; lost = 1 ∷ [] }
    -- F: three cards; 1 reads 1, writes 0; 2 reads 1, writes 2; stored 0, 0, 1
    ∷ record {
      cards = 3;
      calls = wholly 1 (1 ∷ []) (0 ∷ []) ++ wholly 2 (1 ∷ []) (2 ∷ []) ++ plain (store_call 2 1) ∷ [];
      safety = accepted unsafe ∷ accepted safe ∷ [];
      lost_cards = 0 ∷ [];
      rows = row 0 0 0 ∷ row 1 0 0 ∷ row 2 1 1 ∷ [];
      lost = 1 ∷ [];
    }
    -- G: two cards; 1 writes 0; 2 reads 0 and 1; 3 writes 1; stored 0, 1
    ∷ record {
      cards = 2;
      calls = wholly 1 [] (0 ∷ []) ++ wholly 2 (0 ∷ 1 ∷ []) [] ++ wholly 3 [] (1 ∷ []) ++ plain (store_call 1 1) ∷ [];
      safety = accepted unsafe ∷ refused NotAwaited ∷ accepted unsafe ∷ [];
      lost_cards = 0 ∷ [];
      rows = row 0 0 0 ∷ row 1 1 0 ∷ [];
      lost = 1 ∷ 3 ∷ [];
    }
    -- H: nothing decided, all lost
    ∷ record { cards = 16; calls = []; safety = []; lost_cards = tabulate 16 (λ c. c); rows = tabulate 16 (λ c. row c 0 0); lost = [] }
    -- two cards; 1 writes 0, 2 writes 1, decided in the order 2, 1
    ∷ record {
      cards = 2;
      calls = open_call (among []) (among (0 ∷ [])) ∷ open_call (among []) (among (1 ∷ [])) ∷ share_of 2 1 ++ share_of 1 0;
      safety = accepted unsafe ∷ accepted unsafe ∷ [];
      lost_cards = 0 ∷ 1 ∷ [];
      rows = row 0 0 0 ∷ row 1 0 0 ∷ [];
      lost = 1 ∷ 2 ∷ [];
    }
    -- three cards; 1 writes 0, 2 writes 1, 3 writes 2, decided in the order 3, 1, 2; a loss ends 2, which no card has taken
    ∷ record {
      cards = 3;
      calls = open_call (among []) (among (0 ∷ [])) ∷ open_call (among []) (among (1 ∷ [])) ∷ open_call (among []) (among (2 ∷ [])) ∷ share_of 3 2 ++ share_of 1 0 ++ yes_of 2 1;
      safety = accepted unsafe ∷ refused NotAwaited ∷ accepted unsafe ∷ [];
      lost_cards = 1 ∷ [];
      rows = row 0 0 0 ∷ row 1 0 0 ∷ row 2 0 0 ∷ [];
      lost = 1 ∷ 2 ∷ 3 ∷ [];
    }
    ∷ []

-- what a recovery says that its fix answers
abbrev pub said_reply : Recovery → Reply
said_reply r = accepted (fixed r.rows r.lost)

-- ---- the worked read-out: "Changes 1 (writes 0), 2 (reads 0, writes 1), 3 (writes 0) of two cards, stored 2 and 0."
abbrev pub worked_calls : List Call
worked_calls = three_changes ++ plain (store_call 0 2) ∷ []

-- a line, by the values of its digits
abbrev pub typed_line : List ℕ → List ℕ
typed_line vs = map digit vs ++ 10 ∷ []

abbrev pub worked_bytes : List ℕ
worked_bytes =
    -- 00000001 00 02 0000 0002 96C6
    typed_line (0 ∷ 0 ∷ 0 ∷ 0 ∷ 0 ∷ 0 ∷ 0 ∷ 1 ∷ 0 ∷ 0 ∷ 0 ∷ 2 ∷ 0 ∷ 0 ∷ 0 ∷ 0 ∷ 0 ∷ 0 ∷ 0 ∷ 2 ∷ 9 ∷ 6 ∷ 12 ∷ 6 ∷ [])
    -- 0001 00000001 0000 FFFF 6B1B
    ++ typed_line (0 ∷ 0 ∷ 0 ∷ 1 ∷ 0 ∷ 0 ∷ 0 ∷ 0 ∷ 0 ∷ 0 ∷ 0 ∷ 1 ∷ 0 ∷ 0 ∷ 0 ∷ 0 ∷ 15 ∷ 15 ∷ 15 ∷ 15 ∷ 6 ∷ 11 ∷ 1 ∷ 11 ∷ [])
    -- 0002 00000003 0001 0000 B7C7
    ++ typed_line (0 ∷ 0 ∷ 0 ∷ 2 ∷ 0 ∷ 0 ∷ 0 ∷ 0 ∷ 0 ∷ 0 ∷ 0 ∷ 3 ∷ 0 ∷ 0 ∷ 0 ∷ 1 ∷ 0 ∷ 0 ∷ 0 ∷ 0 ∷ 11 ∷ 7 ∷ 12 ∷ 7 ∷ [])
    -- 00000001 01 02 0000 0000 B3C6
    ++ typed_line (0 ∷ 0 ∷ 0 ∷ 0 ∷ 0 ∷ 0 ∷ 0 ∷ 1 ∷ 0 ∷ 1 ∷ 0 ∷ 2 ∷ 0 ∷ 0 ∷ 0 ∷ 0 ∷ 0 ∷ 0 ∷ 0 ∷ 0 ∷ 11 ∷ 3 ∷ 12 ∷ 6 ∷ [])
