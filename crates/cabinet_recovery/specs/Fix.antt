-- What fix answers: the reply, the lines by card, and the numbers of the changes lost in the lent list.
use Rattle.base_refusal.specs.declared.Refusal.{Refusal}
use Rattle.std.specs.Prelude.{ℕ, ◌≤◌, ◌≡◌, List, [], ◌∷◌, length, take, Result, Ok, Err}
use Rattle.std.proofs.lemmas.List.Edits.{sets}
use Rattle.base_laws.specs.Below.{selected}
use Rattle.theory_protocol.specs.Model.{Model}
use Rattle.theory_protocol.specs.Plan.{CardRow, done, opened, safe, unsafe, fixed, written, Check, Plan, accepted, refused}
use Rattle.theory_protocol.specs.Plan as plan
use Rattle.theory_protocol.specs.Calls.{lines}
use Rattle.cabinet_layout.specs.Shape.{limits16, at, list_of, present_of}

-- the card records, in card order, from the lists of stored numbers and lines
abbrev pub rows_of : ℕ → (stored line : List ℕ) → List CardRow
rows_of n stored line = selected limits16.width (present_of n) (λ c. record { card = c; stored = at stored c; line = at line c })

-- the reply in document 01's values: so many of the lent list's first places hold the numbers of the changes lost
abbrev pub fix_reply_of : ℕ → (stored line list : List ℕ) → Result ℕ Refusal → plan.Reply
fix_reply_of n stored line list (Ok k) = accepted (fixed (rows_of n stored line) (take k list))
fix_reply_of n stored line list (Err r) = refused r

-- the lent list after the call
abbrev pub list_after : plan.Reply → List ℕ → List ℕ
list_after (accepted (fixed rows lost)) l = sets l 0 lost
list_after (accepted done) l = l
list_after (accepted (opened k)) l = l
list_after (accepted safe) l = l
list_after (accepted unsafe) l = l
list_after (accepted (written b)) l = l
list_after (refused r) l = l

-- the lines worked out: all 0 where the call is refused
abbrev pub lines_after : plan.Reply → Model → List ℕ
lines_after (accepted a) m = list_of (lines limits16 m)
lines_after (refused r) m = list_of (λ c. 0)

-- all checks but the last: "4 comes last of all"
abbrev pub but_last : List Check → List Check
but_last [] = []
but_last (c ∷ []) = []
but_last (c ∷ d ∷ cs) = c ∷ but_last (d ∷ cs)

-- "their count is given": the count answered, and 0 with a refusal
abbrev pub count_told : Result ℕ Refusal → ℕ
count_told (Ok k) = k
count_told (Err r) = 0

-- the answer is that of the plan, and so is each place of the lent list
pub record FixResult (p : Plan) (n : ℕ) (stored line before after : List ℕ) (reply : (Result ℕ Refusal)) : Type 0 where
  pub answer : fix_reply_of n stored line after reply ≡ p.reply
  pub inside : count_told reply ≤ length after
  pub list : after ≡ list_after p.reply before

-- the same, with the lines that are worked out
pub record FixWorked (m : Model) (p : Plan) (n : ℕ) (stored line before after : List ℕ) (reply : (Result ℕ Refusal)) : Type 0 where
  pub told : FixResult p n stored line before after reply
  pub lines_are : line ≡ lines_after p.reply m
