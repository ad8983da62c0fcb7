-- A call is a plan over the model: a table of checks, each with its refusal, in document 01's order; then the answer and the edits.
use Rattle.std.specs.Prelude.{ℕ, ◌≡◌, Bool, true, false, cond, ◌⊎◌, List, [], ◌∷◌, Ok, Err}
use Rattle.base_refusal.specs.declared.Refusal.{Refusal}
use Rattle.base_refusal.specs.Reply as refusal
use Rattle.theory_protocol.specs.Model.{Limits, Model}
use Rattle.theory_protocol.specs.Edit.{Edit, edited_all}

-- a card record of call 9: card, stored, line
pub record CardRow : Type 0 where
  pub card : ℕ
  pub stored : ℕ
  pub line : ℕ

-- what an accepted call answers
pub data Answer : Type 0 where
  -- nothing but that it was accepted
  done : Answer
  -- open: the number of the change
  opened : (change : ℕ) → Answer
  -- safe
  safe unsafe : Answer
  -- fix: the card records, and the numbers of the changes lost, rising
  fixed : (cards : List CardRow) (lost : List ℕ) → Answer
  -- a card's sheet
  written : (bytes : List ℕ) → Answer

pub data Reply : Type 0 where
  accepted : Answer → Reply
  refused : Refusal → Reply

-- what is answered by acceptance or a refusal alone: a verdict on bytes, and the calls that answer nothing else
abbrev pub reply_of : refusal.Reply → Reply
reply_of (Ok tt) = accepted done
reply_of (Err r) = refused r

-- a check that fails, and the refusal that it gives
infix 90 ◌⇒◌
pub data Check : Type 0 where
  ◌⇒◌ : Bool → Refusal → Check

pub record Plan : Type 0 where
  pub reply : Reply
  pub edits : List Edit

-- the first check that fails refuses, and a refusal changes nothing
abbrev pub checked : List Check → Answer → List Edit → Plan
checked [] a es = record { reply = accepted a; edits = es }
checked ((fails ⇒ r) ∷ cs) a es = cond fails (record { reply = refused r; edits = [] }) (checked cs a es)

-- no check fails
abbrev pub Passed : List Check → Type 0
Passed [] = Unit {0}
Passed ((fails ⇒ r) ∷ cs) = (fails ≡ false) × Passed cs

-- the refusal is that of the first check that fails
abbrev pub Due : List Check → Refusal → Type 0
Due [] r = ⊥
Due ((fails ⇒ q) ∷ cs) r = ((fails ≡ true) × (q ≡ r)) ⊎ ((fails ≡ false) × Due cs r)

-- the cabinet after the call
abbrev pub after_plan : Limits → Plan → Model → Model
after_plan L p m = edited_all L p.edits m
