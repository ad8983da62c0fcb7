-- Each answer enum in document 01's numbers and values, and the first check that fails.
use Rattle.std.specs.Prelude.{ℕ, Bool, cond, List, [], ◌∷◌, Result, Ok, Err}
use Rattle.base_refusal.specs.declared.Refusal.{Refusal}
use Rattle.base_refusal.specs.declared.Refusal.TheVariants.{BadCabinet}
use Rattle.theory_protocol.specs.Plan.{opened, safe, unsafe, Check, ◌⇒◌, accepted, refused}
pub use Rattle.theory_protocol.specs.Plan.{reply_of}
use Rattle.theory_protocol.specs.Plan as plan
use Rattle.base_refusal.specs.Reply.{Reply}
use Rattle.cabinet_layout.specs.declared.Safety.{Safety}
use Rattle.cabinet_layout.specs.declared.Safety.TheVariants.{Safe, Unsafe}

-- open: the number of the change
abbrev pub open_reply_of : Result ℕ Refusal → plan.Reply
open_reply_of (Ok k) = accepted (opened k)
open_reply_of (Err r) = refused r

-- safe
abbrev pub safe_reply_of : Result Safety Refusal → plan.Reply
safe_reply_of (Ok Safe) = accepted safe
safe_reply_of (Ok Unsafe) = accepted unsafe
safe_reply_of (Err r) = refused r

-- the checks after the first
abbrev pub rest : List Check → List Check
rest [] = []
rest (c ∷ cs) = cs

-- the checks of a call whose first, 28, was found to pass or not
abbrev pub after28 : Bool → List Check → List Check
after28 fails cs = fails ⇒ BadCabinet ∷ rest cs

-- one check more: it refuses where no earlier one did and it fails
abbrev pub next : Reply → Bool → Refusal → Reply
next (Ok tt) fails r = cond fails (Err r) (Ok tt)
next (Err q) fails r = Err q

-- the first check that fails refuses
abbrev pub first_failing : List Check → Reply
first_failing [] = Ok tt
first_failing ((fails ⇒ r) ∷ cs) = cond fails (Err r) (first_failing cs)
