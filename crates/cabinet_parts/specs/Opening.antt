-- What an opening answers, by its verdict.
use Rattle.base_refusal.specs.declared.Refusal.{Refusal}
use Rattle.std.specs.Prelude.{ℕ, ◌+◌, Result, Ok, Err}
use Rattle.base_refusal.specs.Reply.{Reply}

-- after k changes
abbrev pub open_answer : Reply → ℕ → Result ℕ Refusal
open_answer (Ok tt) k = Ok (k + 1)
open_answer (Err q) k = Err q
