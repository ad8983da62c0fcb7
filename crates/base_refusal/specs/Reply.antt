-- Acceptance or a refusal: what is said of a line, a sheet or a read-out, and what a call answers that answers nothing else.
use Rattle.std.specs.Prelude.{Result, Ok, Err}
use Rattle.base_refusal.specs.declared.Refusal.{Refusal}

-- accepted, or refused with that refusal
abbrev pub Reply : Type 0
Reply = Result (Unit {0}) Refusal

-- acceptance or the refusal alone, of an answer that hands something over with acceptance
abbrev pub verdict_of : {T : Type 0} → Result T Refusal → Reply
verdict_of (Ok x) = Ok tt
verdict_of (Err r) = Err r
