-- `list_answer_fix::put_rows` writes the card records of fix. Assumes nothing.
use Prim.Native.Nat.{ℕ}
use mathlib.Core.List.{List}
use Rattle.base_laws.specs.Below.{selected}
use Rattle.cabinet_layout.specs.Shape.{at, present_of}
use Rattle.base_text.specs.Put.{Put}
use Rattle.theory_protocol.specs.Plan.{CardRow}
use Rattle.list_answers.specs.Texts.{rows_text}
use Rattle.list_answer_fix.proofs.put_rows.Given as goal

abbrev pub row : (stored line : List ℕ) → ℕ → CardRow
row stored line i = record { card = i; stored = at stored i; line = at line i }

abbrev pub invariant-loop-c : goal.invariant-loop-c
invariant-loop-c l = Put l.initial.b l.initial.at (rows_text (selected l.c (present_of l.cards) (row l.stored l.line))) l.at l.b
