-- `list_answer_fix::put_rows` writes the card records of fix. Assumes nothing.
use Prim.Native.Nat.{ℕ}
use mathlib.Core.Path.{◌≡◌, sym, ◌∙◌, ap}
use mathlib.Core.List.{List}
use Rattle.base_laws.specs.Below.{selected}
use Rattle.cabinet_layout.specs.Shape.{at, present_of}
use Rattle.cabinet_layout.proofs.Limits.{width16}
use Rattle.theory_protocol.specs.Plan.{CardRow}
use Rattle.list_answers.specs.Texts.{rows_text}
use Rattle.base_text.proofs.Puts.{put_then, put_as}
use Rattle.list_answer_fix.proofs.Spaced.{rows_more}
use borrow.Author.Rules.{rules}
use Rattle.list_answer_fix.proofs.put_rows.Goals as goal

abbrev row : (stored line : List ℕ) → ℕ → CardRow
row stored line i = record { card = i; stored = at stored i; line = at line i }

pub loop-c-preserved : goal.loop-c-preserved
loop-c-preserved c = put_as (rows_more (present_of c.args.cards) (row c.args.stored c.args.line) c.loop-c.c) (put_then c.loop-c.invariant c.put_card-at.ensures)

pub returns : goal.returns
returns c = let e : c.loop-c.c ≡ 16 = search rules in put_as (ap (λ (k : ℕ). rows_text (selected k (present_of c.args.cards) (row c.args.stored c.args.line))) (e ∙ sym width16)) c.loop-c.invariant
