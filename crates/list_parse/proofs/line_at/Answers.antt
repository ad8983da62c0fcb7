-- `list_parse::line_at` finds the end of a line and reads it. Assumes nothing.
use native.Mathlib.Omega.{arith}
use Rattle.list_parse.proofs.Lines.{token_more, token_last, found_within}
use borrow.Author.Rules.{rules}
use Rattle.list_parse.proofs.line_at.Goals as goal

pub slice_bounds-parse-end : goal.slice_bounds-parse-end
slice_bounds-parse-end c = omega (arith, found_within c.args.s.now c.args.from _ (search rules) c.find-end.ensures)

pub returns-then-end-s : goal.returns-then-end-s
returns-then-end-s c = token_more c.args.s.now c.args.from _ (search rules) c.find-end.ensures c.parse-said.ensures c.if-end-s.true

pub returns-else-end-s : goal.returns-else-end-s
returns-else-end-s c = token_last c.args.s.now c.args.from _ (search rules) c.find-end.ensures c.parse-said.ensures c.if-end-s.false
