-- `list_parse::parse` reads a line. Assumes nothing.
use native.Mathlib.Omega.{arith}
use Rattle.list_parse.proofs.Lines.{parse_read, found_within}
use borrow.Author.Rules.{rules}
use Rattle.list_parse.proofs.parse.Goals as goal

pub slice_bounds-say_with-end : goal.slice_bounds-say_with-end
slice_bounds-say_with-end c = omega (arith, found_within c.args.line.now 0 _ (search rules) c.find-end.ensures)

pub returns : goal.returns
returns c = parse_read c.args.line.now _ (search rules) c.find-end.ensures c.figures_at-f.ensures c.say_with.ensures
