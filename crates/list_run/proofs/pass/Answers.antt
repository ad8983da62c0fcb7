-- `list_run::pass` does the lines of a text one after the other. Assumes nothing.
use Prim.Native.Nat.{◌-◌}
use mathlib.Core.Path.{sym, ◌∙◌}
use native.Mathlib.Omega.{arith}
use lib.ListN.{length}
use Rattle.list_parse.proofs.Lines.{token_forward}
use Rattle.list_texts.proofs.Laws.{Going, going_none, going_more, going_ends}
use borrow.Author.Rules.{rules}
use Rattle.list_run.proofs.pass.Goals as goal

pub loop-said-init : goal.loop-said-init
loop-said-init c = going_none _ _ c.begin-r.ensures

pub shape_of-out : goal.shape_of-out
shape_of-out c = c.loop-said.invariant.size

pub returns : goal.returns
returns c = going_ends c.loop-said.invariant c.line_at.ensures c.in_default.is

pub loop-said-smaller : goal.loop-said-smaller
loop-said-smaller c = let h = token_forward c.args.text.now c.loop-said.at (sym c.in-Some.is ∙ c.line_at.ensures) in omega (arith, h.0, h.1)

pub loop-said-preserved : goal.loop-said-preserved
loop-said-preserved c = going_more c.loop-said.invariant c.line_at.ensures c.in-Some.is c.done-s.ensures
