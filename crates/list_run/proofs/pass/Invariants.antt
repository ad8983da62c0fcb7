-- `list_run::pass` does the lines of a text one after the other. Assumes nothing.
use Prim.Native.Nat.{◌-◌}
use mathlib.Core.Path.{sym, ◌∙◌}
use native.Mathlib.Omega.{arith}
use lib.ListN.{length}
use Rattle.list_parse.proofs.Lines.{token_forward}
use Rattle.list_texts.proofs.Laws.{Going, going_none, going_more, going_ends}
use borrow.Author.Rules.{rules}
use Rattle.list_run.proofs.pass.Given as goal

abbrev pub invariant-loop-said : goal.invariant-loop-said
invariant-loop-said l = Going l.text l.initial.out l.initial.w l.at l.r l.w l.out

abbrev pub decreases-loop-said : goal.decreases-loop-said
decreases-loop-said l = length l.text - l.at
