-- `sheet_sessions::sessions_apart` judges the sessions. The invariant: none of those passed is ahead. Assumes nothing.
use Prim.Native.Nat.{◌-◌, ◌≤◌}
use mathlib.Core.Path.{refl}
use native.Mathlib.Omega.{arith}
use Rattle.sheet_sessions.proofs.Turns.{NoneAhead, none_ahead, apart_here, apart_nowhere}
use borrow.Author.Rules.{rules}
use Rattle.sheet_sessions.proofs.sessions_apart.Goals as goal

pub returns-then-ahead : goal.returns-then-ahead
returns-then-ahead c =
    let a = c.args in
    apart_here a.sessions a.counts a.low a.n c.loop-i.i (search rules) c.ahead.ensures c.if-ahead.true

pub loop-i-preserved : goal.loop-i-preserved
loop-i-preserved c =
    let a = c.args in
    none_ahead a.sessions a.counts a.low c.loop-i.i c.loop-i.invariant c.ahead.ensures c.if-ahead.false

pub returns : goal.returns
returns c =
    let a = c.args in
    apart_nowhere a.sessions a.counts a.low a.n c.loop-i.i (search rules) c.min-i-end.ensures (search rules) c.loop-i.invariant
