-- `sheet_sessions::sessions_apart` judges the sessions. The invariant: none of those passed is ahead. Assumes nothing.
use Prim.Native.Nat.{◌-◌, ◌≤◌}
use mathlib.Core.Path.{refl}
use native.Mathlib.Omega.{arith}
use Rattle.sheet_sessions.proofs.Turns.{NoneAhead, none_ahead, apart_here, apart_nowhere}
use borrow.Author.Rules.{rules}
use Rattle.sheet_sessions.proofs.sessions_apart.Given as goal

abbrev pub invariant-loop-i : goal.invariant-loop-i
invariant-loop-i l = NoneAhead l.sessions l.counts l.low l.i
