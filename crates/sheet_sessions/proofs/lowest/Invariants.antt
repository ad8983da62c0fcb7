-- `sheet_sessions::lowest` gives the lowest session. The invariant: the lowest of those passed. Assumes nothing.
use mathlib.Core.Path.{◌≡◌}
use lib.ListN.{get_or}
use Rattle.sheet_sessions.specs.Sessions.{lowest_to}
use Rattle.sheet_sessions.proofs.lowest.Given as goal

abbrev pub invariant-loop-i : goal.invariant-loop-i
invariant-loop-i l = l.low ≡ lowest_to (λ k. get_or l.sessions k 0) l.i
