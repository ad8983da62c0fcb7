-- `cabinet_joined::join` writes the sheets of all cards one after the other. The invariant: those of the first cards stand at the front of the buffer. Assumes nothing.
use Prim.Native.Nat.{◌≤◌}
use Rattle.cabinet_joined.proofs.Fronts.{Joined}
use Rattle.cabinet_joined.proofs.join.Given as goal

abbrev pub invariant-loop-card : goal.invariant-loop-card
invariant-loop-card l = Joined l.c l.buffer l.card l.at × (l.card ≤ l.cards)
