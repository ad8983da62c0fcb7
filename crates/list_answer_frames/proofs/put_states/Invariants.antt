-- `list_answer_frames::put_states` writes the lines of the states in hand. Assumes nothing.
use Prim.Native.Nat.{ℕ, suc, ◌+◌}
use Rattle.base_laws.specs.Below.{tabulate}
use Rattle.base_text.specs.Put.{Put}
use Rattle.base_lines.specs.Lines.{joined}
use Rattle.list_answer_frames.specs.Frames.{ring_text}
use Rattle.list_answer_frames.proofs.put_states.Given as goal

abbrev pub invariant-loop-k : goal.invariant-loop-k
invariant-loop-k l = Put l.initial.b l.initial.at (joined (tabulate l.k (λ (i : ℕ). ring_text l.changes l.entries l.cards l.card (suc (l.base + i))))) l.at l.b
