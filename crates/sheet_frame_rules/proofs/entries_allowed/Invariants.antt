-- `sheet_frame_rules::entries_allowed` judges the entries of a frame. The invariant: those passed are allowed. Assumes nothing.
use Prim.Native.Nat.{◌≤◌}
use mathlib.Core.Bool.{true}
use mathlib.Core.Path.{◌≡◌}
use lib.ListN.{get_or}
use Rattle.base_laws.specs.Below.{all_below}
use Rattle.sheet_lines.specs.Format.{format_of}
use Rattle.sheet_lines.specs.Lines.{entry_allowed}
use Rattle.sheet_frame_rules.proofs.entries_allowed.Given as goal

abbrev pub invariant-loop-j : goal.invariant-loop-j
invariant-loop-j l = (l.j ≤ l.n) × (all_below l.j (λ i. entry_allowed (format_of l.f) l.card l.state i (get_or l.last i 0) (get_or l.next i 0)) ≡ true)
