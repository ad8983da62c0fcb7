-- `sheet_frame_rules::entries_allowed` judges the entries of a frame. The invariant: those passed are allowed. Assumes nothing.
use Prim.Native.Nat.{ℕ}
use mathlib.Core.Path.{◌≡◌, sym, ◌∙◌, ap}
use native.Mathlib.Omega.{arith}
use lib.ListN.{get_or}
use Rattle.base_laws.specs.Below.{all_below}
use Rattle.sheet_lines.specs.Format.{format_of}
use Rattle.sheet_lines.specs.Lines.{entry_allowed, entries_allowed}
use Rattle.sheet_lines.proofs.Judged.{below_stop}
use Rattle.sheet_frame_rules.proofs.entries_allowed.Goals as goal

pub returns-then-not-entry_allowed : goal.returns-then-not-entry_allowed
unfolding entries_allowed
returns-then-not-entry_allowed c =
    let a = c.args in
    below_stop c.loop-j.j a.n (λ i. entry_allowed (format_of a.f) a.card a.state i (get_or a.last i 0) (get_or a.next i 0)) c.loop-j-test.true c.entry_allowed.ensures c.if-not-entry_allowed.true

pub returns : goal.returns
unfolding entries_allowed
returns c =
    let a = c.args in
    let e : c.loop-j.j ≡ a.n = omega arith in
    sym (sym (ap (λ (k : ℕ). all_below k (λ i. entry_allowed (format_of a.f) a.card a.state i (get_or a.last i 0) (get_or a.next i 0))) e) ∙ c.loop-j.invariant.1)
