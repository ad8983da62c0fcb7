-- `list_answer_frames::put_states` writes the lines of the states in hand. Assumes nothing.
use Prim.Native.Nat.{ℕ, suc, ◌+◌}
use mathlib.Core.Path.{◌≡◌, ap}
use native.Mathlib.Omega.{arith}
use Rattle.base_laws.specs.Below.{tabulate}
use Rattle.base_lines.specs.Lines.{joined}
use Rattle.base_text.proofs.Puts.{put_then, put_as}
use Rattle.base_lines.proofs.Spaced.{joined_next}
use Rattle.list_answer_frames.specs.Frames.{ring_text}
use Rattle.list_answer_frames.proofs.Frames.{ring_as}
use borrow.Author.Rules.{rules}
use Rattle.list_answer_frames.proofs.put_states.Goals as goal

pub loop-k-preserved : goal.loop-k-preserved
loop-k-preserved c =
    let a = c.args in
    let k : ℕ = c.loop-k.k in
    let z : a.base + 1 + k ≡ suc (a.base + k) = omega arith in
    put_as (joined_next (λ (i : ℕ). ring_text a.changes.now a.entries.now a.cards a.card (suc (a.base + i))) k)
    (put_then {t = joined (tabulate k (λ (i : ℕ). ring_text a.changes.now a.entries.now a.cards a.card (suc (a.base + i))))} c.loop-k.invariant (put_as (ring_as a.changes.now a.entries.now a.cards a.card (a.base + 1 + k) (suc (a.base + k)) _ c.requires.0 c.frame_of-f.ensures z) c.put_frame-at.ensures))

pub returns : goal.returns
returns c =
    let a = c.args in
    let e : c.loop-k.k ≡ a.count = search rules in
    put_as (ap (λ (n : ℕ). joined (tabulate n (λ (i : ℕ). ring_text a.changes.now a.entries.now a.cards a.card (suc (a.base + i))))) e) c.loop-k.invariant
