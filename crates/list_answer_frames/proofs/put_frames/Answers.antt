-- `list_answer_frames::put_frames` writes what the states in hand of a card hang on. Assumes nothing.
use Prim.Native.Nat.{ℕ, suc, ◌+◌, ◌-◌}
use mathlib.Core.Path.{◌≡◌}
use Rattle.base_laws.specs.Below.{tabulate}
use Rattle.base_lines.specs.Lines.{joined}
use Rattle.base_text.proofs.Puts.{put_then, put_as}
use Rattle.list_answer_frames.specs.Frames.{ring_text}
use Rattle.list_answer_frames.proofs.Frames.{refused_28, refused_2, told_frames, card_below}
use borrow.Author.Rules.{rules}
use native.Mathlib.Omega.{arith}
use Rattle.list_answer_frames.proofs.put_frames.Goals as goal

pub returns-then-not-cabinet_valid : goal.returns-then-not-cabinet_valid
returns-then-not-cabinet_valid c =
    let a = c.args in
    put_as (refused_28 a.entries.now a.changes.now a.core a.card _ c.cabinet_valid.ensures c.if-not-cabinet_valid.true) c.put_refusal.ensures

pub returns-then-not-is_card : goal.returns-then-not-is_card
returns-then-not-is_card c =
    let a = c.args in
    put_as (refused_2 a.entries.now a.changes.now a.core a.card _ _ c.cabinet_valid.ensures c.if-not-cabinet_valid.false c.is_card.ensures c.if-not-is_card.true) c.put_refusal-then-not-is_card.ensures

pub put_states-requires : goal.put_states-requires
put_states-requires c = let a = c.args in (card_below a.entries.now a.changes.now a.core a.card _ c.is_card.ensures c.if-not-is_card.false, search rules)

pub returns : goal.returns
returns c =
    let a = c.args in
    let n : ℕ = c.saturating_sub-count.result in
    let s : n ≡ c.at.result - c.at-base.result = omega arith in
    put_as
    (told_frames a.entries.now a.changes.now a.core a.card _ _ c.at-base.result c.at.result n c.cabinet_valid.ensures c.if-not-cabinet_valid.false c.is_card.ensures c.if-not-is_card.false
    c.at-base.ensures c.at.ensures s)
    (put_then {u = joined (tabulate n (λ (k : ℕ). ring_text a.changes.now a.entries.now a.core.head.cards a.card (suc (c.at-base.result + k))))} c.put_line-w.ensures c.put_states.ensures)
