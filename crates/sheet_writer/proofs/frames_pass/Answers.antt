-- `sheet_writer::frames_pass` judges the frames of a sheet. The invariant: what is left to judge decides. Assumes nothing.
use Prim.Native.Nat.{◌-◌, ◌≤◌, ◌<◌, zero-le}
use mathlib.Core.Path.{◌≡◌, refl}
use borrow.Author.Rules.{rules}
use borrow.Author.Tests.{not-true, not-false}
use native.Mathlib.Omega.{arith}
use Rattle.sheet_lines.specs.Format.{format_of}
use Rattle.sheet_lines.specs.Lines.{cards_of, no_frame}
use Rattle.sheet_lines.proofs.Passed.{header_limits}
use Rattle.sheet_page_writer.proofs.Rows.{rows_of, next_row}
use Rattle.sheet_writer.proofs.Single.{judging, judging_stop, judging_again, judging_done, judged_all}
use Rattle.sheet_writer.proofs.frames_pass.Goals as goal

pub loop-k-init : goal.loop-k-init
loop-k-init c = (zero-le, refl)

pub overflow_add-state : goal.overflow_add-state
overflow_add-state c = let l = header_limits (format_of c.args.f) _ _ _ c.requires.1 in omega (arith, l.states, l.count)

pub overflow_add-state-in-loop-k : goal.overflow_add-state-in-loop-k
overflow_add-state-in-loop-k c = let l = header_limits (format_of c.args.f) _ _ _ c.requires.1 in omega (arith, l.states, l.count)

pub returns-then-not-frame_allowed : goal.returns-then-not-frame_allowed
returns-then-not-frame_allowed c =
    let is_card_lem : c.args.h.card < 16 = let l = header_limits (format_of c.args.f) _ _ _ c.requires.1 in omega (arith, l.below, l.cards) in
    let a = c.args in
    let u = c.unraised-n in
    let l = c.loop-k in
    judged_all (format_of a.f) a.h.card u.result a.h.base a.h.count (rows_of a.changes.now a.entries.now a.h.card a.h.base) no_frame (cards_of (format_of a.f) a.h) u.ensures
    (judging_stop (format_of a.f) a.h.card u.result a.h.base a.h.count (rows_of a.changes.now a.entries.now a.h.card a.h.base) l.last no_frame l.k c.loop-k-test.true l.invariant.1
    (next_row a.changes.now a.entries.now a.h.card a.h.base l.k (is_card_lem) c.frame_of-next.ensures) c.frame_allowed.ensures c.if-not-frame_allowed.true)

pub loop-k-preserved : goal.loop-k-preserved
loop-k-preserved c =
    let is_card_lem : c.args.h.card < 16 = let l = header_limits (format_of c.args.f) _ _ _ c.requires.1 in omega (arith, l.below, l.cards) in
    let a = c.args in
    let l = c.loop-k in (
      omega (arith, c.loop-k-test.true),
      judging_again (format_of a.f) a.h.card c.unraised-n.result a.h.base a.h.count (rows_of a.changes.now a.entries.now a.h.card a.h.base) l.last no_frame l.k c.loop-k-test.true l.invariant.1
          (next_row a.changes.now a.entries.now a.h.card a.h.base l.k (is_card_lem) c.frame_of-next.ensures) c.frame_allowed.ensures c.if-not-frame_allowed.false,
    )

pub returns : goal.returns
returns c =
    let a = c.args in
    let u = c.unraised-n in
    let l = c.loop-k in
    judged_all (format_of a.f) a.h.card u.result a.h.base a.h.count (rows_of a.changes.now a.entries.now a.h.card a.h.base) no_frame (cards_of (format_of a.f) a.h) u.ensures
    (judging_done (format_of a.f) a.h.card u.result a.h.base a.h.count (rows_of a.changes.now a.entries.now a.h.card a.h.base) l.last no_frame l.k c.loop-k-test.false l.invariant.1)
