-- `sheet_frame_reader::frame_at` reads a frame line. Assumes nothing.
use mathlib.Core.Path.{refl, sym, ◌∙◌, ap}
use borrow.Author.Rules.{rules}
use native.Mathlib.Omega.{arith}
use lib.ListN.{length, drop}
use Prim.Native.Nat.{◌+◌, ◌*◌, ◌≤◌}
use Rattle.sheet_digits.proofs.Lines.{whole_room}
use Rattle.sheet_lines.specs.Format.{format_of}
use Rattle.sheet_lines.specs.Lines.{frame_verdict, padded}
use Rattle.sheet_lines.proofs.Judged.{entries_by_lem, frame_reply_lem, frame_taken, frame_kept}
use Rattle.sheet_frame_reader.proofs.frame_at.Goals as goal

pub returns-in_err-shape_at : goal.returns-in_err-shape_at
unfolding frame_verdict
returns-in_err-shape_at c = search rules

pub check_at-requires : goal.check_at-requires
check_at-requires c =
    let a = c.args in
    let h : a.at + (a.f.width + 8 + a.n * a.f.width) + 5 ≤ length a.s.now = whole_room (a.f.width + 8 + a.n * a.f.width) a.at a.s.now (sym c.shape_at.ensures ∙ c.in_ok-shape_at.was) in
    omega arith

pub number_at-told-requires : goal.number_at-told-requires
number_at-told-requires c =
    let a = c.args in
    let h : a.at + (a.f.width + 8 + a.n * a.f.width) + 5 ≤ length a.s.now = whole_room (a.f.width + 8 + a.n * a.f.width) a.at a.s.now (sym c.shape_at.ensures ∙ c.in_ok-shape_at.was) in
    (omega arith, c.requires.0.width)

pub overflow_add-at : goal.overflow_add-at
overflow_add-at c =
    let a = c.args in
    let h : a.at + (a.f.width + 8 + a.n * a.f.width) + 5 ≤ length a.s.now = whole_room (a.f.width + 8 + a.n * a.f.width) a.at a.s.now (sym c.shape_at.ensures ∙ c.in_ok-shape_at.was) in
    search rules

pub number_at-change-requires : goal.number_at-change-requires
number_at-change-requires c =
    let a = c.args in
    let h : a.at + (a.f.width + 8 + a.n * a.f.width) + 5 ≤ length a.s.now = whole_room (a.f.width + 8 + a.n * a.f.width) a.at a.s.now (sym c.shape_at.ensures ∙ c.in_ok-shape_at.was) in
    search rules

pub overflow_add-at-2 : goal.overflow_add-at-2
overflow_add-at-2 c =
    let a = c.args in
    let h : a.at + (a.f.width + 8 + a.n * a.f.width) + 5 ≤ length a.s.now = whole_room (a.f.width + 8 + a.n * a.f.width) a.at a.s.now (sym c.shape_at.ensures ∙ c.in_ok-shape_at.was) in
    search rules

pub entries_at-entries-requires : goal.entries_at-entries-requires
entries_at-entries-requires c =
    let a = c.args in
    let h : a.at + (a.f.width + 8 + a.n * a.f.width) + 5 ≤ length a.s.now = whole_room (a.f.width + 8 + a.n * a.f.width) a.at a.s.now (sym c.shape_at.ensures ∙ c.in_ok-shape_at.was) in
    (c.requires.1, c.requires.0.width, c.requires.0.none, omega arith)

pub returns-then-not-check_at : goal.returns-then-not-check_at
returns-then-not-check_at c =
    let a = c.args in
    frame_reply_lem (format_of a.f) a.start a.card a.n a.state a.last (drop a.at a.s.now) (sym c.shape_at.ensures ∙ c.in_ok-shape_at.was) (sym c.if-not-check_at.true ∙ c.check_at.ensures) refl

pub returns-then-not-frame_allowed : goal.returns-then-not-frame_allowed
returns-then-not-frame_allowed c =
    let a = c.args in
    frame_reply_lem (format_of a.f) a.start a.card a.n a.state a.last (drop a.at a.s.now) (sym c.shape_at.ensures ∙ c.in_ok-shape_at.was) (sym c.if-not-check_at.false ∙ c.check_at.ensures) (frame_taken (format_of a.f) a.card a.n a.state a.at a.last a.s.now (omega arith) (sym c.if-not-frame_allowed.true ∙ c.frame_allowed.ensures) c.number_at-told.ensures c.number_at-change.ensures (c.entries_at-entries.ensures ∙ ap padded (entries_by_lem (format_of a.f) a.n (drop (a.at + (a.f.width + 8)) a.s.now) c.requires.0.none)))

pub returns : goal.returns
returns c =
    let a = c.args in
    frame_kept (format_of a.f) a.n a.at a.s.now c.number_at-change.ensures (c.entries_at-entries.ensures ∙ ap padded (entries_by_lem (format_of a.f) a.n (drop (a.at + (a.f.width + 8)) a.s.now) c.requires.0.none))
    ∙ frame_reply_lem (format_of a.f) a.start a.card a.n a.state a.last (drop a.at a.s.now) (sym c.shape_at.ensures ∙ c.in_ok-shape_at.was) (sym c.if-not-check_at.false ∙ c.check_at.ensures) (frame_taken (format_of a.f) a.card a.n a.state a.at a.last a.s.now (omega arith) (sym c.if-not-frame_allowed.false ∙ c.frame_allowed.ensures) c.number_at-told.ensures c.number_at-change.ensures (c.entries_at-entries.ensures ∙ ap padded (entries_by_lem (format_of a.f) a.n (drop (a.at + (a.f.width + 8)) a.s.now) c.requires.0.none)))
