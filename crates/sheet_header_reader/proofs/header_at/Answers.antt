-- `sheet_header_reader::header_at` reads a header line. Assumes nothing.
use mathlib.Core.Path.{refl, sym, ◌∙◌}
use borrow.Author.Rules.{rules}
use native.Mathlib.Omega.{arith}
use lib.ListN.{length, drop}
use Prim.Native.Nat.{◌+◌, ◌≤◌}
use Rattle.sheet_digits.proofs.Lines.{whole_room}
use Rattle.sheet_lines.specs.Format.{format_of}
use Rattle.sheet_lines.specs.Lines.{header_verdict}
use Rattle.sheet_lines.proofs.Judged.{header_reply_lem}
use Rattle.sheet_header_reader.proofs.header_at.Goals as goal

pub returns-in_err-shape_at : goal.returns-in_err-shape_at
unfolding header_verdict
returns-in_err-shape_at c = search rules

pub header_in-h-requires : goal.header_in-h-requires
header_in-h-requires c =
    let a = c.args in
    let h : a.at + (a.f.width + 16) + 5 ≤ length a.s.now = whole_room (a.f.width + 16) a.at a.s.now (sym c.shape_at.ensures ∙ c.in_ok-shape_at.was) in
    omega (arith, c.requires)

pub check_at-requires : goal.check_at-requires
check_at-requires c =
    let a = c.args in
    let h : a.at + (a.f.width + 16) + 5 ≤ length a.s.now = whole_room (a.f.width + 16) a.at a.s.now (sym c.shape_at.ensures ∙ c.in_ok-shape_at.was) in
    omega arith

pub returns-then-not-check_at : goal.returns-then-not-check_at
returns-then-not-check_at c =
    let a = c.args in
    header_reply_lem (format_of a.f) a.due a.first (drop a.at a.s.now) (sym c.shape_at.ensures ∙ c.in_ok-shape_at.was) c.header_in-h.ensures c.start_of-start.ensures (sym c.if-not-check_at.true ∙ c.check_at.ensures) refl

pub returns-then-not-header_allowed : goal.returns-then-not-header_allowed
returns-then-not-header_allowed c =
    let a = c.args in
    header_reply_lem (format_of a.f) a.due a.first (drop a.at a.s.now) (sym c.shape_at.ensures ∙ c.in_ok-shape_at.was) c.header_in-h.ensures c.start_of-start.ensures (sym c.if-not-check_at.false ∙ c.check_at.ensures) (sym c.if-not-header_allowed.true ∙ c.header_allowed.ensures)

pub returns : goal.returns
returns c =
    let a = c.args in
    header_reply_lem (format_of a.f) a.due a.first (drop a.at a.s.now) (sym c.shape_at.ensures ∙ c.in_ok-shape_at.was) c.header_in-h.ensures c.start_of-start.ensures (sym c.if-not-check_at.false ∙ c.check_at.ensures) (sym c.if-not-header_allowed.false ∙ c.header_allowed.ensures)
