-- `sheet_line_check::all_digits` tells whether a part of the input is digits. The invariant: the digits left to see decide. Assumes nothing.
use Rattle.std.proofs.Common.{◌≡◌, ◌-◌, ◌≤◌, take, drop, sym, ap, ◌∙◌, zero-le, arith, rules}
use Rattle.base_laws.proofs.Seq.{left, left_none, left_all}
use Rattle.sheet_digits.specs.Digits.{all_digits}
use Rattle.sheet_line_check.proofs.Steps.{all_step, all_stop}
use borrow.Author.Tests.{not-true, not-false}
use Rattle.sheet_line_check.proofs.all_digits.Goals as goal

pub returns-then-not-is_digit : goal.returns-then-not-is_digit
returns-then-not-is_digit c =
    let a = c.args in
    all_stop a.s.now a.at a.n c.loop-i.i (omega arith) c.requires c.loop-i.invariant.1 (sym c.is_digit.ensures ∙ c.if-not-is_digit.true)

pub loop-i-preserved : goal.loop-i-preserved
loop-i-preserved c =
    let a = c.args in
    (omega arith, all_step a.s.now a.at a.n c.loop-i.i (omega arith) c.requires c.loop-i.invariant.1 (sym c.is_digit.ensures ∙ c.if-not-is_digit.false))
