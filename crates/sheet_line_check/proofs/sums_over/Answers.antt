-- `sheet_line_check::sums_over` gives the two running sums. The invariant: going on from the sums so far gives the sums of the whole. Assumes nothing.
use Rattle.std.proofs.Common.{◌≡◌, ◌-◌, ◌≤◌, take, drop, sym, ap, ◌∙◌, zero-le, arith, rules}
use Rattle.base_laws.proofs.Seq.{left, left_none, left_all}
use Rattle.sheet_digits.specs.Line.{summed}
use Rattle.sheet_line_check.proofs.Steps.{sums_step}
use Rattle.sheet_line_check.proofs.sums_over.Goals as goal

pub loop-i-preserved : goal.loop-i-preserved
loop-i-preserved c =
    let a = c.args in
    (omega arith, sums_step a.s.now a.at a.n c.loop-i.i (omega arith) c.requires c.loop-i.first c.loop-i.second c.loop-i.invariant.1 c.wrapping_add_u8-first.ensures.value c.wrapping_add_u8-second.ensures.value)
