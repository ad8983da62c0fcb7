-- `sheet_line_check::check_at` judges the check of a line. Assumes nothing.
use Rattle.std.proofs.Common.{rules}
use Rattle.sheet_line_check.proofs.Steps.{check_judged}
use Rattle.sheet_line_check.proofs.check_at.Goals as goal

pub returns : goal.returns
returns c =
    let a = c.args in
    check_judged a.s.now a.at a.n a.start c.sums_over-sums.ensures c.number_at-told.ensures c.check_number.ensures
