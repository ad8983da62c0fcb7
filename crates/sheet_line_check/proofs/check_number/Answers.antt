-- `sheet_line_check::check_number` gives the check as one number. Assumes nothing.
use Rattle.std.proofs.Common.{refl, rules}
use Rattle.sheet_digits.specs.Line.{check_of}
use Rattle.sheet_line_check.proofs.check_number.Goals as goal

pub returns : goal.returns
unfolding check_of
returns c = refl
