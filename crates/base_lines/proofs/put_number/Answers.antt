-- `base_lines::put_number` writes the digits of a number. Assumes nothing.
use native.Mathlib.Omega.{arith}
use mathlib.Core.Path.{refl}
use Rattle.base_text.proofs.Puts.{put_as}
use Rattle.base_lines.proofs.Spaced.{ten_digits, digits_written, wrote_length}
use borrow.Author.Rules.{rules}
use Rattle.base_lines.proofs.put_number.Goals as goal

pub slice_bounds-put-end : goal.slice_bounds-put-end
slice_bounds-put-end c = omega (arith, ten_digits c.args.n (search rules), c.width-count.ensures, wrote_length c.write.ensures)

pub returns : goal.returns
returns c = put_as (digits_written c.args.n _ _ _ _ (search rules) refl c.width-count.ensures c.write.ensures) c.put.ensures
