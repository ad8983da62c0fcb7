-- `base_lines::put_numbers` writes numbers, each after a space. Assumes nothing.
use mathlib.Core.Path.{ap}
use lib.Seq.{take_all}
use Rattle.base_lines.specs.Lines.{spaced}
use Rattle.base_text.proofs.Puts.{put_nothing, put_then, put_as, put_length}
use Rattle.base_lines.proofs.Spaced.{spaced_more}
use borrow.Author.Rules.{rules}
use Rattle.base_lines.proofs.put_numbers.Goals as goal

pub loop-n-init : goal.loop-n-init
loop-n-init c = (put_nothing _ _, search rules)

pub loop-n-preserved : goal.loop-n-preserved
loop-n-preserved c = (put_as (spaced_more c.args.numbers.now c.loop-n.n-index (search rules)) (put_then (put_then c.loop-n.invariant.0 c.put-at.ensures) c.put_number-at.ensures), search rules)

pub shape_of-b : goal.shape_of-b
shape_of-b c = put_length c.loop-n.invariant.0

pub returns : goal.returns
returns c = put_as (ap spaced (take_all c.loop-n.n-index c.args.numbers.now (search rules))) c.loop-n.invariant.0
