-- `sheet_digits::put_number` writes a number in digits. The invariant: writing what is left of the number before the place gives the whole. Assumes nothing.
use Prim.Native.Nat.{◌+◌, ◌-◌}
use mathlib.Core.Path.{◌∙◌}
use native.Mathlib.Omega.{arith}
use Rattle.sheet_digits.proofs.Steps.{put_step}
use lib.ListN.{length-set}
use Rattle.sheet_digits.proofs.put_number.Goals as goal

pub loop-k-preserved : goal.loop-k-preserved
loop-k-preserved c =
    let a = c.args in
    let l = c.loop-k in
    (omega arith, length-set l.b (a.at + (l.k - 1)) c.digit_of.result ∙ l.invariant.1, put_step l.b a.at l.k l.rest c.digit_of.result (omega arith) c.digit_of.ensures ∙ l.invariant.2)
