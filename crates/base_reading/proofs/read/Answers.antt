-- `base_reading::read` reads the run of digits at a place, byte by byte. Assumes nothing.
use borrow.Author.Rules.{rules}
use Prim.Native.Nat.{ℕ}
use mathlib.Core.Path.{◌≡◌, sym, ◌∙◌, ap}
use native.Mathlib.Omega.{arith}
use Rattle.base_reading.specs.Reads.{reading}
use Rattle.base_reading.proofs.Runs.{read_none, read_more, read_all, read_over, run_stops, run_out, digit_from}
use Rattle.base_reading.proofs.read.Goals as goal

pub loop-i-init : goal.loop-i-init
loop-i-init c = (read_none _ _, search rules, omega arith, omega arith)

pub returns-then-not-is_digit : goal.returns-then-not-is_digit
returns-then-not-is_digit c =
    c.ended.ensures
    ∙ read_all c.loop-i.invariant.0
    (run_stops _ _ c.loop-i-test.true (sym c.is_digit.ensures ∙ c.if-not-is_digit.true))

pub overflow_sub-v : goal.overflow_sub-v
overflow_sub-v c = digit_from _ (sym c.is_digit.ensures ∙ c.if-not-is_digit.false)

pub overflow_cast-v-in-loop-i : goal.overflow_cast-v-in-loop-i
overflow_cast-v-in-loop-i c = omega (arith, c.type_inv.s c.loop-i.i)

pub overflow_add-v : goal.overflow_add-v
overflow_add-v c = omega (arith, c.type_inv.s c.loop-i.i)

pub returns-then-v-gt4294967295 : goal.returns-then-v-gt4294967295
returns-then-v-gt4294967295 c =
    read_over
    (read_more c.loop-i.invariant.0 c.loop-i-test.true
    (sym c.is_digit.ensures ∙ c.if-not-is_digit.false))
    c.if-v-gt4294967295.true

pub loop-i-preserved : goal.loop-i-preserved
loop-i-preserved c = (
  read_more c.loop-i.invariant.0 c.loop-i-test.true
      (sym c.is_digit.ensures ∙ c.if-not-is_digit.false),
  c.if-v-gt4294967295.false,
  omega arith,
  omega arith,
)

pub returns : goal.returns
returns c =
    let e : c.max.result ≡ c.loop-i.i = omega arith in
    c.ended-2.ensures ∙ ap (λ (end : ℕ). reading c.args.at end c.loop-i.value) e ∙ read_all c.loop-i.invariant.0 (run_out _ _ c.loop-i-test.false)
