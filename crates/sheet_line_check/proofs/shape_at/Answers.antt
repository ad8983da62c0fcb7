-- `sheet_line_check::shape_at` tells the shape of the line that is due. Assumes nothing.
use Rattle.std.proofs.Common.{◌+◌, ◌-◌, length, sym, refl, ◌∙◌, arith, rules, eq-eqb, ne_eqb, le-leb}
use borrow.Author.Tests.{lt-leb, not-true, not-false}
use Rattle.sheet_line_check.proofs.Steps.{shape_end, shape_tests}
use Rattle.sheet_line_check.proofs.shape_at.Goals as goal
use Rattle.sheet_line_check.proofs.shape_at.Goals.{then-left-lt5-via-then-left-lt5, then-left-lt5-via-else-left-lt5+then-left-n, then-left-lt5-via-else-left-lt5+else-left-n+then-not-all_digits, then-left-lt5-via-else-left-lt5+else-left-n+else-not-all_digits+then-s-at-ne-LINE_END}

pub returns-then-s-at : goal.returns-then-s-at
returns-then-s-at c = shape_end _ _ _ c.if-s-at.true

pub returns-then-left-lt5 : goal.returns-then-left-lt5
returns-then-left-lt5 c =
    let a = c.args in
    elim c.then-left-lt5.branch [
      | then-left-lt5-via-then-left-lt5 w ↦ shape_tests a.n a.at a.s.now (omega (arith, c.if-s-at.false)) (lt-leb (a.n + 5) (length a.s.now - a.at) (omega (arith, w.if-left-lt5.true))) refl refl
      | then-left-lt5-via-else-left-lt5+then-left-n w ↦ shape_tests a.n a.at a.s.now (omega (arith, c.if-s-at.false)) (lt-leb (a.n + 5) (length a.s.now - a.at) (omega (arith, w.if-left-lt5.false, w.if-left-n.true))) refl refl
      | then-left-lt5-via-else-left-lt5+else-left-n+then-not-all_digits w ↦
          shape_tests a.n a.at a.s.now (omega (arith, c.if-s-at.false)) (le-leb (a.n + 5) (length a.s.now - a.at) (omega (arith, w.if-left-lt5.false, w.if-left-n.false))) (sym w.all_digits.ensures ∙ w.if-not-all_digits.true) refl
      | then-left-lt5-via-else-left-lt5+else-left-n+else-not-all_digits+then-s-at-ne-LINE_END w ↦
          shape_tests a.n a.at a.s.now (omega (arith, c.if-s-at.false)) (le-leb (a.n + 5) (length a.s.now - a.at) (omega (arith, w.if-left-lt5.false, w.if-left-n.false))) (sym w.all_digits.ensures ∙ w.if-not-all_digits.false) (ne_eqb _ _ w.if-s-at-ne-LINE_END.true)
    ]

pub returns : goal.returns
returns c =
    let a = c.args in
    shape_tests a.n a.at a.s.now (omega arith) (le-leb (a.n + 5) (length a.s.now - a.at) (omega (arith, c.if-left-lt5.false, c.if-left-n.false))) (sym c.all_digits.ensures ∙ c.if-not-all_digits.false) (eq-eqb _ _ c.if-s-at-ne-LINE_END.false)
