-- `base_merge::lesser` tells the lesser number. Assumes nothing.
use borrow.Author.Tests.{eq-eqb, ne_eqb, lt-ltb, le-ltb}
use Rattle.base_merge.proofs.lesser.Goals as goal

pub returns-then-a-eq0 : goal.returns-then-a-eq0
returns-then-a-eq0 c = let a : _ = c.args in rw (eq-eqb a.a 0 c.if-a-eq0.true)

pub returns-then-b-eq0 : goal.returns-then-b-eq0
returns-then-b-eq0 c = let a : _ = c.args in rw (ne_eqb a.a 0 c.if-a-eq0.false, eq-eqb a.b 0 c.if-b-eq0.true)

pub returns-then-a-b : goal.returns-then-a-b
returns-then-a-b c =
    let a : _ = c.args in
    rw (ne_eqb a.a 0 c.if-a-eq0.false, ne_eqb a.b 0 c.if-b-eq0.false, lt-ltb a.a a.b c.if-a-b.true)

pub returns-else-a-b : goal.returns-else-a-b
returns-else-a-b c =
    let a : _ = c.args in
    rw (ne_eqb a.a 0 c.if-a-eq0.false, ne_eqb a.b 0 c.if-b-eq0.false, le-ltb a.a a.b c.if-a-b.false)
