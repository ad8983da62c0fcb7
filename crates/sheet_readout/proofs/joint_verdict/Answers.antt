-- `sheet_readout::joint_verdict` judges the sheets beside each other, in the order 11, 24, 10. Assumes nothing.
use mathlib.Core.Path.{refl}
use borrow.Author.Rules.{rules}
use borrow.Author.Tests.{eq-eqb, ne_eqb}
use Rattle.sheet_vectors.specs.Heads.{lists_read}
use Rattle.sheet_readout.proofs.Jointly.{joint_tests}
use Rattle.sheet_readout.proofs.joint_verdict.Goals as goal

pub returns-then-sessions_apart : goal.returns-then-sessions_apart
returns-then-sessions_apart c =
    let a : _ = c.args in
    let r = lists_read a.changes.now a.entries.now a.sessions a.bases a.counts a.n in
    joint_tests r c.requires.0 c.lowest-low.ensures c.sessions_apart.ensures c.if-sessions_apart.true refl refl refl

pub returns-then-low : goal.returns-then-low
returns-then-low c =
    let a : _ = c.args in
    let r = lists_read a.changes.now a.entries.now a.sessions a.bases a.counts a.n in
    joint_tests r c.requires.0 c.lowest-low.ensures c.sessions_apart.ensures c.if-sessions_apart.false (eq-eqb _ _ c.if-low.true) refl refl

pub returns-then-two_vectors : goal.returns-then-two_vectors
returns-then-two_vectors c =
    let a : _ = c.args in
    let r = lists_read a.changes.now a.entries.now a.sessions a.bases a.counts a.n in
    joint_tests r c.requires.0 c.lowest-low.ensures c.sessions_apart.ensures c.if-sessions_apart.false (ne_eqb _ _ c.if-low.false) c.two_vectors.ensures c.if-two_vectors.true

pub returns : goal.returns
returns c =
    let a : _ = c.args in
    let r = lists_read a.changes.now a.entries.now a.sessions a.bases a.counts a.n in
    joint_tests r c.requires.0 c.lowest-low.ensures c.sessions_apart.ensures c.if-sessions_apart.false (ne_eqb _ _ c.if-low.false) c.two_vectors.ensures c.if-two_vectors.false
