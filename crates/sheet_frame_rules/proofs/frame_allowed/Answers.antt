-- `sheet_frame_rules::frame_allowed` judges a frame. Assumes nothing.
use mathlib.Core.Path.{◌≡◌, refl}
use borrow.Author.Rules.{rules}
use borrow.Author.Tests.{lt-ltb, le-ltb, eq-eqb, ne_eqb}
use lib.ListN.{length}
use Rattle.sheet_lines.specs.Format.{format_of}
use Rattle.sheet_frame_rules.proofs.Absent.{entries_fail, entries_pass}
use Rattle.sheet_lines.proofs.Judged.{frame_tests}
use Rattle.sheet_frame_rules.proofs.frame_allowed.Goals as goal
use Rattle.sheet_frame_rules.proofs.frame_allowed.Goals.{then-told-state-via-then-told-state, then-told-state-via-else-told-state+then-next-last, then-told-state-via-else-told-state+else-next-last+then-not-entries_allowed}

pub returns-then-told-state : goal.returns-then-told-state
returns-then-told-state c =
    let a = c.args in
    let x : length a.last.entries ≡ 16 = search rules in
    let y : length a.next.entries ≡ 16 = search rules in
    elim c.then-told-state.branch [
      | then-told-state-via-then-told-state w ↦ frame_tests (format_of a.f) a.card a.n a.state a.told a.last a.next (ne_eqb _ _ w.if-told-state.true) refl refl
      | then-told-state-via-else-told-state+then-next-last w ↦ frame_tests (format_of a.f) a.card a.n a.state a.told a.last a.next (eq-eqb _ _ w.if-told-state.false) (le-ltb _ _ w.if-next-last.true) refl
      | then-told-state-via-else-told-state+else-next-last+then-not-entries_allowed w ↦
          frame_tests (format_of a.f) a.card a.n a.state a.told a.last a.next (eq-eqb _ _ w.if-told-state.false) (lt-ltb _ _ w.if-next-last.false)
          (entries_fail (format_of a.f) a.card a.state a.n a.last.entries a.next.entries x y c.min-few.ensures w.entries_allowed.ensures w.if-not-entries_allowed.true)
    ]

pub returns : goal.returns
returns c =
    let a = c.args in
    let x : length a.last.entries ≡ 16 = search rules in
    let y : length a.next.entries ≡ 16 = search rules in
    frame_tests (format_of a.f) a.card a.n a.state a.told a.last a.next (eq-eqb _ _ c.if-told-state.false) (lt-ltb _ _ c.if-next-last.false)
    (entries_pass (format_of a.f) a.card a.state a.n a.last.entries a.next.entries x y c.min-few.ensures c.entries_allowed.ensures c.if-not-entries_allowed.false c.absent_allowed.ensures)
