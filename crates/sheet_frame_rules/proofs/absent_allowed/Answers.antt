-- `sheet_frame_rules::absent_allowed` judges the entries of cards beyond 16. Assumes nothing.
use mathlib.Core.Path.{◌≡◌}
use Prim.Native.Nat.{ℕ, ◌+◌, ◌-◌, ◌<◌}
use native.Mathlib.Omega.{arith}
use Rattle.sheet_frame_rules.proofs.Absent.{absent_other, absent_own}
use Rattle.sheet_frame_rules.proofs.absent_allowed.Goals as goal

pub returns-then-card-lt-CARDS_U32 : goal.returns-then-card-lt-CARDS_U32
returns-then-card-lt-CARDS_U32 c =
    let a = c.args in
    absent_other a.card a.state a.n (λ (j : ℕ) (h : j < a.n - 16) (e : 16 + j ≡ a.card). omega (arith, c.then-card-lt-CARDS_U32.either))

pub returns : goal.returns
returns c =
    let a = c.args in
    absent_own a.card a.state a.n c.if-card-lt-CARDS_U32.false c.if-n-card.false
