-- `sheet_vectors::same_entries` compares two vectors. The invariant: those passed are the same. Assumes nothing.
use Prim.Native.Nat.{ℕ, ◌+◌, ◌*◌, ◌-◌, ◌≤◌, zero-le}
use mathlib.Core.Bool.{true}
use mathlib.Core.Path.{◌≡◌, refl, sym, ◌∙◌, ap}
use native.Mathlib.Omega.{arith}
use lib.Dec.{eqb}
use lib.ListN.{get_or}
use borrow.Author.Tests.{eq-eqb, ne_eqb}
use Rattle.sheet_lines.proofs.Judged.{below_step, below_stop}
use Rattle.sheet_vectors.specs.Heads.{same_entries}
use borrow.Author.Rules.{rules}
use Rattle.sheet_vectors.proofs.same_entries.Goals as goal

pub loop-k-init : goal.loop-k-init
loop-k-init c = (zero-le, refl)

pub returns-then-entries-p : goal.returns-then-entries-p
returns-then-entries-p c =
    let a : _ = c.args in
    below_stop c.loop-k.k a.n (λ k. eqb (get_or a.entries.now (a.p * 16 + k) 0) (get_or a.entries.now (a.q * 16 + k) 0)) c.loop-k-test.true refl (ne_eqb _ _ c.if-entries-p.true)

pub loop-k-preserved : goal.loop-k-preserved
loop-k-preserved c =
    let a : _ = c.args in
    (omega arith, below_step c.loop-k.k (λ k. eqb (get_or a.entries.now (a.p * 16 + k) 0) (get_or a.entries.now (a.q * 16 + k) 0)) c.loop-k.invariant.1 refl (eq-eqb _ _ c.if-entries-p.false))

pub returns : goal.returns
returns c =
    let a : _ = c.args in
    let e : c.loop-k.k ≡ a.n = omega arith in
    sym (sym (ap (λ (m : ℕ). same_entries a.entries.now m a.p a.q) e) ∙ c.loop-k.invariant.1)
