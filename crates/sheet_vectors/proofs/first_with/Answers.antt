-- `sheet_vectors::first_with` finds the first card at whose head a change stands. The invariant: it stands at none of those passed. Assumes nothing.
use Prim.Native.Nat.{ℕ, ◌-◌, ◌<◌, ◌≤◌}
use mathlib.Core.Path.{◌≡◌, refl, sym, ◌∙◌}
use native.Mathlib.Omega.{arith}
use lib.Dec.{eqb}
use borrow.Author.Tests.{eq-eqb, ne_eqb}
use Rattle.base_laws.proofs.Fill.{NoneSoFar, search_none, search_more, search_found, search_done}
use Rattle.base_merge.specs.Merge.{at}
use borrow.Author.Rules.{rules}
use Rattle.std.specs.Prelude.{Option, Some, None}
use mathlib.Core.Bool.{cond}
use lib.Dec.{ltb}
use borrow.Author.Tests.{lt-ltb, le-ltb}
use Rattle.sheet_vectors.specs.Heads.{first_with}
use Rattle.sheet_vectors.proofs.first_with.Goals as goal

some_is : (w c : ℕ) → w ≡ c → c < 16 → ◌≡◌ {A = Option ℕ} (Some c) (cond (ltb w 16) (Some w) None)
some_is w c e h = rw (e, lt-ltb c 16 h)

none_is : (w : ℕ) → 16 ≤ w → ◌≡◌ {A = Option ℕ} None (cond (ltb w 16) (Some w) None)
none_is w h = rw (le-ltb w 16 h)

pub loop-c-init : goal.loop-c-init
loop-c-init c = search_none

pub returns-then-heads-c : goal.returns-then-heads-c
returns-then-heads-c c = some_is (first_with c.args.heads c.args.k) c.loop-c.c (search_found c.loop-c.invariant c.loop-c-test.true refl (eq-eqb _ _ c.if-heads-c.true)) c.loop-c-test.true

pub loop-c-preserved : goal.loop-c-preserved
loop-c-preserved c = search_more c.loop-c.invariant c.loop-c-test.true (ne_eqb _ _ c.if-heads-c.false)

pub returns : goal.returns
returns c =
    let e : first_with c.args.heads c.args.k ≡ c.loop-c.c = search_done c.loop-c.invariant c.loop-c-test.false refl in
    none_is (first_with c.args.heads c.args.k) (omega (arith, e, c.loop-c-test.false))
