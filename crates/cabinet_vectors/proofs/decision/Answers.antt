use Rattle.cabinet_layout.specs.Shape.{tracked_of}
use Rattle.theory_history.specs.Vector.{share}
use Rattle.base_laws.specs.Below.{greatest}
use Rattle.cabinet_layout.proofs.Held.{zero_listed, join_step}
use Rattle.cabinet_layout.specs.Shape.{limits16, list_of, open_of}
use Rattle.cabinet_layout.proofs.Limits.{width16}
use Prim.Native.Nat.{ℕ}
use mathlib.Core.Path.{◌≡◌, sym, ◌∙◌, ap}
use native.Mathlib.Omega.{arith}
use borrow.Author.Rules.{rules}
use Rattle.cabinet_vectors.proofs.decision.Goals as goal

pub loop-c-init : goal.loop-c-init
loop-c-init c = (search rules, zero_listed)

pub share_of-s-requires : goal.share_of-s-requires
share_of-s-requires c = (c.loop-c-test.true, λ w. c.requires c.loop-c.c c.loop-c-test.true (sym c.has-written.ensures ∙ w))

pub loop-c-preserved : goal.loop-c-preserved
loop-c-preserved c = let es : c.share_of-s.result ≡ list_of (share (tracked_of c.args.reached c.args.last c.args.pending) (open_of c.args.o).change c.loop-c.c) = rw (c.has-written.ensures, c.has-read.ensures) at c.share_of-s.ensures in (omega (arith, c.loop-c-test.true), c.join-more.ensures ∙ join_step (share (tracked_of c.args.reached c.args.last c.args.pending) (open_of c.args.o).change) c.loop-c.c c.loop-c.out c.share_of-s.result c.loop-c.invariant.1 es)

pub returns : goal.returns
returns c = let e : c.loop-c.c ≡ limits16.width = omega (arith, width16, c.loop-c-test.false, c.loop-c.invariant.0) in c.loop-c.invariant.1 ∙ ap (λ (n : ℕ). list_of (λ j. greatest n (λ i. share (tracked_of c.args.reached c.args.last c.args.pending) (open_of c.args.o).change i j))) e
