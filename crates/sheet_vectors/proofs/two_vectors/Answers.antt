-- `sheet_vectors::two_vectors` merges the sheets' frames and compares the vectors of each change. The invariant: frames of one change up to k have one vector. Assumes nothing.
use Prim.Native.Nat.{ℕ, ◌-◌}
use mathlib.Core.Path.{◌≡◌, sym, ◌∙◌, ap, subst}
use mathlib.Core.List.{List}
use native.Mathlib.Omega.{arith}
use Rattle.base_merge.specs.Merge.{ends_of, Rises}
use Rattle.sheet_vectors.specs.Heads.{stored_numbers}
use Rattle.sheet_vectors.proofs.Agreed.{Looked, looked_none, looked_more, looked_found, looked_done}
use borrow.Author.Rules.{rules}
use Rattle.sheet_vectors.proofs.two_vectors.Goals as goal

pub stored_numbers-stored-requires : goal.stored_numbers-stored-requires
stored_numbers-stored-requires c = c.requires.1.states

pub loop-k-init : goal.loop-k-init
loop-k-init c =
    let its-ends : c.ends_of-ends.result ≡ ends_of (stored_numbers c.args.bases c.args.counts) c.args.n = c.ends_of-ends.ensures ∙ ap (λ (l : List ℕ). ends_of l c.args.n) c.stored_numbers-stored.ensures in
    let rising : Rises c.args.changes.now c.args.bases c.ends_of-ends.result = subst (λ (l : List ℕ). Rises c.args.changes.now c.args.bases l) (sym (its-ends)) c.requires.1.rises in
    looked_none c.args.changes.now c.args.entries.now c.args.bases c.ends_of-ends.result c.args.n (rising) c.heads-heads.ensures c.least-x.ensures (search rules)

pub returns-then-heads_differ : goal.returns-then-heads_differ
returns-then-heads_differ c =
    let its-ends : c.ends_of-ends.result ≡ ends_of (stored_numbers c.args.bases c.args.counts) c.args.n = c.ends_of-ends.ensures ∙ ap (λ (l : List ℕ). ends_of l c.args.n) c.stored_numbers-stored.ensures in
    let rising : Rises c.args.changes.now c.args.bases c.ends_of-ends.result = subst (λ (l : List ℕ). Rises c.args.changes.now c.args.bases l) (sym (its-ends)) c.requires.1.rises in
    looked_found c.args.changes.now c.args.entries.now c.args.bases c.ends_of-ends.result c.args.n (rising) c.loop-k.invariant c.loop-k-test.true c.args.counts (its-ends) c.heads_differ.ensures c.if-heads_differ.true

pub loop-k-smaller : goal.loop-k-smaller
loop-k-smaller c = let s : _ = c.loop-k.invariant in omega (arith, s.fits, c.loop-k-test.true)

pub loop-k-preserved : goal.loop-k-preserved
loop-k-preserved c =
    let its-ends : c.ends_of-ends.result ≡ ends_of (stored_numbers c.args.bases c.args.counts) c.args.n = c.ends_of-ends.ensures ∙ ap (λ (l : List ℕ). ends_of l c.args.n) c.stored_numbers-stored.ensures in
    let rising : Rises c.args.changes.now c.args.bases c.ends_of-ends.result = subst (λ (l : List ℕ). Rises c.args.changes.now c.args.bases l) (sym (its-ends)) c.requires.1.rises in
    looked_more c.args.changes.now c.args.entries.now c.args.bases c.ends_of-ends.result c.args.n (rising) c.loop-k.invariant c.loop-k-test.true c.heads_differ.ensures c.if-heads_differ.false c.past-p.ensures c.heads-h.ensures c.least-x-in-loop-k.ensures (search rules)

pub returns : goal.returns
returns c =
    let its-ends : c.ends_of-ends.result ≡ ends_of (stored_numbers c.args.bases c.args.counts) c.args.n = c.ends_of-ends.ensures ∙ ap (λ (l : List ℕ). ends_of l c.args.n) c.stored_numbers-stored.ensures in
    let rising : Rises c.args.changes.now c.args.bases c.ends_of-ends.result = subst (λ (l : List ℕ). Rises c.args.changes.now c.args.bases l) (sym (its-ends)) c.requires.1.rises in
    looked_done c.args.changes.now c.args.entries.now c.args.bases c.ends_of-ends.result c.args.n (rising) c.loop-k.invariant c.loop-k-test.false c.args.counts (its-ends) c.requires.0
