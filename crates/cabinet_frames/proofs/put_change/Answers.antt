-- `cabinet_frames::put_change`: the change that made a state, at its place in the ring. Assumes nothing.
use Prim.Native.Nat.{ℕ}
use mathlib.Core.Path.{◌≡◌, sym, ◌∙◌, ap}
use mathlib.Core.Bool.{not, ◌&&◌}
use lib.Dec.{eqb, ltb}
use lib.ListN.{set}
use borrow.Author.Tests.{ltb-true}
use Rattle.base_limits.specs.Ring.{ring_place}
use Rattle.base_laws.proofs.Logic.{and_right, cond_true, cond_false}
use Rattle.cabinet_plans.specs.Plans.{is_made}
use Rattle.cabinet_frames.proofs.put_change.Goals as goal

pub bounds-changes-place : goal.bounds-changes-place
bounds-changes-place c =
    let p : ℕ = c.ring_place-place.result in
    ltb-true p 768 (and_right (not (eqb c.args.state 0)) (ltb p 768) (sym c.is_made.ensures ∙ c.if-is_made.true))

pub returns-then-is_made : goal.returns-then-is_made
returns-then-is_made c =
    let found : is_made c.args.card c.args.state ≡ c.is_made.result = ap (λ (p : ℕ). not (eqb c.args.state 0) && ltb p 768) (sym c.ring_place-place.ensures) ∙ sym c.is_made.ensures in
    let a : _ = c.args in
    let l : _ = a.changes.now in
    ap (λ (p : ℕ). set l p a.change) c.ring_place-place.ensures
    ∙ sym (cond_true (set l (ring_place a.card a.state) a.change) l (found ∙ c.if-is_made.true))

pub returns-else-is_made : goal.returns-else-is_made
returns-else-is_made c =
    let found : is_made c.args.card c.args.state ≡ c.is_made.result = ap (λ (p : ℕ). not (eqb c.args.state 0) && ltb p 768) (sym c.ring_place-place.ensures) ∙ sym c.is_made.ensures in
    let a : _ = c.args in
    let l : _ = a.changes.now in
    sym (cond_false (set l (ring_place a.card a.state) a.change) l (found ∙ c.if-is_made.false))
