-- `cabinet_frames::put_vector`: the vector of a state, at its place in the ring. Assumes nothing.
use Prim.Native.Nat.{ℕ, ◌*◌, ◌<◌}
use mathlib.Core.Path.{◌≡◌, sym, ◌∙◌, ap}
use mathlib.Core.Bool.{not, ◌&&◌}
use lib.Dec.{eqb, ltb}
use lib.ListN.{length}
use lib.Seq.{sets}
use borrow.Author.Tests.{ltb-true}
use Rattle.base_limits.specs.Ring.{ring_place}
use Rattle.base_laws.proofs.Logic.{and_right, cond_true, cond_false}
use Rattle.base_rows.proofs.Rows.{put_there}
use Rattle.cabinet_layout.specs.Shape.{at, list_of}
use Rattle.cabinet_layout.proofs.Held.{list_known}
use Rattle.cabinet_plans.specs.Plans.{is_made}
use borrow.Author.Rules.{rules}
use Rattle.cabinet_frames.proofs.put_vector.Goals as goal

pub returns-then-is_made : goal.returns-then-is_made
returns-then-is_made c =
    let below : c.ring_place-place.result < 768 = let p : ℕ = c.ring_place-place.result in
    ltb-true p 768 (and_right (not (eqb c.args.state 0)) (ltb p 768) (sym c.is_made.ensures ∙ c.if-is_made.true)) in
    let found : is_made c.args.card c.args.state ≡ c.is_made.result = ap (λ (p : ℕ). not (eqb c.args.state 0) && ltb p 768) (sym c.ring_place-place.ensures) ∙ sym c.is_made.ensures in
    let a : _ = c.args in
    let l : _ = a.entries.now in
    let v : _ = list_of (at a.v.entries) in
    let q : ℕ = c.ring_place-place.result in
    let s : length a.v.entries ≡ 16 = search rules in
    put_there l a.v.entries q (below) c.put_row.ensures
    ∙ ap (sets l (q * 16)) (list_known a.v.entries s)
    ∙ ap (λ (p : ℕ). sets l (p * 16) v) c.ring_place-place.ensures
    ∙ sym (cond_true (sets l (ring_place a.card a.state * 16) v) l (found ∙ c.if-is_made.true))

pub returns-else-is_made : goal.returns-else-is_made
returns-else-is_made c =
    let found : is_made c.args.card c.args.state ≡ c.is_made.result = ap (λ (p : ℕ). not (eqb c.args.state 0) && ltb p 768) (sym c.ring_place-place.ensures) ∙ sym c.is_made.ensures in
    let a : _ = c.args in
    let l : _ = a.entries.now in
    let v : _ = list_of (at a.v.entries) in
    sym (cond_false (sets l (ring_place a.card a.state * 16) v) l (found ∙ c.if-is_made.false))
