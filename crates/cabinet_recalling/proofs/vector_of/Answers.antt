-- `cabinet_recalling::vector_of` copies a vector out of the ring. Assumes nothing.
use Prim.Native.Nat.{ℕ, ◌<◌}
use mathlib.Core.Path.{◌≡◌, sym, ◌∙◌, ap}
use mathlib.Core.List.{List}
use borrow.Author.Rules.{rules}
use Rattle.base_limits.specs.Ring.{ring_place}
use Rattle.base_laws.specs.Below.{tabulate}
use Rattle.base_rows.specs.Row.{entries_at, row_at}
use Rattle.base_rows.proofs.Rows.{row_there}
use Rattle.cabinet_layout.specs.Shape.{list_of, ring_frame}
use Rattle.cabinet_layout.proofs.Limits.{width16}
use Rattle.cabinet_recalling.proofs.vector_of.Goals as goal

-- the row at the place of a state
vector_at_lem : (entries : List ℕ) (c x : ℕ) {p : ℕ} {row : List ℕ} → p ≡ ring_place c x → p < 768 → row ≡ row_at entries p → row ≡ list_of (ring_frame entries c x)
vector_at_lem entries c x {p} e l r =
    row_there entries p l r ∙ ap (entries_at entries) e ∙ ap (λ (n : ℕ). tabulate n (ring_frame entries c x)) (sym width16)

pub returns : goal.returns
returns c =
    let a : _ = c.args in
    vector_at_lem a.entries.now a.card a.x c.ring_place-place.ensures (search rules) c.row_at.ensures
