-- `cabinet_recalling::last_vector` is the vector of a card's last frame, or none. Assumes nothing.
use mathlib.Core.Path.{sym, ◌∙◌, ap}
use borrow.Author.Tests.{lt-ltb, le-ltb}
use Rattle.base_laws.proofs.Logic.{cond_true, cond_false}
use Rattle.theory_history.specs.Vector.{no_entries}
use Rattle.cabinet_layout.specs.Shape.{list_of, ring_frame}
use Rattle.cabinet_layout.proofs.Held.{zero_listed}
use Rattle.cabinet_recalling.proofs.last_vector.Goals as goal

pub returns-then-base-stored : goal.returns-then-base-stored
returns-then-base-stored c =
    let a = c.args in
    λ i. record { entries = (c.vector_of.ensures ∙ ap list_of (sym (cond_true (ring_frame a.entries.now a.card a.stored) no_entries (lt-ltb a.base a.stored c.if-base-stored.true)))) i }

pub returns-else-base-stored : goal.returns-else-base-stored
returns-else-base-stored c =
    let a = c.args in
    λ i. record { entries = (zero_listed ∙ ap list_of (sym (cond_false (ring_frame a.entries.now a.card a.stored) no_entries (le-ltb a.base a.stored c.if-base-stored.false)))) i }
