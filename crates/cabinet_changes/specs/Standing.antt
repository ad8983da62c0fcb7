-- What the vector of a change is worked out from.
use Rattle.std.specs.Prelude.{ℕ, List, []}
use Rattle.theory_protocol.specs.Model.{Model}
use Rattle.cabinet_layout.specs.declared.Vector.{Vector}
use Rattle.cabinet_layout.specs.declared.Phase.TheVariants.{Up}
use Rattle.cabinet_layout.specs.Shape.{head_of, bare, with_numbers, with_vectors, model_of}

-- the cards as they stand at a decision
abbrev pub standing : (reached : List ℕ) (last pending : List Vector) → Model
standing reached last pending =
    model_of [] [] (with_vectors (with_numbers (bare (head_of 0 0 Up)) [] [] [] reached) last pending)
