-- The model of a cabinet held in the struct `Cabinet`.
use Rattle.theory_protocol.specs.Model.{Model}
use Rattle.cabinet_layout.specs.Shape.{model_of}
use Rattle.cabinet.specs.declared.Cabinet.{Cabinet}

abbrev pub view : Cabinet → Model
view s = model_of s.entries s.changes s.core
