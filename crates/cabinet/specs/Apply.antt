-- What each edit does to the struct: every list of it, unused slots included, whatever cabinet it is.
use Rattle.std.specs.Prelude.{◌≡◌, List, [], ◌∷◌}
use Rattle.theory_protocol.specs.Edit.{Edit}
use Rattle.theory_protocol.specs.Plan.{Plan, Reply}
use Rattle.cabinet_layout.specs.declared.Core.{Core}
use Rattle.cabinet_layout.specs.Applied.{applied, entries_after, changes_after}
use Rattle.cabinet.specs.declared.Cabinet.{Cabinet}

abbrev pub with_core : Cabinet → Core → Cabinet
with_core s core = record { entries = s.entries; changes = s.changes; core = core }

abbrev pub apply : Edit → Cabinet → Cabinet
apply e s =
    record { entries = entries_after e s.core s.entries; changes = changes_after e s.core s.changes; core = applied e s.core }

abbrev pub apply_all : List Edit → Cabinet → Cabinet
apply_all [] s = s
apply_all (e ∷ es) s = apply_all es (apply e s)

-- what a call answers and the cabinet that it hands back, by its plan
pub record Carried (s : Cabinet) (p : Plan) (reply : Reply) (next : Cabinet) : Type 0 where
  pub answer : reply ≡ p.reply
  pub cabinet : next ≡ apply_all p.edits s
