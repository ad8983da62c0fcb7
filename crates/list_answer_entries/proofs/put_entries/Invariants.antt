-- `list_answer_entries::put_entries` writes the entries of the cards that are there. Assumes nothing.
use Rattle.base_laws.specs.Below.{selected}
use Rattle.cabinet_layout.specs.Shape.{at, present_of}
use Rattle.base_text.specs.Put.{Put}
use Rattle.list_answer_entries.specs.Entries.{entries_text}
use Rattle.list_answer_entries.proofs.put_entries.Given as goal

abbrev pub invariant-loop-j : goal.invariant-loop-j
invariant-loop-j l = Put l.initial.b l.initial.at (entries_text (selected l.j (present_of l.cards) (at l.fn.vector))) l.at l.b
