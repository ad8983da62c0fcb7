-- `list_answer_show::put_cards` writes the cards of show. Assumes nothing.
use Prim.Native.Nat.{ℕ}
use mathlib.Core.List.{List, [], ◌∷◌}
use Rattle.base_laws.specs.Below.{selected}
use Rattle.cabinet_layout.specs.Shape.{at, present_of}
use Rattle.base_text.specs.Put.{Put}
use Rattle.base_lines.specs.Lines.{joined}
use Rattle.list_answer_show.specs.Show.{card_text}
use Rattle.list_answer_show.proofs.put_cards.Given as goal

abbrev pub row : (base stored kept reached writing : List ℕ) → ℕ → List ℕ
row base stored kept reached writing i = card_text i (at base i ∷ at stored i ∷ at kept i ∷ at reached i ∷ []) (at writing i)

abbrev pub invariant-loop-c : goal.invariant-loop-c
invariant-loop-c l = Put l.initial.b l.initial.at (joined (selected l.c (present_of l.cards) (row l.base l.stored l.held l.reached l.writing))) l.at l.b
