-- `list_answer_show::put_cards` writes the cards of show. Assumes nothing.
use Prim.Native.Nat.{ℕ}
use mathlib.Core.Path.{◌≡◌, sym, ◌∙◌, ap}
use mathlib.Core.Bool.{cond}
use mathlib.Core.List.{List, [], ◌∷◌}
use Rattle.base_laws.specs.Below.{selected}
use Rattle.cabinet_layout.specs.Shape.{at, present_of}
use Rattle.cabinet_layout.proofs.Limits.{width16}
use Rattle.base_lines.specs.Lines.{joined}
use Rattle.base_text.proofs.Puts.{put_then, put_as}
use Rattle.base_lines.proofs.Spaced.{joined_more}
use Rattle.list_answer_show.specs.Show.{card_text}
use borrow.Author.Rules.{rules}
use Rattle.list_answer_show.proofs.put_cards.Goals as goal

abbrev row : (base stored kept reached writing : List ℕ) → ℕ → List ℕ
row base stored kept reached writing i = card_text i (at base i ∷ at stored i ∷ at kept i ∷ at reached i ∷ []) (at writing i)

pub loop-c-preserved : goal.loop-c-preserved
loop-c-preserved c =
    let a = c.args in
    let k : ℕ = c.loop-c.c in
    put_as (joined_more (present_of a.cards) (row a.base a.stored a.held a.reached a.writing) k)
    (put_then {u = cond (present_of a.cards k) (row a.base a.stored a.held a.reached a.writing k) []} c.loop-c.invariant c.put_card-at.ensures)

pub returns : goal.returns
returns c = let a = c.args in let e : c.loop-c.c ≡ 16 = search rules in put_as (ap (λ (k : ℕ). joined (selected k (present_of a.cards) (row a.base a.stored a.held a.reached a.writing))) (e ∙ sym width16)) c.loop-c.invariant
