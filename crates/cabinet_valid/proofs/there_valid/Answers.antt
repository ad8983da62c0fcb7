use Rattle.theory_protocol.specs.Valid.{numbers_valid}
use Rattle.cabinet_numbers.proofs.Tests.{numbers_order}
use Rattle.cabinet_layout.specs.Shape.{limits16, numbers_of}
use mathlib.Core.Path.{◌≡◌, sym, ◌∙◌}
use mathlib.Core.Bool.{true, false}
use Rattle.cabinet_valid.proofs.there_valid.Goals as goal

pub frames_valid-frames-requires : goal.frames_valid-frames-requires
frames_valid-frames-requires c = let a : _ = c.args in let o : _ = numbers_order a.base a.stored a.held a.reached (sym c.numbers_valid-numbers.ensures ∙ c.if-numbers.true) in (c.requires, o.0, o.1)

pub returns-then-numbers : goal.returns-then-numbers
returns-then-numbers c = let a : _ = c.args in let e : numbers_valid limits16 (numbers_of a.base a.stored a.held a.reached) 0 ≡ true = sym c.numbers_valid-numbers.ensures ∙ c.if-numbers.true in rw (e, c.line_valid-fixed.ensures, c.frames_valid-frames.ensures)

pub returns-else-numbers : goal.returns-else-numbers
returns-else-numbers c = let a : _ = c.args in let e : numbers_valid limits16 (numbers_of a.base a.stored a.held a.reached) 0 ≡ false = sym c.numbers_valid-numbers.ensures ∙ c.if-numbers.false in rw e
