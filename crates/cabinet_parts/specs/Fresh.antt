-- The head that a cabinet begins with.
use Rattle.std.specs.Prelude.{ℕ}
use Rattle.cabinet_layout.specs.declared.Phase.TheVariants.{Up}
use Rattle.cabinet_layout.specs.declared.Head.{Head}
use Rattle.cabinet_layout.specs.Shape.{head_of}

-- "A fresh cabinet has session 1, phase up"
abbrev pub fresh_head : ℕ → Head
fresh_head n = head_of 1 n Up

-- session 0: every call is 28
abbrev pub void_head : Head
void_head = head_of 0 0 Up
