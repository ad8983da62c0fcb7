-- Texts as lists of bytes: what stands before a byte, and when two are the same.
use Rattle.std.specs.Prelude.{ℕ, Bool, true, false, ◌&&◌, cond, List, [], ◌∷◌, eqb}

-- a text up to the first byte b, or the whole of it
abbrev pub before : ℕ → List ℕ → List ℕ
before b [] = []
before b (a ∷ s) = cond (eqb a b) [] (a ∷ before b s)

-- whether two texts are the same
abbrev pub same : List ℕ → List ℕ → Bool
same [] [] = true
same [] (b ∷ t) = false
same (a ∷ s) [] = false
same (a ∷ s) (b ∷ t) = eqb a b && same s t
