-- What the answer of a read says.
use Rattle.std.specs.Prelude.{◌≡◌, ℕ, ◌≤◌, min, List, length, take, Result, Ok, Err}

-- the first n of these bytes are there, and they are n
abbrev pub IsPrefixLen : ℕ → List ℕ → Type 0
IsPrefixLen n xs = (n ≤ length xs) × (n ≡ length (take n xs))

-- so many bytes, at most as many as there is room for; an error is a read that failed, which is not the end of the input
abbrev pub input_of : {E : Type 0} → Result ℕ E → ℕ → Result ℕ E
input_of (Ok n) room = Ok (min n room)
input_of (Err e) room = Err e
