-- The definitions at answers that are written out. Assumes nothing.
use mathlib.Core.Path.{◌≡◌, refl}
use mathlib.Core.List.{[], ◌∷◌}
use Rattle.list_answer_entries.specs.Entries.{frame_text}

-- "2 5 2 - 0": state 2 was made by change 5 and hangs on state 2 of card 0, on none of card 1 and on state 0 of card 2
frame_2 : frame_text 2 5 (3 ∷ 0 ∷ 1 ∷ []) ≡ 50 ∷ 32 ∷ 53 ∷ 32 ∷ 50 ∷ 32 ∷ 45 ∷ 32 ∷ 48 ∷ 10 ∷ []
frame_2 = refl
