-- The entries of one frame in the ring.
use Rattle.std.specs.Prelude.{ℕ, ◌+◌, ◌*◌, cond, List, ltb, get_or}
use Rattle.std.proofs.lemmas.List.Edits.{sets}
use Rattle.base_limits.specs.Document.{most_cards, most_frames}
use Rattle.base_laws.specs.Below.{tabulate}

-- the 16 entries at a place
abbrev pub entries_at : List ℕ → ℕ → List ℕ
entries_at entries p = tabulate most_cards (λ j. get_or entries (p * most_cards + j) 0)

-- the same; all 0, which is none, where the ring has no such place
abbrev pub row_at : List ℕ → ℕ → List ℕ
row_at entries p = cond (ltb p most_frames) (entries_at entries p) (tabulate most_cards (λ j. 0))

-- a row written at a place; nothing where the ring has no such place
abbrev pub row_put : List ℕ → ℕ → List ℕ → List ℕ
row_put entries p row = cond (ltb p most_frames) (sets entries (p * most_cards) row) entries
