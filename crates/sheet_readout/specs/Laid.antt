-- What the lines of an accepted read-out leave of it by value.
use Rattle.std.specs.Prelude.{◌≤◌, ◌≡◌}
use Rattle.base_limits.specs.Document.{most_cards}
use Rattle.sheet_pages.specs.declared.Readout.{Readout}
use Rattle.sheet_pages.specs.Walk.{no_readout, lay_pages}
use Rattle.sheet_pages.specs.Ring.{pages_of}
use Rattle.sheet_vectors.specs.Heads.{Orderly}

-- the read-out into which the sheets of 1 to 16 cards were laid, and nothing else
pub record Laid (r : Readout) : Type 0 where
  pub some : 1 ≤ r.cards
  pub few : r.cards ≤ most_cards
  pub orderly : Orderly r.changes r.bases r.counts r.cards
  pub again : lay_pages (pages_of r) no_readout ≡ r
