-- `cabinet_listing::next_lost` is the lesser of what comes next at the heads and among the changes ended. Assumes nothing.
use mathlib.Core.Path.{◌∙◌, ap₂}
use Rattle.base_merge.specs.Merge.{lesser}
use Rattle.cabinet_listing.proofs.next_lost.Goals as goal

pub returns : goal.returns
returns c = c.lesser.ensures ∙ ap₂ lesser c.least-head.ensures c.next_ended-e.ensures
