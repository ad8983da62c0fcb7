-- Demands 2 and 3 at document 01's limits, and that its sheets go by no running write. Assumes nothing.
use mathlib.Core.Path.{refl}
use mathlib.Core.List.{[]}
use lib.Dec.{ltb}
use Rattle.theory_codec.specs.Sheets.{codec}
use Rattle.base_limits.specs.Document.{Limits, limits16}
use Rattle.theory_protocol.specs.Plan.{written}
use Rattle.theory_protocol.specs.Codec.{sheet_checks}
use Rattle.theory_protocol.proofs.Answers as lists
use Rattle.theory_protocol.proofs.Unseen.{unseen, rest}
use Rattle.theory_codec.specs.Claims.{SheetLimits, Demands, Demands23, SheetsUnseen}
use Rattle.theory_codec.proofs.Retold.{below_carded, sheets_law}

-- demands 2 and 3, for every list of calls
pub demands : (L : Limits) → SheetLimits L → Demands L
demands L lim k low high = lists.demands codec L (λ c. ltb c k) (below_carded L lim k low high) (sheets_law L lim k low high)

pub limits_fit : SheetLimits limits16
unfolding limits16
limits_fit = record { width = refl; in_hand = refl; greatest_state = refl; greatest_number = refl }

-- demands 2 and 3 of document 01
pub document_demands : Demands23
document_demands = demands limits16 limits_fit

pub sheets_unseen : SheetsUnseen
sheets_unseen L m fine c places = unseen L m fine (rest L m fine (sheet_checks codec L m c places)) (written (codec.sheet L m c)) [] refl refl
