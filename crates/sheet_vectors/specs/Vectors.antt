-- Refusal 10: one change, two sheets, two vectors.
use Rattle.std.specs.Prelude.{ℕ, Bool, not, ◌&&◌, List, eqb, length, get_or}
use Rattle.base_laws.specs.Below.{all_below, any_below}
use Rattle.sheet_lines.specs.declared.Frame.{Frame}
use Rattle.sheet_lines.specs.Lines.{no_frame}
use Rattle.sheet_pages.specs.Pages.{Page}
use Rattle.sheet_pages.specs.Ring.{page_at}

-- frame a of sheet i
abbrev pub frame_on : List Page → ℕ → ℕ → Frame
frame_on ps i a = get_or (page_at ps i).frames a no_frame

-- two frames have one change and two vectors of n entries
abbrev pub differ : ℕ → Frame → Frame → Bool
differ n f g = eqb f.change g.change && not (all_below n (λ k. eqb (get_or f.entries k 0) (get_or g.entries k 0)))

-- refusal 10: "one change, two sheets, two vectors"
unfoldable pub two_vectors : List Page → Bool
two_vectors ps =
    any_below (length ps)
    (λ i.
    any_below i
    (λ j.
    any_below (length (page_at ps i).frames)
    (λ a. any_below (length (page_at ps j).frames) (λ b. differ (length ps) (frame_on ps i a) (frame_on ps j b)))))
