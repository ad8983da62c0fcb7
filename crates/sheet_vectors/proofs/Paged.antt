-- Refusal 10 over pages, taken apart: when it is met, when not, and that it looks at the frames alone. Assumes nothing.
use Prim.Native.Nat.{ℕ, ◌<◌}
use mathlib.Core.Path.{◌≡◌, ◌∙◌, ap, ap₂}
use mathlib.Core.Bool.{Bool, true, false}
use mathlib.Core.List.{List}
use native.Mathlib.Omega.{arith}
use lib.ListN.{length, get_or}
use Rattle.base_laws.specs.Below.{any_below}
use Rattle.base_laws.proofs.Logic.{clash, fails}
use Rattle.base_laws.proofs.Below.{Found, any_same, any_intro, any_elim}
use Rattle.sheet_lines.specs.declared.Frame.{Frame}
use Rattle.sheet_lines.specs.Lines.{no_frame}
use Rattle.sheet_pages.specs.Pages.{Page}
use Rattle.sheet_pages.specs.Ring.{page_at}
use Rattle.sheet_vectors.specs.Vectors.{frame_on, differ, two_vectors}

none_any : (n : ℕ) (p : ℕ → Bool) → ((k : ℕ) → k < n → p k ≡ false) → any_below n p ≡ false
none_any n p f = fails (any_below n p) (λ (t : any_below n p ≡ true). let q : Found n p = any_elim n p t in clash q.2 (f q.0 q.1))

-- a frame of one sheet and a frame of another have one change and two vectors of n entries
abbrev differ_in : ℕ → List Frame → List Frame → Bool
differ_in n fs gs = any_below (length fs) (λ a. any_below (length gs) (λ b. differ n (get_or fs a no_frame) (get_or gs b no_frame)))

module _ (ps : List Page) where
  abbrev pair : ℕ → ℕ → Bool
  pair i j = differ_in (length ps) (page_at ps i).frames (page_at ps j).frames

  pub two_some : (i j a b : ℕ) → i < length ps → j < i → a < length (page_at ps i).frames → b < length (page_at ps j).frames → differ (length ps) (frame_on ps i a) (frame_on ps j b) ≡ true → two_vectors ps ≡ true
  unfolding two_vectors
  two_some i j a b hi hj ha hb e =
      any_intro (length ps) (λ i. any_below i (pair i)) i hi
      (any_intro i (pair i) j hj
      (any_intro (length (page_at ps i).frames) (λ a. any_below (length (page_at ps j).frames) (λ b. differ (length ps) (frame_on ps i a) (frame_on ps j b))) a ha
      (any_intro (length (page_at ps j).frames) (λ b. differ (length ps) (frame_on ps i a) (frame_on ps j b)) b hb e)))

  pub two_none :
      ((i j a b : ℕ) → i < length ps → j < i → a < length (page_at ps i).frames → b < length (page_at ps j).frames → differ (length ps) (frame_on ps i a) (frame_on ps j b) ≡ false) →
      two_vectors ps ≡ false
  unfolding two_vectors
  two_none f =
      none_any (length ps) (λ i. any_below i (pair i))
      (λ i hi. none_any i (pair i)
      (λ j hj. none_any (length (page_at ps i).frames) (λ a. any_below (length (page_at ps j).frames) (λ b. differ (length ps) (frame_on ps i a) (frame_on ps j b)))
      (λ a ha. none_any (length (page_at ps j).frames) (λ b. differ (length ps) (frame_on ps i a) (frame_on ps j b)) (λ b hb. f i j a b hi hj ha hb))))

pub two_frames : (ps qs : List Page) → length ps ≡ length qs → ((c : ℕ) → c < length ps → (page_at ps c).frames ≡ (page_at qs c).frames) → two_vectors ps ≡ two_vectors qs
unfolding two_vectors
two_frames ps qs l f =
    any_same (length ps) (λ i. any_below i (pair ps i)) (λ i. any_below i (λ j. differ_in (length ps) (page_at qs i).frames (page_at qs j).frames))
    (λ i hi. any_same i (pair ps i) (λ j. differ_in (length ps) (page_at qs i).frames (page_at qs j).frames)
    (λ j hj. ap₂ (differ_in (length ps)) (f i hi) (f j (let h : j < length ps = omega arith in h))))
    ∙ ap (λ (n : ℕ). any_below n (λ i. any_below i (λ j. differ_in n (page_at qs i).frames (page_at qs j).frames))) l
