-- Laws of texts that are written whole or not at all. Assumes nothing.
use Prim.Native.Nat.{ℕ, ◌+◌, ◌-◌, ◌≤◌, ◌<◌}
use mathlib.Core.Path.{◌≡◌, refl, sym, ◌∙◌, ap, ap₂, subst}
use mathlib.Core.Bool.{Bool, cond}
use mathlib.Core.List.{List}
use native.Mathlib.Omega.{arith}
use lib.Dec.{leb}
use lib.ListN.{length}
use lib.Seq.{sets, length-sets}
use borrow.Author.Tests.{le-leb, lt-leb, leb-true, leb-false}
use Rattle.base_laws.proofs.Logic.{test}
use Rattle.base_text.specs.declared.Progress.{Progress}
use Rattle.base_text.specs.declared.Progress.TheVariants.{Next, Counting, TooShort}
use Rattle.base_text.specs.Put.{greatest, counted_on, place_after, buffer_after, Put, whole_after, Whole, fitting_of}
use Rattle.base_text.proofs.Puts.{place_beyond, buffer_fits, count_fits, count_beyond}

-- ---- a text that has room, and one that has none

pub whole_fits : (b : List ℕ) (at : ℕ) (t : List ℕ) → length t ≤ length b - at → whole_after b (Next at) t ≡ sets b at t
whole_fits b at t h = ap (λ (x : Bool). cond x (sets b at t) b) (le-leb (length t) (length b - at) h)

pub whole_kept : (b : List ℕ) (at : ℕ) (t : List ℕ) → length b - at < length t → whole_after b (Next at) t ≡ b
whole_kept b at t h = ap (λ (x : Bool). cond x (sets b at t) b) (lt-leb (length t) (length b - at) h)

-- ---- counted, and then written where all has room

module _ (size at : ℕ) (t : List ℕ) where
  pub fitting_fits : length t ≤ size - at → length t ≤ greatest → fitting_of size (Next at) (counted_on 0 (length t)) ≡ Next at
  fitting_fits h l =
      ap (fitting_of size (Next at)) (count_fits 0 (length t) (omega arith))
      ∙ ap (λ (x : Bool). cond x (Next at) TooShort) (le-leb (0 + length t) (size - at) (omega arith))

  pub fitting_beyond : size - at < length t → fitting_of size (Next at) (counted_on 0 (length t)) ≡ TooShort
  fitting_beyond h =
      test (leb (length t) (greatest - 0))
      (λ e.
      ap (fitting_of size (Next at)) (count_fits 0 (length t) (leb-true (length t) (greatest - 0) e))
      ∙ ap (λ (x : Bool). cond x (Next at) TooShort) (lt-leb (0 + length t) (size - at) (omega arith)))
      (λ e. ap (fitting_of size (Next at)) (count_beyond 0 (length t) (leb-false (length t) (greatest - 0) e)))

whole_from : (b : List ℕ) (w : Progress) (t : List ℕ) (r : Progress) (e : List ℕ) → length b ≤ greatest → Put b (fitting_of (length b) w (counted_on 0 (length t))) t r e → Whole b w t r e
whole_from b (Next at) t r e l p =
    test (leb (length t) (length b - at))
    (λ x.
    let h : length t ≤ length b - at = leb-true (length t) (length b - at) x in
    let f : fitting_of (length b) (Next at) (counted_on 0 (length t)) ≡ Next at = fitting_fits (length b) at t h (omega arith) in
    record {
      answer = p.answer ∙ ap (λ (v : Progress). place_after (length b) v t) f;
      buffer = p.buffer ∙ ap (λ (v : Progress). buffer_after b v t) f ∙ buffer_fits b at t h ∙ sym (whole_fits b at t h);
    })
    (λ x.
    let h : length b - at < length t = leb-false (length t) (length b - at) x in
    let f : fitting_of (length b) (Next at) (counted_on 0 (length t)) ≡ TooShort = fitting_beyond (length b) at t h in
    record {
      answer = p.answer ∙ ap (λ (v : Progress). place_after (length b) v t) f ∙ sym (place_beyond (length b) at t h);
      buffer = p.buffer ∙ ap (λ (v : Progress). buffer_after b v t) f ∙ sym (whole_kept b at t h);
    })
whole_from b (Counting n) t r e l p = record { answer = p.answer; buffer = p.buffer }
whole_from b TooShort t r e l p = record { answer = p.answer; buffer = p.buffer }

pub whole_of : {b : List ℕ} {w : Progress} {t : List ℕ} {n : Progress} {b₁ : List ℕ} {from r : Progress} {e : List ℕ}
    → length b ≤ greatest → Put b (Counting 0) t n b₁ → from ≡ fitting_of (length b₁) w n → Put b₁ from t r e → Whole b w t r e
whole_of {b} {w} {t} {n} {b₁} {from} {r} {e} l p f q =
    whole_from b w t r e l
    (subst (λ (v : Progress). Put b v t r e) (f ∙ ap₂ (λ (x : List ℕ) (v : Progress). fitting_of (length x) w v) p.buffer p.answer)
    (subst (λ (x : List ℕ). Put x from t r e) p.buffer q))

-- the same text, said otherwise
pub whole_as : {b : List ℕ} {w : Progress} {t u : List ℕ} {r : Progress} {e : List ℕ} → t ≡ u → Whole b w t r e → Whole b w u r e
whole_as {b} {w} {t} {u} {r} {e} q p = subst (λ (l : List ℕ). Whole b w l r e) q p

-- the buffer keeps its length
pub whole_length : {b : List ℕ} {w : Progress} {t : List ℕ} {r : Progress} {e : List ℕ} → Whole b w t r e → length e ≡ length b
whole_length {b} {w} {t} p = ap length p.buffer ∙ same w
  where
    same : (v : Progress) → length (whole_after b v t) ≡ length b
    same (Next at) =
        test (leb (length t) (length b - at))
        (λ x. ap length (whole_fits b at t (leb-true (length t) (length b - at) x)) ∙ length-sets b at t)
        (λ x. ap length (whole_kept b at t (leb-false (length t) (length b - at) x)))
    same (Counting n) = refl
    same TooShort = refl
