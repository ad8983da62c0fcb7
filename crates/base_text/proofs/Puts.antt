-- Laws of writing into a buffer: one text after another is the two joined. Assumes nothing.
use Prim.Native.Nat.{ℕ, ◌+◌, ◌-◌, ◌≤◌, ◌<◌}
use mathlib.Core.Path.{◌≡◌, refl, sym, ◌∙◌, ap, ap₂, subst}
use mathlib.Core.Bool.{Bool, cond}
use mathlib.Core.List.{List, [], ◌∷◌, ◌++◌}
use native.Mathlib.Nat.{add-zero, add_assoc}
use native.Mathlib.Numerals.{add-one}
use native.Mathlib.Omega.{arith}
use lib.Dec.{leb}
use lib.ListN.{length, take, get_or, set, length-append}
use lib.Seq.{sets, length-sets, take_all, take-suc, take-append-le, take-append-add, length-take-le}
use borrow.Author.Tests.{le-leb, lt-leb, leb-true, leb-false}
use Rattle.base_laws.proofs.Logic.{test}
use Rattle.base_laws.proofs.Seq.{sets_append}
use Rattle.base_text.specs.declared.Progress.{Progress}
use Rattle.base_text.specs.declared.Progress.TheVariants.{Next, Counting, TooShort}
use Rattle.base_text.specs.Put.{greatest, counted_on, place_after, buffer_after, Put}

-- ---- a text that has room, and one that has none

abbrev placed : Bool → ℕ → Progress
placed fits next = cond fits (Next next) TooShort

pub place_fits : (size at : ℕ) (t : List ℕ) → length t ≤ size - at → place_after size (Next at) t ≡ Next (at + length t)
place_fits size at t h = ap (λ (b : Bool). placed b (at + length t)) (le-leb (length t) (size - at) h)

pub place_beyond : (size at : ℕ) (t : List ℕ) → size - at < length t → place_after size (Next at) t ≡ TooShort
place_beyond size at t h = ap (λ (b : Bool). placed b (at + length t)) (lt-leb (length t) (size - at) h)

pub buffer_fits : (b : List ℕ) (at : ℕ) (t : List ℕ) → length t ≤ length b - at → buffer_after b (Next at) t ≡ sets b at t
buffer_fits b at t h = ap (sets b at) (take_all (length b - at) t h)

length_after : (b : List ℕ) (at : ℕ) (t : List ℕ) → length (buffer_after b (Next at) t) ≡ length b
length_after b at t = length-sets b at (take (length b - at) t)

-- ---- what can be counted, and what can't

pub count_fits : (n k : ℕ) → k ≤ greatest - n → counted_on n k ≡ Counting (n + k)
count_fits n k h = ap (λ (b : Bool). cond b (Counting (n + k)) TooShort) (le-leb k (greatest - n) h)

pub count_beyond : (n k : ℕ) → greatest - n < k → counted_on n k ≡ TooShort
count_beyond n k h = ap (λ (b : Bool). cond b (Counting (n + k)) TooShort) (lt-leb k (greatest - n) h)

-- nothing
pub put_nothing : (b : List ℕ) (w : Progress) → Put b w [] w b
put_nothing b (Next at) = record { answer = sym (place_fits (length b) at [] (omega arith) ∙ ap Next (add-zero at)); buffer = sym (buffer_fits b at [] (omega arith)) }
put_nothing b (Counting n) = record { answer = sym (count_fits n 0 (omega arith) ∙ ap Counting (add-zero n)); buffer = refl }
put_nothing b TooShort = record { answer = refl; buffer = refl }

-- ---- one text after another

module _ (b : List ℕ) (at : ℕ) (t u : List ℕ) where
  then_fits : length t ≤ length b - at
      → (place_after (length (buffer_after b (Next at) t)) (place_after (length b) (Next at) t) u ≡ place_after (length b) (Next at) (t ++ u))
      × (buffer_after (buffer_after b (Next at) t) (place_after (length b) (Next at) t) u ≡ buffer_after b (Next at) (t ++ u))
  then_fits h = (
    ap₂ (λ (n : ℕ) (w : Progress). place_after n w u) (length_after b at t) (place_fits (length b) at t h) ∙ same_place,
    ap₂ (λ (l : List ℕ) (w : Progress). buffer_after l w u) (buffer_fits b at t h) (place_fits (length b) at t h) ∙ same_buffer,
  )
    where
      long : length (t ++ u) ≡ length t + length u
      long = length-append t u

      same_place : place_after (length b) (Next (at + length t)) u ≡ place_after (length b) (Next at) (t ++ u)
      same_place =
          test (leb (length u) (length b - (at + length t)))
          (λ e.
          let f : length u ≤ length b - (at + length t) = leb-true (length u) (length b - (at + length t)) e in
          place_fits (length b) (at + length t) u f ∙ ap Next (add_assoc at (length t) (length u) ∙ ap (λ (k : ℕ). at + k) (sym long))
          ∙ sym (place_fits (length b) at (t ++ u) (omega (arith, long))))
          (λ e.
          let f : length b - (at + length t) < length u = leb-false (length u) (length b - (at + length t)) e in
          place_beyond (length b) (at + length t) u f ∙ sym (place_beyond (length b) at (t ++ u) (omega (arith, long))))

      left : length b - at ≡ length t + (length b - (at + length t))
      left = omega arith

      same_buffer : buffer_after (sets b at t) (Next (at + length t)) u ≡ buffer_after b (Next at) (t ++ u)
      same_buffer =
          ap (λ (n : ℕ). sets (sets b at t) (at + length t) (take (n - (at + length t)) u)) (length-sets b at t)
          ∙ sym (ap (λ (n : ℕ). sets b at (take n (t ++ u))) left ∙ ap (sets b at) (take-append-add t u (length b - (at + length t))) ∙ sets_append t b at (take (length b - (at + length t)) u))

  then_cut : length b - at < length t
      → (place_after (length (buffer_after b (Next at) t)) (place_after (length b) (Next at) t) u ≡ place_after (length b) (Next at) (t ++ u))
      × (buffer_after (buffer_after b (Next at) t) (place_after (length b) (Next at) t) u ≡ buffer_after b (Next at) (t ++ u))
  then_cut h = (
    ap (λ (w : Progress). place_after (length (buffer_after b (Next at) t)) w u) (place_beyond (length b) at t h) ∙ sym (place_beyond (length b) at (t ++ u) (omega (arith, length-append t u))),
    ap (λ (w : Progress). buffer_after (buffer_after b (Next at) t) w u) (place_beyond (length b) at t h) ∙ sym (ap (sets b at) (take-append-le (length b - at) t u (omega arith))),
  )

-- a text is counted after another
count_then : (b : List ℕ) (n : ℕ) (t u : List ℕ)
    → (place_after (length b) (counted_on n (length t)) u ≡ counted_on n (length (t ++ u))) × (buffer_after b (counted_on n (length t)) u ≡ b)
count_then b n t u =
    test (leb (length t) (greatest - n))
    (λ e.
    let f : length t ≤ greatest - n = leb-true (length t) (greatest - n) e in (
      ap (λ (w : Progress). place_after (length b) w u) (count_fits n (length t) f) ∙ further f,
      ap (λ (w : Progress). buffer_after b w u) (count_fits n (length t) f),
    ))
    (λ e.
    let f : greatest - n < length t = leb-false (length t) (greatest - n) e in (
      ap (λ (w : Progress). place_after (length b) w u) (count_beyond n (length t) f) ∙ sym (count_beyond n (length (t ++ u)) (omega (arith, long))),
      ap (λ (w : Progress). buffer_after b w u) (count_beyond n (length t) f),
    ))
  where
    long : length (t ++ u) ≡ length t + length u
    long = length-append t u

    further : length t ≤ greatest - n → counted_on (n + length t) (length u) ≡ counted_on n (length (t ++ u))
    further f =
        test (leb (length u) (greatest - (n + length t)))
        (λ e.
        let g : length u ≤ greatest - (n + length t) = leb-true (length u) (greatest - (n + length t)) e in
        count_fits (n + length t) (length u) g ∙ ap Counting (add_assoc n (length t) (length u) ∙ ap (λ (k : ℕ). n + k) (sym long))
        ∙ sym (count_fits n (length (t ++ u)) (omega (arith, long))))
        (λ e.
        let g : greatest - (n + length t) < length u = leb-false (length u) (greatest - (n + length t)) e in
        count_beyond (n + length t) (length u) g ∙ sym (count_beyond n (length (t ++ u)) (omega (arith, long))))

then_both : (b : List ℕ) (w : Progress) (t u : List ℕ)
    → (place_after (length (buffer_after b w t)) (place_after (length b) w t) u ≡ place_after (length b) w (t ++ u))
    × (buffer_after (buffer_after b w t) (place_after (length b) w t) u ≡ buffer_after b w (t ++ u))
then_both b (Next at) t u = test (leb (length t) (length b - at)) (λ e. then_fits b at t u (leb-true (length t) (length b - at) e)) (λ e. then_cut b at t u (leb-false (length t) (length b - at) e))
then_both b (Counting n) t u = count_then b n t u
then_both b TooShort t u = (refl, refl)

pub put_then : {b : List ℕ} {w : Progress} {t : List ℕ} {r : Progress} {e u : List ℕ} {x : Progress} {f : List ℕ} → Put b w t r e → Put e r u x f → Put b w (t ++ u) x f
put_then {b} {w} {t} {r} {e} {u} {x} {f} p q =
    record {
      answer = q.answer ∙ ap₂ (λ (l : List ℕ) (y : Progress). place_after (length l) y u) p.buffer p.answer ∙ (then_both b w t u).0;
      buffer = q.buffer ∙ ap₂ (λ (l : List ℕ) (y : Progress). buffer_after l y u) p.buffer p.answer ∙ (then_both b w t u).1;
    }

-- the same text, said otherwise
pub put_as : {b : List ℕ} {w : Progress} {t u : List ℕ} {r : Progress} {e : List ℕ} → t ≡ u → Put b w t r e → Put b w u r e
put_as {b} {w} {t} {u} {r} {e} q p = subst (λ (l : List ℕ). Put b w l r e) q p

-- the same place, said otherwise
pub put_from : {b : List ℕ} {w v : Progress} {t : List ℕ} {r : Progress} {e : List ℕ} → w ≡ v → Put b v t r e → Put b w t r e
put_from {b} {w} {v} {t} {r} {e} q p = subst (λ (y : Progress). Put b y t r e) (sym q) p

-- ---- the bytes of a text stored one by one

pub record Filled (b₀ : List ℕ) (at : ℕ) (text : List ℕ) (b : List ℕ) (i : ℕ) : Type 0 where
  pub size : length b ≡ length b₀
  pub bytes : b ≡ sets b₀ at (take i text)

pub filled_none : (b : List ℕ) (at : ℕ) (text : List ℕ) → Filled b at text b 0
filled_none b at text = record { size = refl; bytes = refl }

pub filled_more : {b₀ : List ℕ} {at : ℕ} {text b : List ℕ} {i : ℕ} → Filled b₀ at text b i → i < length text → Filled b₀ at text (set b (at + i) (get_or text i 0)) (i + 1)
filled_more {b₀} {at} {text} {b} {i} r h =
    record {
      size = ap length next ∙ length-sets b₀ at (take (i + 1) text);
      bytes = next;
    }
  where
    place : at + length (take i text) ≡ at + i
    place = omega (arith, length-take-le i text (omega arith))

    one_more_lem : take (i + 1) text ≡ take i text ++ (get_or text i 0 ∷ [])
    one_more_lem = ap (λ (k : ℕ). take k text) (add-one i) ∙ take-suc text i 0 h

    next : set b (at + i) (get_or text i 0) ≡ sets b₀ at (take (i + 1) text)
    next =
        ap (λ (l : List ℕ). set l (at + i) (get_or text i 0)) r.bytes
        ∙ sym (ap (sets b₀ at) one_more_lem ∙ sets_append (take i text) b₀ at (get_or text i 0 ∷ []) ∙ ap (λ (k : ℕ). set (sets b₀ at (take i text)) k (get_or text i 0)) place)

-- as many bytes as there are, or as there is room for
pub put_whole : (b : List ℕ) (at : ℕ) (text e : List ℕ) (count : ℕ) → count ≡ length text → count ≤ length b - at → e ≡ sets b at (take count text) → Put b (Next at) text (Next (at + count)) e
put_whole b at text e count q h z =
    record {
      answer = ap (λ (k : ℕ). Next (at + k)) q ∙ sym (place_fits (length b) at text (omega arith));
      buffer = z ∙ ap (sets b at) (take_all count text (omega arith)) ∙ sym (buffer_fits b at text (omega arith));
    }

pub put_beyond : (b : List ℕ) (at : ℕ) (text e : List ℕ) (room : ℕ) → room ≡ length b - at → room < length text → e ≡ sets b at (take room text) → Put b (Next at) text TooShort e
put_beyond b at text e room q h z = record { answer = sym (place_beyond (length b) at text (omega arith)); buffer = z ∙ ap (λ (k : ℕ). sets b at (take k text)) q }

-- counted
pub put_counted : (b : List ℕ) (n : ℕ) (t : List ℕ) (r : Progress) → r ≡ counted_on n (length t) → Put b (Counting n) t r b
put_counted b n t r q = record { answer = q; buffer = refl }

-- too short before
pub put_short : (b t : List ℕ) → Put b TooShort t TooShort b
put_short b t = record { answer = refl; buffer = refl }

-- the buffer keeps its length
pub put_length : {b : List ℕ} {w : Progress} {t : List ℕ} {r : Progress} {e : List ℕ} → Put b w t r e → length e ≡ length b
put_length {b} {w} {t} p = ap length p.buffer ∙ same w
  where
    same : (v : Progress) → length (buffer_after b v t) ≡ length b
    same (Next at) = length_after b at t
    same (Counting n) = refl
    same TooShort = refl
