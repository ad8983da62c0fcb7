-- Laws of lines: how they go on. Assumes nothing.
use Rattle.std.specs.Prelude.{Option}
use Prim.Native.Nat.{ℕ, ◌+◌, ◌-◌, ◌≤◌, ◌<◌}
use mathlib.Core.Path.{◌≡◌, refl, sym, ◌∙◌, ap}
use mathlib.Core.Bool.{Bool, true, false, cond}
use mathlib.Core.List.{List, [], ◌∷◌, ◌++◌, append_assoc, append-nil}
use native.Mathlib.Numerals.{add-one}
use native.Mathlib.Omega.{arith}
use lib.ListN.{length, take, drop, get_or}
use lib.Seq.{sets, length-sets, take-suc}
use borrow.Author.Tests.{le-leb}
use Rattle.base_laws.specs.Below.{tabulate, selected}
use Rattle.base_laws.proofs.Seq.{sets_part}
use Rattle.base_decimal.specs.Digits.{decimal}
use Rattle.base_decimal.specs.Answers.{Wrote, fits}
use Rattle.base_decimal.proofs.Digits.{decimal_short}
use Rattle.base_lines.specs.Lines.{spaced, text_line, joined}

-- ---- a number's digits

-- a number of 32 bits has at most ten
pub ten_digits : (n : ℕ) → n ≤ 4294967295 → length (decimal n) ≤ 10
ten_digits n h = decimal_short 9 n (omega arith)

-- written at the front of ten bytes they stand there
pub digits_written : (n count : ℕ) (b d : List ℕ) (r : (Option ℕ)) → n ≤ 4294967295 → length b ≡ 10 → count ≡ length (decimal n) → Wrote b 0 n r d → take (count - 0) (drop 0 d) ≡ decimal n
digits_written n count b d r h ten q w =
    ap (λ (k : ℕ). take k d) count_is
    ∙ ap (take (length (decimal n))) (w.buffer ∙ ap (λ (x : Bool). cond x (sets b 0 (decimal n)) b) (le-leb (0 + length (decimal n)) (length b) fit))
    ∙ sets_part (decimal n) b 0 fit
  where
    count_is : count - 0 ≡ length (decimal n)
    count_is = omega arith

    fit : 0 + length (decimal n) ≤ length b
    fit = omega (arith, ten_digits n h)

pub wrote_length : {b : List ℕ} {at n : ℕ} {r : (Option ℕ)} {d : List ℕ} → Wrote b at n r d → length d ≡ length b
wrote_length {b} {at} {n} w = ap length w.buffer ∙ same (fits (length b) at n)
  where
    same : (x : Bool) → length (cond x (sets b at (decimal n)) b) ≡ length b
    same true = length-sets b at (decimal n)
    same false = refl

-- ---- numbers, each after a space

pub spaced_append : (ns ms : List ℕ) → spaced (ns ++ ms) ≡ spaced ns ++ spaced ms
spaced_append [] ms = refl
spaced_append (n ∷ ns) ms =
    ap (λ (l : List ℕ). 32 ∷ l) (ap (λ (l : List ℕ). decimal n ++ l) (spaced_append ns ms) ∙ sym (append_assoc (decimal n) (spaced ns) (spaced ms)))

-- one number more
pub spaced_more : (ns : List ℕ) (i : ℕ) → i < length ns → (spaced (take i ns) ++ (32 ∷ [])) ++ decimal (get_or ns i 0) ≡ spaced (take (i + 1) ns)
spaced_more ns i h =
    append_assoc (spaced (take i ns)) (32 ∷ []) (decimal (get_or ns i 0))
    ∙ ap (λ (l : List ℕ). spaced (take i ns) ++ (32 ∷ l)) (sym (append-nil (decimal (get_or ns i 0))))
    ∙ sym (ap spaced (ap (λ (k : ℕ). take k ns) (add-one i) ∙ take-suc ns i 0 h) ∙ spaced_append (take i ns) (get_or ns i 0 ∷ []))

-- ---- lines

pub line_as : (word ns : List ℕ) → (word ++ spaced ns) ++ (10 ∷ []) ≡ text_line word ns
line_as word ns = append_assoc word (spaced ns) (10 ∷ [])

-- ---- texts one after the other

-- a text of a list that is joined from texts of its elements grows by the next one that is selected
pub selected_more : {A : Type 0} (T : List A → List ℕ) (t : A → List ℕ) → ((xs ys : List A) → T (xs ++ ys) ≡ T xs ++ T ys) → ((x : A) → T (x ∷ []) ≡ t x) → T [] ≡ []
    → (p : ℕ → Bool) (f : ℕ → A) (i : ℕ) → T (selected i p f) ++ cond (p i) (t (f i)) [] ≡ T (selected (i + 1) p f)
selected_more {A} T t join one none p f i =
    sym (ap (λ (k : ℕ). T (selected k p f)) (add-one i) ∙ join (selected i p f) (cond (p i) (f i ∷ []) []) ∙ ap (λ (l : List ℕ). T (selected i p f) ++ l) (last (p i)))
  where
    last : (b : Bool) → T (cond b (f i ∷ []) []) ≡ cond b (t (f i)) []
    last true = one (f i)
    last false = none

joined_append : (xs ys : List (List ℕ)) → joined (xs ++ ys) ≡ joined xs ++ joined ys
joined_append [] ys = refl
joined_append (x ∷ xs) ys = ap (λ (l : List ℕ). x ++ l) (joined_append xs ys) ∙ sym (append_assoc x (joined xs) (joined ys))

pub joined_more : (p : ℕ → Bool) (f : ℕ → List ℕ) (i : ℕ) → joined (selected i p f) ++ cond (p i) (f i) [] ≡ joined (selected (i + 1) p f)
joined_more = selected_more joined (λ x. x) joined_append append-nil refl

pub joined_next : (f : ℕ → List ℕ) (i : ℕ) → joined (tabulate i f) ++ f i ≡ joined (tabulate (i + 1) f)
joined_next f i =
    sym (ap (λ (k : ℕ). joined (tabulate k f)) (add-one i) ∙ joined_append (tabulate i f) (f i ∷ []) ∙ ap (λ (l : List ℕ). joined (tabulate i f) ++ l) (append-nil (f i)))
