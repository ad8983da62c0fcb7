-- Laws of the text of fix: how it goes on. Assumes nothing.
use Prim.Native.Nat.{ℕ, ◌+◌, min}
use mathlib.Core.Path.{◌≡◌, refl, sym, ◌∙◌, ap, ap₂}
use mathlib.Core.Bool.{Bool, cond}
use mathlib.Core.List.{List, [], ◌∷◌, ◌++◌, append_assoc, append-nil}
use native.Mathlib.Nat.{sub-zero}
use native.Mathlib.Omega.{arith}
use lib.ListN.{length, take, length-take}
use borrow.Author.Tests.{lt-ltb, le-ltb}
use Rattle.base_laws.specs.Below.{selected}
use Rattle.base_laws.proofs.Below.{selected_first}
use Rattle.base_laws.proofs.Fill.{length_tabulate}
use Rattle.theory_protocol.specs.Plan.{CardRow, fixed}
use Rattle.cabinet_layout.specs.Shape.{at, present_of}
use Rattle.cabinet_layout.proofs.Limits.{width16}
use Rattle.cabinet_recovery.specs.Fix.{rows_of}
use Rattle.base_text.proofs.Taken.{taken_twice}
use Rattle.base_decimal.specs.Digits.{decimal}
use Rattle.base_lines.specs.Lines.{text_line}
use Rattle.base_lines.proofs.Spaced.{selected_more}
use Rattle.list_answers.specs.Texts.{fixed_word, lost_word, rows_text, answer_text}
use Rattle.list_answer_fix.specs.Fixed.{row_count, fixed_text}

-- ---- lines of the cards that there are

abbrev row_text : CardRow → List ℕ
row_text r = text_line (decimal r.card) (r.stored ∷ r.line ∷ [])

rows_append : (xs ys : List CardRow) → rows_text (xs ++ ys) ≡ rows_text xs ++ rows_text ys
rows_append [] ys = refl
rows_append (x ∷ xs) ys = ap (λ (l : List ℕ). row_text x ++ l) (rows_append xs ys) ∙ sym (append_assoc (row_text x) (rows_text xs) (rows_text ys))

pub rows_more : (p : ℕ → Bool) (f : ℕ → CardRow) (i : ℕ) → rows_text (selected i p f) ++ cond (p i) (row_text (f i)) [] ≡ rows_text (selected (i + 1) p f)
rows_more = selected_more rows_text row_text rows_append (λ x. append-nil (row_text x)) refl

-- ---- the answer of fix

-- there is a record for each card, of 16 cards at most
rows_length : (n : ℕ) (stored line : List ℕ) → length (rows_of n stored line) ≡ row_count n
rows_length n stored line =
    ap (λ (w : ℕ). length (selected w (present_of n) row)) width16
    ∙ ap length (selected_first (present_of n) row 16 (row_count n) (omega arith) (λ k h. lt-ltb k n (omega arith)) (λ k h l. le-ltb k n (omega arith)))
    ∙ length_tabulate (row_count n) row
  where
    row : ℕ → CardRow
    row c = record { card = c; stored = at stored c; line = at line c }

-- the places that hold numbers of changes lost
pub fixed_as : (n : ℕ) (stored line list : List ℕ) (k places some count : ℕ) → length list ≡ 776 → some ≡ min k places → count ≡ min some 776
    → fixed_text n stored line (take count list) count ≡ answer_text (fixed (rows_of n stored line) (take k (take places list)))
fixed_as n stored line list k places some count size e q =
    ap₂ (λ (a b : ℕ). text_line fixed_word (a ∷ b ∷ []) ++ (rows_text (rows_of n stored line) ++ text_line lost_word (take count list))) (sym (rows_length n stored line)) long
    ∙ ap (λ (l : List ℕ). text_line fixed_word (length (rows_of n stored line) ∷ length (take k (take places list)) ∷ []) ++ (rows_text (rows_of n stored line) ++ text_line lost_word l)) front
  where
    front : take count list ≡ take k (take places list)
    front = ap (λ (m : ℕ). take m list) (sym (sub-zero count)) ∙ taken_twice list 776 k places some count size e q

    long : count ≡ length (take k (take places list))
    long = omega (arith, length-take k (take places list), length-take places list)
