-- The text of sheet writing, out of the places that hold the sheet. Assumes nothing.
use Prim.Native.Nat.{ℕ, min}
use mathlib.Core.Path.{◌≡◌, sym, ◌∙◌, ap, ap₂}
use mathlib.Core.List.{List, [], ◌∷◌, ◌++◌}
use native.Mathlib.Nat.{sub-zero}
use native.Mathlib.Omega.{arith}
use lib.ListN.{length, take, length-take}
use Rattle.theory_protocol.specs.Plan.{written}
use Rattle.base_text.proofs.Taken.{taken_twice}
use Rattle.base_lines.specs.Lines.{text_line}
use Rattle.list_answers.specs.Texts.{sheet_word, answer_text}

-- the places that hold the sheet
pub sheet_as : (list : List ℕ) (k places some count : ℕ) → length list ≡ 65536 → some ≡ min k places → count ≡ min some 65536
    → text_line sheet_word (count ∷ []) ++ take count list ≡ answer_text (written (take k (take places list)))
sheet_as list k places some count size e q =
    ap₂ (λ (n : ℕ) (l : List ℕ). text_line sheet_word (n ∷ []) ++ l) long front
  where
    front : take count list ≡ take k (take places list)
    front = ap (λ (m : ℕ). take m list) (sym (sub-zero count)) ∙ taken_twice list 65536 k places some count size e q

    long : count ≡ length (take k (take places list))
    long = omega (arith, length-take k (take places list), length-take places list)
