-- Laws of the text of a state's line: how it goes on. Assumes nothing.
use Prim.Native.Nat.{ℕ, ◌+◌, ◌-◌}
use mathlib.Core.Path.{◌≡◌, refl, sym, ◌∙◌, ap}
use mathlib.Core.Bool.{Bool, true, false, not, cond}
use mathlib.Core.List.{List, [], ◌∷◌, ◌++◌, append_assoc, append-nil}
use borrow.Author.Tests.{eq-eqb, ne_eqb, not-true, not-false}
use Rattle.base_laws.specs.Below.{selected}
use Rattle.base_laws.proofs.Logic.{cond_true, cond_false}
use Rattle.base_decimal.specs.Digits.{decimal}
use Rattle.base_lines.specs.Lines.{spaced}
use Rattle.base_lines.proofs.Spaced.{selected_more}
use Rattle.list_answer_entries.specs.Entries.{entry_text, entries_text, frame_text}

entries_append : (xs ys : List ℕ) → entries_text (xs ++ ys) ≡ entries_text xs ++ entries_text ys
entries_append [] ys = refl
entries_append (x ∷ xs) ys = ap (λ (l : List ℕ). entry_text x ++ l) (entries_append xs ys) ∙ sym (append_assoc (entry_text x) (entries_text xs) (entries_text ys))

pub entries_more : (p : ℕ → Bool) (f : ℕ → ℕ) (i : ℕ) → entries_text (selected i p f) ++ cond (p i) (entry_text (f i)) [] ≡ entries_text (selected (i + 1) p f)
entries_more = selected_more entries_text entry_text entries_append (λ x. append-nil (entry_text x)) refl

-- an entry that is written, and one that is not
pub entry_absent : (there : Bool) (e : ℕ) → not there ≡ true → [] ≡ cond there (entry_text e) []
entry_absent there e h = sym (cond_false (entry_text e) [] (not-true there h))

pub entry_none : (there : Bool) (e : ℕ) → not there ≡ false → e ≡ 0 → 32 ∷ 45 ∷ [] ≡ cond there (entry_text e) []
entry_none there e h z = sym (cond_true (entry_text e) [] (not-false there h) ∙ cond_true (32 ∷ 45 ∷ []) (spaced ((e - 1) ∷ [])) (eq-eqb e 0 z))

pub entry_some : (there : Bool) (e : ℕ) → not there ≡ false → (e ≡ 0 → ⊥) → spaced ((e - 1) ∷ []) ≡ cond there (entry_text e) []
entry_some there e h n = sym (cond_true (entry_text e) [] (not-false there h) ∙ cond_false (32 ∷ 45 ∷ []) (spaced ((e - 1) ∷ [])) (ne_eqb e 0 n))

pub frame_as : (x k : ℕ) (es : List ℕ) → ((decimal x ++ spaced (k ∷ [])) ++ entries_text es) ++ (10 ∷ []) ≡ frame_text x k es
frame_as x k es =
    append_assoc (decimal x ++ spaced (k ∷ [])) (entries_text es) (10 ∷ []) ∙ append_assoc (decimal x) (spaced (k ∷ [])) (entries_text es ++ (10 ∷ []))
