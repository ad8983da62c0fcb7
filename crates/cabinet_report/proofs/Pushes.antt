-- Texts of at most 560 bytes, and how long they are. Assumes nothing.
use Prim.Native.Nat.{ℕ, ◌+◌, ◌*◌, ◌≤◌, ◌<◌}
use mathlib.Core.Path.{◌≡◌, sym, ◌∙◌, ap, subst}
use mathlib.Core.List.{List, [], ◌∷◌, ◌++◌}
use native.Mathlib.Nat.{zero-add}
use native.Mathlib.Numerals.{add-one}
use native.Mathlib.Omega.{arith}
use lib.ListN.{length, replicate, length-append}
use Rattle.base_decimal.specs.Digits.{decimal}
use Rattle.base_text.specs.declared.Progress.{Progress}
use Rattle.base_text.specs.declared.Progress.TheVariants.{Next}
use Rattle.base_text.specs.Put.{Put}
use Rattle.base_lines.specs.Lines.{spaced, text_line}
use Rattle.base_text.proofs.Puts.{place_fits, buffer_fits, put_then, put_as}
use Rattle.base_lines.proofs.Spaced.{ten_digits}
use Rattle.theory_history.specs.Change.{Numbers}
use Rattle.cabinet_report.specs.declared.Text.{Text}
use Rattle.cabinet_report.specs.Report.{text_of, text_at, row_text, rows_text}

-- a text that has room is written whole
pub whole_text : {t e : List ℕ} {w : Progress} {r : Text} → Put (replicate 560 0) (Next 0) t w e → length t ≤ 560 → r ≡ text_at e w → r ≡ text_of t
whole_text {t} {e} {w} p h q =
    q ∙ ap (text_at e) (p.answer ∙ place_fits 560 0 t (omega arith) ∙ ap Next (zero-add (length t)))
    ∙ ap (λ (b : List ℕ). text_at b (Next (length t))) (p.buffer ∙ buffer_fits (replicate 560 0) 0 t (omega arith))

-- ---- how long lines are

pub line_length : (word : List ℕ) (n : ℕ) → n < 4294967296 → length (text_line word (n ∷ [])) ≤ length word + 12
line_length word n h = omega (arith, length-append word (spaced (n ∷ []) ++ (10 ∷ [])), length-append (spaced (n ∷ [])) (10 ∷ []), length-append (decimal n) [], ten_digits n (omega arith))

pub row_length : (c s l : ℕ) → c < 4294967296 → s < 4294967296 → l < 4294967296 → length (row_text c s l) ≤ 33
row_length c s l hc hs hl =
    omega (arith, length-append (decimal c) (spaced (s ∷ l ∷ []) ++ (10 ∷ [])), length-append (spaced (s ∷ l ∷ [])) (10 ∷ []), length-append (decimal s) (spaced (l ∷ [])), length-append (decimal l) [], ten_digits c (omega arith), ten_digits s (omega arith), ten_digits l (omega arith))

-- the lines of the cards below c
pub record RowsSoFar (n : ℕ) (stored line : Numbers) (b₀ : List ℕ) (b : List ℕ) (w : Progress) (c : ℕ) : Type 0 where
  pub within : c ≤ n
  pub so : Put b₀ (Next 0) (rows_text c stored line) w b
  pub room : length (rows_text c stored line) ≤ c * 33

pub rows_more : {n : ℕ} {stored line : Numbers} {b₀ b e : List ℕ} {w r : Progress} {c : ℕ} → RowsSoFar n stored line b₀ b w c → c < n → Put b w (row_text c (stored c) (line c)) r e → length (row_text c (stored c) (line c)) ≤ 33 → RowsSoFar n stored line b₀ e r (c + 1)
rows_more {n} {stored} {line} {b₀} {b} {e} {w} {r} {c} x h p l =
    record {
      within = omega arith;
      so = put_as (ap (λ (k : ℕ). rows_text k stored line) (sym (add-one c))) (put_then x.so p);
      room = let m : length (rows_text c stored line) ≤ c * 33 = x.room in rw (add-one c) (omega (arith, m, l, length-append (rows_text c stored line) (row_text c (stored c) (line c))));
    }

pub rows_done : {n : ℕ} {stored line : Numbers} {b₀ b : List ℕ} {w : Progress} {c : ℕ} → RowsSoFar n stored line b₀ b w c → n ≤ c → n ≤ 16 → Put b₀ (Next 0) (rows_text n stored line) w b × (length (rows_text n stored line) ≤ 528)
rows_done {n} {stored} {line} {b₀} {b} {w} {c} x h few =
    let y : c ≤ n = x.within in
    let e : c ≡ n = omega arith in
    let m : length (rows_text c stored line) ≤ c * 33 = x.room in
    subst (λ (k : ℕ). Put b₀ (Next 0) (rows_text k stored line) w b × (length (rows_text k stored line) ≤ 528)) e (x.so, omega arith)
