-- Lines as runs of stores, for any format. Assumes nothing.
use Prim.Native.Nat.{ℕ, suc, ◌+◌, ◌*◌, ◌-◌, ◌≤◌, ◌<◌}
use mathlib.Core.Path.{◌≡◌, refl, sym, ◌∙◌, ap}
use mathlib.Core.List.{List, [], ◌∷◌, ◌++◌, map, append_assoc, append-nil}
use native.Mathlib.Omega.{arith}
use lib.ListN.{length, take, drop, get_or, replicate, length-append}
use lib.Seq.{sets, drop-cons}
use Rattle.base_laws.proofs.Seq.{sets_append, sets_part}
use Rattle.sheet_digits.specs.declared.Sums.{Sums}
use Rattle.sheet_digits.specs.Digits.{digits, written}
use Rattle.sheet_digits.specs.Line.{summed, check_of, sheet_line}
use Rattle.sheet_digits.proofs.Digits.{digits_length}
use Rattle.sheet_lines.specs.declared.Header.{Header}
use Rattle.sheet_lines.specs.declared.Frame.{Frame}
use Rattle.sheet_lines.specs.Format.{Format, none_of, shown_by}
use Rattle.sheet_lines.specs.Lines.{header_line, header_digits, header_widths, header_numbers, start_of, frame_digits, frame_line, frame_widths, frame_numbers}
use Rattle.sheet_lines.proofs.Lengths.{header_length, frame_length}

-- a run stored behind a run
pub next_put : (b : List ℕ) {b₁ b₂ : List ℕ} (at p : ℕ) (xs ys : List ℕ) → b₁ ≡ sets b at xs → p ≡ at + length xs → b₂ ≡ sets b₁ p ys → b₂ ≡ sets b at (xs ++ ys)
next_put b at p xs ys e q f = f ∙ rw (e, q) (sym (sets_append xs b at ys))

-- digits stored, and the line ended
pub line_ended :
    (b : List ℕ) {b₁ b₂ : List ℕ} (start : Sums) (at n : ℕ) (body : List ℕ) →
    length body ≡ n →
    at + n ≤ length b →
    b₁ ≡ sets b at body →
    b₂ ≡ sets b₁ (at + n) (digits 4 (check_of (summed start (take n (drop at b₁)))) ++ (10 ∷ [])) →
    b₂ ≡ sets b at (sheet_line start body)
unfolding sheet_line
line_ended b {b₁} {b₂} start at n body l h e f = f ∙ tail (digits 4 (check_of (summed start body))) (ap (λ (x : List ℕ). digits 4 (check_of (summed start x))) part)
  where
    part : take n (drop at b₁) ≡ body
    part = rw (e, ← l) (sets_part body b at (rw l h))

    tail : (check : List ℕ) → digits 4 (check_of (summed start (take n (drop at b₁)))) ≡ check → sets b₁ (at + n) (digits 4 (check_of (summed start (take n (drop at b₁)))) ++ (10 ∷ [])) ≡ sets b at (body ++ check ++ (10 ∷ []))
    tail check q = ap (λ (x : List ℕ). sets b₁ (at + n) (x ++ (10 ∷ []))) q ∙ rw (append_assoc body check (10 ∷ []), sets_append body b at (check ++ (10 ∷ [])), l, e)

-- five runs, one behind the other
pub five_puts :
    (b : List ℕ) {b₁ b₂ b₃ b₄ b₅ : List ℕ} (at k : ℕ) (v w x y z : List ℕ) →
    length v ≡ 8 →
    length w ≡ 2 →
    length x ≡ 2 →
    length y ≡ k →
    b₁ ≡ sets b at v →
    b₂ ≡ sets b₁ (at + 8) w →
    b₃ ≡ sets b₂ (at + 10) x →
    b₄ ≡ sets b₃ (at + 12) y →
    b₅ ≡ sets b₄ (at + (k + 12)) z →
    b₅ ≡ sets b at (v ++ (w ++ (x ++ (y ++ (z ++ [])))))
five_puts b at k v w x y z lv lw lx ly p q r s t =
    let two = next_put b at (at + 8) v w p (rw lv) q in
    let three = next_put b at (at + 10) (v ++ w) x two (rw (length-append v w, lv, lw)) r in
    let four = next_put b at (at + 12) (v ++ w ++ x) y three (rw (length-append (v ++ w) x, length-append v w, lv, lw, lx)) s in
    let five = next_put b at (at + (k + 12)) (v ++ w ++ x ++ y) z four (rw (length-append (v ++ w ++ x) y, length-append (v ++ w) x, length-append v w, lv, lw, lx, ly) (omega arith)) t in
    let e : v ++ w ++ x ++ y ++ z ≡ v ++ (w ++ (x ++ (y ++ (z ++ [])))) = simp (append_assoc, append-nil) in
    five ∙ ap (sets b at) e

pub header_put :
    (f : Format) (b : List ℕ) {b₁ b₂ b₃ b₄ b₅ b₆ : List ℕ} (at : ℕ) (h : Header) (start : Sums) →
    at + header_digits f + 5 ≤ length b →
    b₁ ≡ sets b at (digits 8 h.session) →
    b₂ ≡ sets b₁ (at + 8) (digits 2 h.card) →
    b₃ ≡ sets b₂ (at + 10) (digits 2 h.cards) →
    b₄ ≡ sets b₃ (at + 12) (digits f.width h.base) →
    b₅ ≡ sets b₄ (at + (f.width + 12)) (digits 4 h.count) →
    start ≡ start_of f h →
    b₆ ≡ sets b₅ (at + header_digits f) (digits 4 (check_of (summed start (take (header_digits f) (drop at b₅)))) ++ (10 ∷ [])) →
    b₆ ≡ sets b at (header_line f h)
unfolding header_line
header_put f b at h start k p q r s t e z =
    line_ended b start at (header_digits f) (written (header_widths f) (header_numbers h)) (header_length f h) (omega arith)
    (five_puts b at f.width (digits 8 h.session) (digits 2 h.card) (digits 2 h.cards) (digits f.width h.base) (digits 4 h.count) refl refl refl (digits_length f.width h.base) p q r s t)
    z
    ∙ ap (λ (a : Sums). sets b at (sheet_line a (written (header_widths f) (header_numbers h)))) e

-- one more entry stored, as `show` gives it
pub entry_put :
    (w : ℕ) (show : ℕ → ℕ) (b : List ℕ) {b₁ : List ℕ} (es : List ℕ) (at n j : ℕ) →
    j < n →
    j < length es →
    b₁ ≡ sets b (at + j * w) (digits w (show (get_or es j 0))) →
    sets b₁ (at + (j + 1) * w) (written (replicate (n - (j + 1)) w) (map show (drop (j + 1) es))) ≡ sets b (at + j * w) (written (replicate (n - j) w) (map show (drop j es)))
entry_put w show b {b₁} es at n j h k e =
    let m : n - j ≡ suc (n - (j + 1)) = omega arith in
    let q : at + (j + 1) * w ≡ at + j * w + w = omega arith in
    let i : j + 1 ≡ suc j = omega arith in
    go (written (replicate (n - (j + 1)) w) (map show (drop (j + 1) es))) q
    ∙ rw (m, drop-cons es j 0 k, i)
  where
    go : (rest : List ℕ) → at + (j + 1) * w ≡ at + j * w + w → sets b₁ (at + (j + 1) * w) rest ≡ sets b (at + j * w) (digits w (show (get_or es j 0)) ++ rest)
    go rest q = rw (e, q) (sym (rw (sets_append (digits w (show (get_or es j 0))) b (at + j * w) rest, digits_length w (show (get_or es j 0)))))

pub frame_put :
    (f : Format) (b : List ℕ) {b₁ b₂ b₃ b₄ : List ℕ} (at n : ℕ) (start : Sums) (state : ℕ) (next : Frame) {all : ℕ} →
    all ≡ none_of f →
    length next.entries ≡ 16 →
    n ≤ 16 →
    at + frame_digits f n + 5 ≤ length b →
    b₁ ≡ sets b at (digits f.width state) →
    b₂ ≡ sets b₁ (at + f.width) (digits 8 next.change) →
    b₃ ≡ sets b₂ (at + (f.width + 8)) (written (replicate n f.width) (map (shown_by f.short all) next.entries)) →
    b₄ ≡ sets b₃ (at + frame_digits f n) (digits 4 (check_of (summed start (take (frame_digits f n) (drop at b₃)))) ++ (10 ∷ [])) →
    b₄ ≡ sets b at (frame_line f start n state next)
unfolding frame_line
frame_put f b at n start state next y l h k p q r z =
    let w = f.width in
    let body : digits w state ++ digits 8 next.change ++ written (replicate n w) (map (shown_by f.short (none_of f)) next.entries) ≡ written (frame_widths f n) (frame_numbers f state next) = append_assoc (digits w state) (digits 8 next.change) (written (replicate n w) (map (shown_by f.short (none_of f)) next.entries)) in
    line_ended b start at (frame_digits f n) (written (frame_widths f n) (frame_numbers f state next)) (frame_length f n state next (omega arith)) (omega arith)
    (next_put b at (at + (w + 8)) (digits w state ++ digits 8 next.change) (written (replicate n w) (map (shown_by f.short (none_of f)) next.entries))
    (next_put b at (at + w) (digits w state) (digits 8 next.change) p (rw (digits_length w state)) q) (rw (length-append (digits w state) (digits 8 next.change), digits_length w state)) (rw y at r)
    ∙ ap (sets b at) body)
    z

pub entries_begin :
    (w : ℕ) (show : ℕ → ℕ) (b es : List ℕ) (at n : ℕ) → sets b (at + 0 * w) (written (replicate (n - 0) w) (map show es)) ≡ sets b at (written (replicate n w) (map show es))
entries_begin w show b es at n =
    let m : n - 0 ≡ n = omega arith in
    let q : at + 0 * w ≡ at = omega arith in
    rw (m, q)

pub entries_done : (w : ℕ) (show : ℕ → ℕ) (b es : List ℕ) (at n j : ℕ) → n ≤ j → sets b (at + j * w) (written (replicate (n - j) w) (map show (drop j es))) ≡ b
entries_done w show b es at n j h = let m : n - j ≡ 0 = omega arith in rw m
