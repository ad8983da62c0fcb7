-- The recovery line: it is a cut, no cut is above it, and it lets a change through exactly where all that the change depends on is stored.
-- Over any vectors that are the vectors, apart from how they are worked out. Assumes nothing.
use Prim.Native.Nat.{ℕ, ◌+◌, ◌≤◌, ◌<◌}
use mathlib.Core.Path.{◌≡◌, refl}
use mathlib.Core.Bool.{Bool, true, false, not}
use mathlib.Core.Logic.{inl, inr, by_cases, ⊎_elim}
use native.Mathlib.Nat.{le_trans, le_antisymm}
use native.Mathlib.Decide.{dec_lt, ℕ_discrete}
use native.Mathlib.Omega.{arith}
use Rattle.base_laws.proofs.Logic.{not_true, not_intro}
use Rattle.theory_history.specs.Change.{History, Numbers, writers, made, Precedes, UpTo, Closed, left, Cut}
use Rattle.theory_history.specs.Vector.{Vector, vector, IsVector}
use Rattle.theory_history.specs.Line.{orphan, Climbed, line_from, line}
use Rattle.theory_history.proofs.Writers.{Maker, maker, made_found, makers_order, found_mono}
use Rattle.theory_history.proofs.Precedence.{up_to_trans, up_to_le}
use Rattle.theory_history.proofs.Greatest.{Makes, greatest_mono}
use Rattle.theory_history.proofs.Vectors.{vector_greatest}
use Rattle.theory_history.proofs.Climb.{line_climbed, climbed_from, climbed_unique, kept, no_orphan}
use Rattle.theory_history.proofs.Cuts.{told_by_makers, in_left, left_in, left_top, writers_precede}
use Rattle.theory_history.proofs.Entries.{vector_agrees}

-- all that change i depends on is at or below s
abbrev pub Fits : ℕ → History → Numbers → Numbers → ℕ → Type 0
Fits w H start s i = (j : ℕ) → j < w → vector w H start i j ≤ s j

-- the same as a test
abbrev pub fits : ℕ → History → Numbers → Numbers → ℕ → Bool
fits w H start s i = not (orphan w s (vector w H start i))

pub fits_is : (w : ℕ) (H : History) (start s : Numbers) (i : ℕ) → fits w H start s i ≡ true → Fits w H start s i
fits_is w H start s i e = kept w s (vector w H start i) (not_true (orphan w s (vector w H start i)) e)

pub is_fits : (w : ℕ) (H : History) (start s : Numbers) (i : ℕ) → Fits w H start s i → fits w H start s i ≡ true
is_fits w H start s i f = not_intro (no_orphan w s (vector w H start i) f)

module _ (w : ℕ) (H : History) (start : Numbers) where
  -- what precedes depends on no more
  pub vector_grows : {k i : ℕ} → UpTo w H k i → (j : ℕ) → j < w → vector w H start k j ≤ vector w H start i j
  vector_grows {k} {i} u j l = greatest_mono (λ t q. up_to_trans q u) (vector_greatest w H start k j l) (vector_greatest w H start i j l)

  -- what fits, fits with all that precede it
  pub fits_closed : (s : Numbers) {k i : ℕ} → UpTo w H k i → Fits w H start s i → Fits w H start s k
  fits_closed s {k} {i} u f j l = le_trans (vector_grows u j l) (f j l)

  -- what change i makes it depends on
  pub made_needed : (i c : ℕ) → c < w → (H i).writes c ≡ true → made H start i c ≤ vector w H start i c
  made_needed i c l e = (vector_greatest w H start i c l).above i (inl refl) e

  -- and no later state of that card
  pub vector_own : (i c : ℕ) → c < w → (H i).writes c ≡ true → vector w H start i c ≡ made H start i c
  vector_own i c l e = le_antisymm (by_cases (dec_lt 0 (vector w H start i c)) (λ z. bound ((vector_greatest w H start i c l).met z)) (λ z. omega (arith, z))) (made_needed i c l e)
    where
      bound : Makes H start (λ t. UpTo w H t i) c (vector w H start i c) → vector w H start i c ≤ made H start i c
      bound m = omega (arith, m.3, found_mono H start c (up_to_le m.1))

module _ (w : ℕ) (H : History) (start : Numbers) (n : ℕ) (v : ℕ → ℕ → Vector) (isv : IsVector w H start n v) (s : Numbers) where
  pub line_is_lem : (c : ℕ) → Climbed (λ x. orphan w s (v c x)) (start c) (start c + writers H c n) (line w H start n v s c)
  line_is_lem c = line_climbed w s (v c) (start c) (start c + writers H c n) (omega arith)

  -- a state is no orphan exactly where its maker fits
  pub unhit_fits : (i c : ℕ) → i < n → c < w → (H i).writes c ≡ true → orphan w s (v c (made H start i c)) ≡ false → Fits w H start s i
  unhit_fits i c h l e o j lj = rw (vector_agrees w H start n v isv i c j h l lj e) at (kept w s (v c (made H start i c)) o j lj)

  pub fits_unhit : (i c : ℕ) → i < n → c < w → (H i).writes c ≡ true → Fits w H start s i → orphan w s (v c (made H start i c)) ≡ false
  fits_unhit i c h l e f = no_orphan w s (v c (made H start i c)) (λ j lj. rw (vector_agrees w H start n v isv i c j h l lj e) (f j lj))

  -- a change is on a card that it wrote exactly where it fits
  pub on_fits : (i c : ℕ) → i < n → c < w → (H i).writes c ≡ true → made H start i c ≤ line w H start n v s c → Fits w H start s i
  on_fits i c h l e z = unhit_fits i c h l e ((line_is_lem c).free (made H start i c) (omega arith) z)

  pub fits_on : (i c : ℕ) → i < n → c < w → (H i).writes c ≡ true → Fits w H start s i → made H start i c ≤ line w H start n v s c
  fits_on i c h l e f =
      (line_is_lem c).greatest (made H start i c) (omega arith) (made_found H start c h e) (λ y a b. below y a b)
    where
      below : (y : ℕ) → start c < y → y ≤ made H start i c → orphan w s (v c y) ≡ false
      below y a b =
          let m : Maker H start n c y = maker H start n c y a (omega (arith, b, made_found H start c h e)) in
          let o : m.at ≤ i = makers_order H start c m.wrote e (omega (arith, m.makes, b)) in
          let u : UpTo w H m.at i = by_cases (ℕ_discrete m.at i) (λ (q : m.at ≡ i). inl q) (λ q. inr (writers_precede w H c l (omega (arith, o, q)) m.wrote e)) in
          rw m.makes at (fits_unhit m.at c m.in_history l m.wrote (fits_closed w H start s u f))

  fits_set : Closed w H n (fits w H start s)
  fits_set i h e k p = is_fits w H start s k (fits_closed w H start s (inr p) (fits_is w H start s i e))

  -- the line is what the changes that fit leave
  line_left : (c : ℕ) → c < w → line w H start n v s c ≡ left (fits w H start s) H start n c
  line_left c l =
      le_antisymm
      (told_by_makers H start n c (line w H start n v s c) (left (fits w H start s) H start n c) (line_is_lem c).to_top (omega arith)
      (λ i h e z. in_left w H start n (fits w H start s) fits_set i c h l e (is_fits w H start s i (on_fits i c h l e z))))
      (told_by_makers H start n c (left (fits w H start s) H start n c) (line w H start n v s c) (left_top H start n (fits w H start s) c) (line_is_lem c).from_base
      (λ i h e z. fits_on i c h l e (fits_is w H start s i (left_in w H start n (fits w H start s) fits_set i c h l e z))))

  line_within : ((c : ℕ) → c < w → start c ≤ s c) → (c : ℕ) → c < w → line w H start n v s c ≤ s c
  line_within b c l =
      told_by_makers H start n c (line w H start n v s c) (s c) (line_is_lem c).to_top (b c l)
      (λ i h e z. le_trans (made_needed w H start i c l e) (on_fits i c h l e z c l))

  pub line_cut : ((c : ℕ) → c < w → start c ≤ s c) → Cut w H start n s (line w H start n v s)
  line_cut b =
      record {
        consistent = record { set = fits w H start s; closed = fits_set; leaves = line_left };
        within = line_within b;
      }

  -- the changes of a cut fit
  cut_fits : (g : Numbers) (k : Cut w H start n s g) (i : ℕ) → i < n → k.consistent.set i ≡ true → Fits w H start s i
  cut_fits g k i h p j l = by_cases (dec_lt 0 (vector w H start i j)) (λ z. reached ((vector_greatest w H start i j l).met z)) (λ z. omega (arith, z))
    where
      member : (t : ℕ) → UpTo w H t i → k.consistent.set t ≡ true
      member t u = ⊎_elim (λ (q : t ≡ i). rw q p) (λ (q : Precedes w H t i). k.consistent.closed i h p t q) u

      reached : Makes H start (λ t. UpTo w H t i) j (vector w H start i j) → vector w H start i j ≤ s j
      reached m =
          omega (
            arith,
            m.3,
            in_left w H start n k.consistent.set k.consistent.closed m.0 j (omega (arith, h, up_to_le m.1)) l m.2 (member m.0 m.1),
            k.consistent.leaves j l,
            k.within j l,
          )

  pub cut_below : (g : Numbers) → Cut w H start n s g → (c : ℕ) → c < w → g c ≤ line w H start n v s c
  cut_below g k c l =
      rw (k.consistent.leaves c l)
      (told_by_makers H start n c (left P H start n c) (line w H start n v s c) (left_top H start n P c) (line_is_lem c).from_base
      (λ i h e z. fits_on i c h l e (cut_fits g k i h (left_in w H start n P k.consistent.closed i c h l e z))))
    where
      P : ℕ → Bool
      P = k.consistent.set

  -- the rule per card, as an engine runs it, from any base that is not above the line to any top that is not below it
  pub rule_from : (c base reached : ℕ) → start c ≤ base → base ≤ line w H start n v s c → line w H start n v s c ≤ reached → reached ≤ start c + writers H c n
      → line_from w s (v c) base reached ≡ line w H start n v s c
  rule_from c base reached a b d e =
      climbed_unique (line_climbed w s (v c) base reached (omega arith)) (climbed_from base reached (line_is_lem c) a b d e)

  -- what a change that fits depends on is in the line
  pub fits_line : (i : ℕ) → i < n → Fits w H start s i → (j : ℕ) → j < w → vector w H start i j ≤ line w H start n v s j
  fits_line i h f j l = by_cases (dec_lt 0 (vector w H start i j)) (λ z. reached ((vector_greatest w H start i j l).met z)) (λ z. omega (arith, z))
    where
      reached : Makes H start (λ t. UpTo w H t i) j (vector w H start i j) → vector w H start i j ≤ line w H start n v s j
      reached m = omega (arith, m.3, fits_on m.0 j (omega (arith, h, up_to_le m.1)) l m.2 (fits_closed w H start s m.1 f))

-- greater stored numbers never lower the line
pub line_mono : (w : ℕ) (H : History) (start : Numbers) (n : ℕ) (v : ℕ → ℕ → Vector) → IsVector w H start n v → (s s' : Numbers)
    → ((c : ℕ) → c < w → s c ≤ s' c) → (c : ℕ) → c < w → line w H start n v s c ≤ line w H start n v s' c
line_mono w H start n v isv s s' le c l =
    told_by_makers H start n c (line w H start n v s c) (line w H start n v s' c) (line_is_lem w H start n v isv s c).to_top (line_is_lem w H start n v isv s' c).from_base
    (λ i h e z. fits_on w H start n v isv s' i c h l e (λ j lj. le_trans (on_fits w H start n v isv s i c h l e z j lj) (le j lj)))

-- stored numbers between the line and the old ones give the same line
pub line_between : (w : ℕ) (H : History) (start : Numbers) (n : ℕ) (v : ℕ → ℕ → Vector) → IsVector w H start n v → (s s' : Numbers)
    → ((c : ℕ) → c < w → line w H start n v s c ≤ s' c) → ((c : ℕ) → c < w → s' c ≤ s c) → (c : ℕ) → c < w → line w H start n v s' c ≡ line w H start n v s c
line_between w H start n v isv s s' low high c l =
    le_antisymm (line_mono w H start n v isv s' s high c l)
    (told_by_makers H start n c (line w H start n v s c) (line w H start n v s' c) (line_is_lem w H start n v isv s c).to_top (line_is_lem w H start n v isv s' c).from_base
    (λ i h e z. fits_on w H start n v isv s' i c h l e (λ j lj. le_trans (fits_line w H start n v isv s i h (on_fits w H start n v isv s i c h l e z) j lj) (low j lj))))
