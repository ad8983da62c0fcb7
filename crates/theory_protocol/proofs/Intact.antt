-- What a line is worked out from: bases, stored and reached numbers, and the vectors of the states in hand. Where these are right, the rule per card gives the
-- line of the history. Trim, roll and restart leave them right. Assumes nothing.
use Prim.Native.Nat.{ℕ, ◌+◌, ◌≤◌, ◌<◌}
use mathlib.Core.Path.{◌≡◌, sym, ◌∙◌, ap}
use mathlib.Core.Bool.{true}
use native.Mathlib.Nat.{le_trans, le_antisymm, le_of_eq}
use native.Mathlib.Omega.{arith}
use Rattle.base_laws.proofs.Below.{any_same}
use Rattle.theory_history.specs.Change.{History, Numbers, writers, made}
use Rattle.theory_history.specs.Vector.{Vector, entry_of, vector, state_vector, IsVector}
use Rattle.theory_history.specs.Line.{at_or_above, orphan, line_from, line}
use Rattle.theory_history.proofs.Writers.{Maker, maker}
use Rattle.theory_history.proofs.Vectors.{frame_is}
use Rattle.theory_history.proofs.Climb.{line_climbed, climbed_same, climbed_unique}
use Rattle.theory_history.proofs.Cuts.{told_by_makers}
use Rattle.theory_history.proofs.Entries.{state_vector_is}
use Rattle.theory_history.proofs.Lines.{line_is_lem, fits_on, on_fits, fits_line, line_mono, line_between, rule_from}
use Rattle.theory_protocol.proofs.Taking.{Based}

-- the line of the first n changes of a history for stored numbers s
abbrev pub line_at : ℕ → History → Numbers → ℕ → Numbers → Numbers
line_at w H start n s = line w H start n (state_vector w H start n) s

-- right for the line of stored numbers s
pub record Intact (w : ℕ) (H : History) (start : Numbers) (n : ℕ) (s base stored reached : Numbers) (frame : ℕ → ℕ → Vector) : Type 0 where
  pub from_start : (c : ℕ) → c < w → start c ≤ base c
  pub base_line : (c : ℕ) → c < w → base c ≤ line_at w H start n s c
  pub line_stored : (c : ℕ) → c < w → line_at w H start n s c ≤ stored c
  pub stored_least : (c : ℕ) → c < w → stored c ≤ s c
  pub stored_reached : (c : ℕ) → c < w → stored c ≤ reached c
  pub reached_top : (c : ℕ) → c < w → reached c ≤ start c + writers H c n
  pub vectors : (i c j : ℕ) → i < n → c < w → j < w → (H i).writes c ≡ true → base c < made H start i c → made H start i c ≤ reached c → frame c (made H start i c) j ≡ vector w H start i j

module _ (w : ℕ) (H : History) (start : Numbers) (n : ℕ) where
  -- the same states are orphans
  same_orphans : (s : Numbers) (frames frames' : ℕ → Vector) (x : ℕ) → ((j : ℕ) → j < w → frames x j ≡ frames' x j) → orphan w s (frames x) ≡ orphan w s (frames' x)
  same_orphans s frames frames' x e =
      any_same w (λ j. at_or_above (entry_of (frames x j)) (s j)) (λ j. at_or_above (entry_of (frames' x j)) (s j)) (λ j l. ap (λ (d : ℕ). at_or_above (entry_of d) (s j)) (e j l))

  -- the rule per card gives the line
  pub bridge : {s base stored reached : Numbers} {frame : ℕ → ℕ → Vector} → Intact w H start n s base stored reached frame
      → (c : ℕ) → c < w → line_from w stored (frame c) (base c) (reached c) ≡ line_at w H start n s c
  bridge {s} {base} {stored} {reached} {frame} k c l =
      climbed_unique (climbed_same same (line_climbed w stored (frame c) (base c) (reached c) (omega (arith, k.base_line c l, k.line_stored c l, k.stored_reached c l))))
      (line_climbed w stored (v c) (base c) (reached c) (omega (arith, k.base_line c l, k.line_stored c l, k.stored_reached c l)))
      ∙ rule_from w H start n v (state_vector_is w H start n) stored c (base c) (reached c) (k.from_start c l)
      (rw (between c l) (k.base_line c l)) (rw (between c l) (le_trans (k.line_stored c l) (k.stored_reached c l))) (k.reached_top c l)
      ∙ between c l
    where
      v : ℕ → ℕ → Vector
      v = state_vector w H start n

      between : (d : ℕ) → d < w → line_at w H start n stored d ≡ line_at w H start n s d
      between = line_between w H start n v (state_vector_is w H start n) s stored k.line_stored k.stored_least

      same : (y : ℕ) → base c < y → y ≤ reached c → orphan w stored (frame c y) ≡ orphan w stored (v c y)
      same y a b =
          let m : Maker H start n c y = maker H start n c y (omega (arith, a, k.from_start c l)) (omega (arith, b, k.reached_top c l)) in
          same_orphans stored (frame c) (v c) y
          (λ j lj. ap (λ (x : ℕ). frame c x j) (sym m.makes) ∙ k.vectors m.at c j m.in_history l lj m.wrote (omega (arith, m.makes, a)) (omega (arith, m.makes, b))
          ∙ sym (ap (λ (x : ℕ). v c x j) (sym m.makes) ∙ ap (λ (u : Vector). u j) (frame_is w H start n m.at c m.in_history m.wrote)))

  -- fewer states in hand, and lower stored numbers, that keep the line
  pub intact_lower : {s base stored reached base' stored' reached' : Numbers} {frame frame' : ℕ → ℕ → Vector} → Intact w H start n s base stored reached frame
      → ((c : ℕ) → c < w → base c ≤ base' c) → ((c : ℕ) → c < w → base' c ≤ line_at w H start n s c) → ((c : ℕ) → c < w → line_at w H start n s c ≤ stored' c)
      → ((c : ℕ) → c < w → stored' c ≤ stored c) → ((c : ℕ) → c < w → stored' c ≤ reached' c) → ((c : ℕ) → c < w → reached' c ≤ reached c)
      → ((c x j : ℕ) → c < w → j < w → base' c < x → x ≤ reached' c → frame' c x j ≡ frame c x j) → Intact w H start n s base' stored' reached' frame'
  intact_lower {s} {base} {stored} {reached} {base'} {stored'} {reached'} {frame} {frame'} k a b d e f g same =
      record {
        from_start = λ c l. le_trans (k.from_start c l) (a c l);
        base_line = b;
        line_stored = d;
        stored_least = λ c l. le_trans (e c l) (k.stored_least c l);
        stored_reached = f;
        reached_top = λ c l. le_trans (g c l) (k.reached_top c l);
        vectors = λ i c j h l lj w' y z. same c (made H start i c) j l lj y z ∙ k.vectors i c j h l lj w' (omega (arith, a c l, y)) (omega (arith, g c l, z));
      }

  -- what fits the bases is in every line above them
  pub based_line : {base s : Numbers} → Based w H start n base → ((c : ℕ) → c < w → base c ≤ start c + writers H c n) → ((c : ℕ) → c < w → base c ≤ s c)
      → (c : ℕ) → c < w → base c ≤ line_at w H start n s c
  based_line {base} {s} b top le c l =
      told_by_makers H start n c (base c) (line_at w H start n s c) (top c l) (line_is_lem w H start n v isv s c).from_base
      (λ i h e z. fits_on w H start n v isv s i c h l e (λ j lj. le_trans (b.cut i c j h l lj e z) (le j lj)))
    where
      v : ℕ → ℕ → Vector
      v = state_vector w H start n

      isv : IsVector w H start n v
      isv = state_vector_is w H start n

  -- the line is a base
  pub line_based : (s : Numbers) → Based w H start n (line_at w H start n s)
  line_based s =
      record {
        cut = λ i c j h l lj e z. fits_line w H start n (state_vector w H start n) (state_vector_is w H start n) s i h
            (on_fits w H start n (state_vector w H start n) (state_vector_is w H start n) s i c h l e z) j lj;
      }

  -- the line goes by the stored numbers of the cards alone
  pub line_same : (s s' : Numbers) → ((c : ℕ) → c < w → s c ≡ s' c) → (c : ℕ) → c < w → line_at w H start n s c ≡ line_at w H start n s' c
  line_same s s' e c l =
      le_antisymm (line_mono w H start n v isv s s' (λ d ld. le_of_eq (e d ld)) c l) (line_mono w H start n v isv s' s (λ d ld. le_of_eq (sym (e d ld))) c l)
    where
      v : ℕ → ℕ → Vector
      v = state_vector w H start n

      isv : IsVector w H start n v
      isv = state_vector_is w H start n

  pub intact_same : {s s' base stored reached : Numbers} {frame : ℕ → ℕ → Vector} → ((c : ℕ) → c < w → s c ≡ s' c) → Intact w H start n s base stored reached frame → Intact w H start n s' base stored reached frame
  intact_same {s} {s'} e k =
      record {
        from_start = k.from_start;
        base_line = λ c l. rw (sym (line_same s s' e c l)) (k.base_line c l);
        line_stored = λ c l. rw (sym (line_same s s' e c l)) (k.line_stored c l);
        stored_least = λ c l. rw (sym (e c l)) (k.stored_least c l);
        stored_reached = k.stored_reached;
        reached_top = k.reached_top;
        vectors = k.vectors;
      }
