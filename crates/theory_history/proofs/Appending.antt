-- Appending a change to the history alters no earlier vector, and a cut stays one. Assumes nothing.
use Prim.Native.Nat.{ℕ, zero, suc, ◌+◌, ◌≤◌, ◌<◌}
use mathlib.Core.Path.{◌≡◌, refl, sym, ◌∙◌, ap, ap₂}
use mathlib.Core.Bool.{Bool, true, ◌&&◌}
use native.Mathlib.Nat.{lt_trans, le_step, lt-suc_self}
use native.Mathlib.Omega.{arith}
use lib.Dec.{ltb}
use borrow.Author.Tests.{ltb-true, lt-ltb, le-ltb, ne_eqb}
use Rattle.base_laws.specs.Below.{one_if}
use Rattle.base_laws.proofs.Logic.{and_left, and_right, and_intro}
use Rattle.base_laws.proofs.Below.{count_same}
use Rattle.theory_history.specs.Change.{Change, History, Numbers, meets, writers, Precedes, direct, chain, Closed, writers_in, Cut, appended, no_change, history_of, made}
use mathlib.Core.List.{List, [], ◌∷◌, ◌++◌}
use native.Mathlib.Numerals.{add-one}
use lib.ListN.{length, length-append, get_or-append}
use lib.Seq.{get_or-append_seam}
use Rattle.theory_history.proofs.Vectors.{frame_is}
use Rattle.theory_history.specs.Vector.{Tracked, vector_of, taken, after, vector, state_vector}
use Rattle.theory_history.proofs.Precedence.{forward}

-- two histories with the same first n changes
abbrev pub Agree : History → History → ℕ → Type 0
Agree H H' n = (i : ℕ) → i < n → H i ≡ H' i

pub agree_less : (H H' : History) {k n : ℕ} → k ≤ n → Agree H H' n → Agree H H' k
agree_less H H' h a i l = a i (omega arith)

pub agree_sym : (H H' : History) (n : ℕ) → Agree H H' n → Agree H' H n
agree_sym H H' n a i l = sym (a i l)

pub appended_agree : (H : History) (n : ℕ) (t : Change) → Agree H (appended H n t) n
appended_agree H n t i l = rw (ne_eqb i n (λ (q : i ≡ n). absurd (omega arith)))

module _ (w : ℕ) (H H' : History) (start : Numbers) where
  pub after_agree : (n : ℕ) → Agree H H' n → after w H start n ≡ after w H' start n
  after_agree zero a = refl
  after_agree (suc n) a =
      ap₂ (λ (h : Tracked) (t : Change). taken h t (vector_of w h t)) (after_agree n (λ i l. a i (le_step l))) (a n (lt-suc_self n))

  pub vector_agree : (n i : ℕ) → Agree H H' n → i < n → vector w H start i ≡ vector w H' start i
  vector_agree n i a l = ap₂ (λ (h : Tracked) (t : Change). vector_of w h t) (after_agree i (agree_less H H' (omega arith) a)) (a i l)

  pub precedes_agree : (n : ℕ) → Agree H H' n → {k i : ℕ} → i < n → Precedes w H k i → Precedes w H' k i
  precedes_agree n a {k} {i} h (direct c l z e) =
      direct c l z (ap₂ (λ (s t : Change). meets s t c) (sym (a k (lt_trans z h))) (sym (a i h)) ∙ e)
  precedes_agree n a h (chain p q) = chain (precedes_agree n a (lt_trans (forward q) h) p) (precedes_agree n a h q)

  pub writers_agree : (n c : ℕ) → Agree H H' n → writers H c n ≡ writers H' c n
  writers_agree n c a = count_same n (λ i. (H i).writes c) (λ i. (H' i).writes c) (λ i l. ap (λ (t : Change). t.writes c) (a i l))

-- a cut of the first n changes is one of one change more
pub cut_kept : (w : ℕ) (H H' : History) (start : Numbers) (n : ℕ) (stored g : Numbers) → Agree H H' n → Cut w H start n stored g → Cut w H' start (suc n) stored g
cut_kept w H H' start n stored g a k =
    record { consistent = record { set = P; closed = closed; leaves = λ c l. k.consistent.leaves c l ∙ ap (λ (x : ℕ). start c + x) (counts c) }; within = k.within }
  where
    old : ℕ → Bool
    old = k.consistent.set

    P : ℕ → Bool
    P i = ltb i n && old i

    closed : Closed w H' (suc n) P
    closed i h e t p =
        let z : i < n = ltb-true i n (and_left (ltb i n) (old i) e) in
        and_intro (lt-ltb t n (lt_trans (forward p) z))
        (k.consistent.closed i z (and_right (ltb i n) (old i) e) t (precedes_agree w H' H start n (agree_sym H H' n a) z p))

    counts : (c : ℕ) → writers_in old H c n ≡ writers_in P H' c (suc n)
    counts c =
        let z : one_if (P n && (H' n).writes c) ≡ 0 = ap (λ (b : Bool). one_if (b && old n && (H' n).writes c)) (le-ltb n n (omega arith)) in
        omega (
          arith,
          count_same n (λ i. old i && (H i).writes c) (λ i. P i && (H' i).writes c)
              (λ i l. ap₂ (λ (b : Bool) (t : Change). b && old i && t.writes c) (sym (lt-ltb i n l)) (a i l)),
        )

-- the vector of a state that was made stays
pub frames_kept : (w : ℕ) (H H' : History) (start : Numbers) (n : ℕ) → Agree H H' n → (i c : ℕ) → i < n → (H i).writes c ≡ true
    → state_vector w H' start (suc n) c (made H start i c) ≡ state_vector w H start n c (made H start i c)
frames_kept w H H' start n a i c h e =
    ap (λ (x : ℕ). state_vector w H' start (suc n) c (suc (start c + x))) (writers_agree w H H' start i c (agree_less H H' (omega arith) a))
    ∙ frame_is w H' start (suc n) i c (le_step h) (ap (λ (t : Change). t.writes c) (sym (a i h)) ∙ e)
    ∙ sym (vector_agree w H H' start n i a h) ∙ sym (frame_is w H start n i c h e)

-- a list that grows at its end: the history that it was, and the change decided
pub grown_agree : (l : List Change) (t : Change) → Agree (history_of l) (history_of (l ++ t ∷ [])) (length l)
grown_agree l t i h = sym (get_or-append l (t ∷ []) no_change i h)

pub grown_last : (l : List Change) (t : Change) → history_of (l ++ t ∷ []) (length l) ≡ t
grown_last l t = get_or-append_seam l t [] no_change

pub grown_length : (l : List Change) (t : Change) → length (l ++ t ∷ []) ≡ suc (length l)
grown_length l t = length-append l (t ∷ []) ∙ add-one (length l)
