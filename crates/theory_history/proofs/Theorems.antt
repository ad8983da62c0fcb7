-- The theorems of histories, for any number of cards, any history and any stored numbers. Assumes nothing.
use Prim.Native.Nat.{ℕ, suc, ◌+◌, ◌≤◌, ◌<◌}
use mathlib.Core.Path.{◌≡◌, refl, sym, ap}
use mathlib.Core.Bool.{Bool, true, not, ◌&&◌, ◌||◌}
use mathlib.Core.Logic.{◌↔◌, ⊎_elim}
use native.Mathlib.Nat.{lt_trans}
use native.Mathlib.Omega.{arith}
use lib.Dec.{leb, eqb}
use borrow.Author.Tests.{leb-true, le-leb, eqb-true, eq-eqb}
use Rattle.base_laws.specs.Below.{one_if, greatest, occurs}
use Rattle.base_laws.specs.Order.{InRisingOrder, StandsBefore}
use Rattle.base_laws.proofs.Logic.{test, clash, and_left, and_right, and_intro, or_left, or_right, or_elim, not_true, not_intro, fails}
use Rattle.base_laws.proofs.Below.{Found, any_elim, any_intro, all_at, all_intro, greatest_above}
use Rattle.base_laws.proofs.Order.{those_once, those_rise, stands_before}
use Rattle.theory_history.specs.Change.{Change, History, Numbers, writers, made, Precedes, NumbersRise, ConsistentCut, Cut, On, appended}
use Rattle.theory_history.specs.Report.{Before, StateBefore, Consistent, Global, RecoveryLine}
use Rattle.theory_history.specs.Vector.{Vector, vector, state_vector, IsVector}
use Rattle.theory_history.specs.Line.{orphan, Climbed, line, line_from, wrote, in_line, lost, is_lost_number, lost_numbers}
use Rattle.theory_history.proofs.Climb.{line_climbed}
use Rattle.theory_history.proofs.Precedence.{forward, precedes_rises, by_document, by_report}
use Rattle.theory_history.proofs.Entries.{state_vector_is}
use Rattle.theory_history.proofs.Cuts.{in_left, left_in}
use Rattle.theory_history.proofs.Lines.{line_cut, cut_below, on_fits, fits_on, line_mono, line_between, rule_from}
use Rattle.theory_history.proofs.Executions.{consistent_cut, cut_consistent}
use Rattle.theory_history.proofs.Reports as Reports
use Rattle.theory_history.proofs.Appending as Appending

-- ---- 1. the report's definitions and document 01's are the same
-- precedence by Definition 1 is precedence by document 01
pub same_precedence : (w : ℕ) (H : History) (start : Numbers) (t t' : ℕ) → Before w H start t t' ↔ Precedes w H t t'
same_precedence w H start t t' = (by_document w H start, by_report w H start)

-- a state consistent by Definition 3 is a cut without the bound of stored, and the other way round
pub same_consistency : (w : ℕ) (H : History) (start : Numbers) (n : ℕ) (g : Numbers) → Consistent w H start n g ↔ ConsistentCut w H start n g
same_consistency w H start n g = (consistent_cut w H start n g, cut_consistent w H start n g)

-- ---- 2. the vectors that document 01's call 3 works out, left to right, are: for every card its last state that precedes by Definition 2, or none
pub vectors_right : (w : ℕ) (H : History) (start : Numbers) (n : ℕ) → IsVector w H start n (state_vector w H start n)
vectors_right w H start n = state_vector_is w H start n

-- ---- 3. the line, over any vectors that are the vectors
-- the line is a cut
pub line_is_cut : (w : ℕ) (H : History) (start : Numbers) (n : ℕ) (v : ℕ → ℕ → Vector) → IsVector w H start n v → (stored : Numbers)
    → ((c : ℕ) → c < w → start c ≤ stored c) → Cut w H start n stored (line w H start n v stored)
line_is_cut w H start n v isv stored low = line_cut w H start n v isv stored low

-- every cut is on no card above it
pub line_greatest : (w : ℕ) (H : History) (start : Numbers) (n : ℕ) (v : ℕ → ℕ → Vector) → IsVector w H start n v → (stored g : Numbers)
    → Cut w H start n stored g → (c : ℕ) → c < w → g c ≤ line w H start n v stored c
line_greatest w H start n v isv stored g k c l = cut_below w H start n v isv stored g k c l

-- a change is on all the cards it wrote or on none: in the line, and in every consistent cut
pub line_whole : (w : ℕ) (H : History) (start : Numbers) (n : ℕ) (v : ℕ → ℕ → Vector) → IsVector w H start n v → (stored : Numbers)
    → (i c c' : ℕ) → i < n → c < w → c' < w → (H i).writes c ≡ true → (H i).writes c' ≡ true
    → On H start (line w H start n v stored) i c → On H start (line w H start n v stored) i c'
line_whole w H start n v isv stored i c c' h l l' e e' z = fits_on w H start n v isv stored i c' h l' e' (on_fits w H start n v isv stored i c h l e z)

pub cut_whole : (w : ℕ) (H : History) (start : Numbers) (n : ℕ) (g : Numbers) → ConsistentCut w H start n g
    → (i c c' : ℕ) → i < n → c < w → c' < w → (H i).writes c ≡ true → (H i).writes c' ≡ true → On H start g i c → On H start g i c'
cut_whole w H start n g k i c c' h l l' e e' z =
    rw (k.leaves c' l')
    (in_left w H start n k.set k.closed i c' h l' e' (left_in w H start n k.set k.closed i c h l e (rw (k.leaves c l) at z)))

-- a change is lost exactly where it wrote a card and is on none of the cards that it wrote
pub lost_absent : (w : ℕ) (H : History) (start : Numbers) (n : ℕ) (v : ℕ → ℕ → Vector) → IsVector w H start n v → (stored : Numbers) (i : ℕ) → i < n
    → lost w H start (line w H start n v stored) i ≡ true
    ↔ (wrote w (H i) ≡ true) × ((c : ℕ) → c < w → (H i).writes c ≡ true → ¬ (On H start (line w H start n v stored) i c))
lost_absent w H start n v isv stored i h = (absent, missing)
  where
    l : Numbers
    l = line w H start n v stored

    on : ℕ → Bool
    on c = not ((H i).writes c) || leb (made H start i c) (l c)

    absent : lost w H start l i ≡ true → (wrote w (H i) ≡ true) × ((c : ℕ) → c < w → (H i).writes c ≡ true → ¬ (On H start l i c))
    absent e = (
      and_left (wrote w (H i)) (not (in_line w H start l i)) e,
      λ c lc d z. clash
          (all_intro w on (λ c' l'. test ((H i).writes c') (λ d'. or_right (not ((H i).writes c')) (le-leb (made H start i c') (l c') (line_whole w H start n v isv stored i c c' h lc l' d d' z)))
          (λ d'. or_left (leb (made H start i c') (l c')) (not_intro d'))))
          (not_true (in_line w H start l i) (and_right (wrote w (H i)) (not (in_line w H start l i)) e)),
    )

    missing : (wrote w (H i) ≡ true) × ((c : ℕ) → c < w → (H i).writes c ≡ true → ¬ (On H start l i c)) → lost w H start l i ≡ true
    missing p =
        let r : Found w (H i).writes = any_elim w (H i).writes p.0 in
        and_intro p.0
        (not_intro (fails (in_line w H start l i) (λ t.
        ⊎_elim (λ (z : not ((H i).writes r.0) ≡ true). clash r.2 (not_true ((H i).writes r.0) z))
        (λ (z : leb (made H start i r.0) (l r.0) ≡ true). p.1 r.0 r.1 r.2 (leb-true (made H start i r.0) (l r.0) z))
        (or_elim (not ((H i).writes r.0)) (leb (made H start i r.0) (l r.0)) (all_at w on t r.0 r.1)))))

-- the report's Theorem 1, as printed: "A global database state G is consistent iff" no state of it precedes another
pub report_theorem_1 : (w : ℕ) (H : History) (start : Numbers) (n : ℕ) (g : Numbers) → Global w H start n g
    → Consistent w H start n g ↔ ((i j : ℕ) → i < w → j < w → ¬ (StateBefore w H start n i (g i) j (g j)))
report_theorem_1 w H start n g global = Reports.theorem_1 w H start n g global

-- the report's Theorem 2, as printed: what it determines is the most recent of the consistent global states that are stored, and there is one
pub report_theorem_2 : (w : ℕ) (H : History) (start : Numbers) (n : ℕ) (last r : Numbers) → Global w H start n last → RecoveryLine w H start n last r
    → Consistent w H start n r × ((c : ℕ) → c < w → r c ≤ last c)
    × ((g : Numbers) → Consistent w H start n g → ((c : ℕ) → c < w → g c ≤ last c) → (c : ℕ) → c < w → g c ≤ r c)
report_theorem_2 w H start n last r global k = (consistent, within, greatest)
  where
    v : ℕ → ℕ → Vector
    v = state_vector w H start n

    isv : IsVector w H start n v
    isv = vectors_right w H start n

    same : (c : ℕ) → c < w → r c ≡ line w H start n v last c
    same = Reports.recovers_line w H start n last r global k

    cut : Cut w H start n last (line w H start n v last)
    cut = line_cut w H start n v isv last (λ c l. (global c l).0)

    consistent : Consistent w H start n r
    consistent = cut_consistent w H start n r (Reports.cut_same w H start n (line w H start n v last) r same cut.consistent)

    within : (c : ℕ) → c < w → r c ≤ last c
    within c l = rw (same c l) (cut.within c l)

    greatest : (g : Numbers) → Consistent w H start n g → ((c : ℕ) → c < w → g c ≤ last c) → (c : ℕ) → c < w → g c ≤ r c
    greatest g q b c l = rw (same c l) (cut_below w H start n v isv last g (record { consistent = consistent_cut w H start n g q; within = b }) c l)

pub report_theorem_2_exists : (w : ℕ) (H : History) (start : Numbers) (n : ℕ) (last : Numbers) → Global w H start n last
    → RecoveryLine w H start n last (line w H start n (state_vector w H start n) last)
report_theorem_2_exists w H start n last global = Reports.line_recovers w H start n last global

-- the numbers of the changes lost: none is above the greatest of the history
pub lost_number_below : (w : ℕ) (H : History) (start : Numbers) (n : ℕ) (l : Numbers) (k : ℕ) → is_lost_number w H start n l k ≡ true → k ≤ greatest n (λ i. (H i).number)
lost_number_below w H start n l k e =
    let f : Found n (λ i. lost w H start l i && eqb (H i).number k) = any_elim n (λ i. lost w H start l i && eqb (H i).number k) e in
    let q : (H f.0).number ≡ k = eqb-true (H f.0).number k (and_right (lost w H start l f.0) (eqb (H f.0).number k) f.2) in
    omega (arith, q, greatest_above n (λ i. (H i).number) f.0 f.1)

-- each that a lost change has stands among them once, and no other does
pub lost_numbers_lem : (w : ℕ) (H : History) (start : Numbers) (n : ℕ) (l : Numbers) (k : ℕ) → occurs k (lost_numbers w H start n l) ≡ one_if (is_lost_number w H start n l k)
lost_numbers_lem w H start n l k =
    those_once (is_lost_number w H start n l) (suc (greatest n (λ i. (H i).number))) k (λ e. let b : k ≤ greatest n (λ i. (H i).number) = lost_number_below w H start n l k e in omega arith)

-- they rise
pub lost_numbers_rise : (w : ℕ) (H : History) (start : Numbers) (n : ℕ) (l : Numbers) → InRisingOrder (lost_numbers w H start n l)
lost_numbers_rise w H start n l = those_rise (is_lost_number w H start n l) (suc (greatest n (λ i. (H i).number)))

-- and where numbers rise as changes meet, of two lost changes the one that precedes the other stands first
pub builds_on : (w : ℕ) (H : History) (start : Numbers) (n : ℕ) (l : Numbers) → NumbersRise w H n → (k i : ℕ) → i < n → Precedes w H k i
    → lost w H start l k ≡ true → lost w H start l i ≡ true → StandsBefore (H k).number (H i).number (lost_numbers w H start n l)
builds_on w H start n l r k i h p a b =
    stands_before (lost_numbers w H start n l) (H k).number (H i).number (lost_numbers_rise w H start n l) (stands k (lt_trans (forward p) h) a) (stands i h b) (precedes_rises r h p)
  where
    stands : (j : ℕ) → j < n → lost w H start l j ≡ true → 0 < occurs (H j).number (lost_numbers w H start n l)
    stands j u e =
        let t : is_lost_number w H start n l (H j).number ≡ true = any_intro n (λ x. lost w H start l x && eqb (H x).number (H j).number) j u (and_intro e (eq-eqb (H j).number (H j).number refl)) in
        omega (arith, lost_numbers_lem w H start n l (H j).number, ap one_if t)

-- ---- 4. how the line and the vectors move
-- greater stored numbers never lower the line
pub line_monotone : (w : ℕ) (H : History) (start : Numbers) (n : ℕ) (v : ℕ → ℕ → Vector) → IsVector w H start n v → (stored stored' : Numbers)
    → ((c : ℕ) → c < w → stored c ≤ stored' c) → (c : ℕ) → c < w → line w H start n v stored c ≤ line w H start n v stored' c
line_monotone w H start n v isv stored stored' le c l = line_mono w H start n v isv stored stored' le c l

-- stored numbers between the line and the old ones give the same line
pub line_sandwich : (w : ℕ) (H : History) (start : Numbers) (n : ℕ) (v : ℕ → ℕ → Vector) → IsVector w H start n v → (stored stored' : Numbers)
    → ((c : ℕ) → c < w → line w H start n v stored c ≤ stored' c) → ((c : ℕ) → c < w → stored' c ≤ stored c)
    → (c : ℕ) → c < w → line w H start n v stored' c ≡ line w H start n v stored c
line_sandwich w H start n v isv stored stored' low high c l = line_between w H start n v isv stored stored' low high c l

-- appending a change alters no earlier vector
pub append_vectors : (w : ℕ) (H : History) (start : Numbers) (n : ℕ) (t : Change) (i : ℕ) → i < n → vector w (appended H n t) start i ≡ vector w H start i
append_vectors w H start n t i h =
    sym (Appending.vector_agree w H (appended H n t) start n i (Appending.appended_agree H n t) h)

-- nor the vector of a state that was made
pub append_frames : (w : ℕ) (H : History) (start : Numbers) (n : ℕ) (t : Change) (i c : ℕ) → i < n → (H i).writes c ≡ true
    → state_vector w (appended H n t) start (suc n) c (made H start i c) ≡ state_vector w H start n c (made H start i c)
append_frames w H start n t i c h e = Appending.frames_kept w H (appended H n t) start n (Appending.appended_agree H n t) i c h e

-- and a cut stays one
pub append_cut : (w : ℕ) (H : History) (start : Numbers) (n : ℕ) (t : Change) (stored g : Numbers) → Cut w H start n stored g → Cut w (appended H n t) start (suc n) stored g
append_cut w H start n t stored g k = Appending.cut_kept w H (appended H n t) start n stored g (Appending.appended_agree H n t) k

-- ---- 5. the rule per card answers what it says: the greatest state from base to reached with no hit from base + 1 up to it
pub rule_greatest : (w : ℕ) (stored : Numbers) (frames : ℕ → Vector) (base reached : ℕ) → base ≤ reached
    → Climbed (λ s. orphan w stored (frames s)) base reached (line_from w stored frames base reached)
rule_greatest w stored frames base reached h = line_climbed w stored frames base reached h

-- the rule per card, as an engine runs it, from base to reached, gives that line where base is not above the line there
pub rule_is_line : (w : ℕ) (H : History) (start : Numbers) (n : ℕ) (v : ℕ → ℕ → Vector) → IsVector w H start n v → (stored : Numbers) (c base reached : ℕ)
    → start c ≤ base → base ≤ line w H start n v stored c → line w H start n v stored c ≤ reached → reached ≤ start c + writers H c n
    → line_from w stored (v c) base reached ≡ line w H start n v stored c
rule_is_line w H start n v isv stored c base reached a b d e = rule_from w H start n v isv stored c base reached a b d e
