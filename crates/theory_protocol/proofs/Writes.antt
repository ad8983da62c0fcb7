-- The writes that run: what 28 says of them, and that every call keeps it. Assumes nothing.
use Prim.Native.Nat.{ℕ, suc, ◌-◌, ◌≤◌, ◌<◌}
use mathlib.Core.Path.{◌≡◌, refl, ◌∙◌, ap, subst}
use mathlib.Core.Bool.{Bool, true, false, not, ◌&&◌}
use mathlib.Core.Logic.{by_cases, ⊎_elim}
use native.Mathlib.Omega.{arith}
use native.Mathlib.Decide.{ℕ_discrete}
use lib.Dec.{eqb, leb}
use borrow.Author.Tests.{eqb-true, ne_eqb, eq-eqb, leb-true, le-leb}
use Rattle.base_laws.specs.Below.{all_below}
use Rattle.base_laws.proofs.Logic.{test, clash, and_left, and_right, and_intro, or_left, or_right, or_elim, not_true, not_intro}
use Rattle.base_laws.proofs.Below.{all_at, all_intro}
use Rattle.theory_history.specs.Vector.{Vector}
use Rattle.theory_protocol.specs.Model.{Limits, is_rolling, Model, is_writing, writes_to}
use Rattle.theory_protocol.specs.Valid.{write_valid}
use Rattle.theory_protocol.specs.Edit.{put, grow, keep, begin, end, edited}
use Rattle.theory_protocol.proofs.Taking.{put_same, put_other, put_case}

-- a write that runs: not in phase rolling, and from stored to reached
abbrev pub Runs : Model → ℕ → Type 0
Runs m c = (is_rolling m.phase ≡ false) × (m.numbers.stored c < m.writing c) × (m.writing c ≤ suc (m.numbers.reached c))

abbrev pub Writes : Limits → Model → Type 0
Writes L m = (c : ℕ) → c < L.width → m.present c ≡ true → ¬ (m.writing c ≡ 0) → Runs m c

pub writing_none : (m : Model) (c : ℕ) → is_writing m c ≡ false → m.writing c ≡ 0
writing_none m c e = test (eqb (m.writing c) 0) (λ z. eqb-true (m.writing c) 0 z) (λ z. clash (not_intro z) e)

pub writes_valid : (L : Limits) (m : Model) → Writes L m → all_below L.width (write_valid m) ≡ true
writes_valid L m w = all_intro L.width (write_valid m) one
  where
    one : (c : ℕ) → c < L.width → write_valid m c ≡ true
    one c l =
        test (m.present c && is_writing m c)
        (λ e. let r : Runs m c = w c l (and_left (m.present c) (is_writing m c) e) (λ (z : m.writing c ≡ 0). clash (eq-eqb (m.writing c) 0 z) (not_true (eqb (m.writing c) 0) (and_right (m.present c) (is_writing m c) e))) in
        or_right (not (m.present c && is_writing m c))
        (and_intro (and_intro (not_intro r.0) (le-leb (m.numbers.stored c) (writes_to m c) (omega (arith, r.1)))) (le-leb (writes_to m c) (m.numbers.reached c) (omega (arith, r.2)))))
        (λ e. or_left _ (not_intro e))

pub valid_writes : (L : Limits) (m : Model) → all_below L.width (write_valid m) ≡ true → Writes L m
valid_writes L m e c l here ne =
    let on : m.present c && is_writing m c ≡ true = and_intro here (not_intro (ne_eqb (m.writing c) 0 ne)) in
    ⊎_elim (λ (z : not (m.present c && is_writing m c) ≡ true). clash on (not_true (m.present c && is_writing m c) z))
    (λ (z : not (is_rolling m.phase) && leb (m.numbers.stored c) (writes_to m c) && leb (writes_to m c) (m.numbers.reached c) ≡ true). parts z)
    (or_elim (not (m.present c && is_writing m c)) (not (is_rolling m.phase) && leb (m.numbers.stored c) (writes_to m c) && leb (writes_to m c) (m.numbers.reached c)) (all_at L.width (write_valid m) e c l))
  where
    parts : not (is_rolling m.phase) && leb (m.numbers.stored c) (writes_to m c) && leb (writes_to m c) (m.numbers.reached c) ≡ true → Runs m c
    parts z =
        let two : not (is_rolling m.phase) && leb (m.numbers.stored c) (writes_to m c) ≡ true = and_left (not (is_rolling m.phase) && leb (m.numbers.stored c) (writes_to m c)) (leb (writes_to m c) (m.numbers.reached c)) z in
        let low : m.numbers.stored c ≤ m.writing c - 1 = leb-true (m.numbers.stored c) (writes_to m c) (and_right (not (is_rolling m.phase)) (leb (m.numbers.stored c) (writes_to m c)) two) in
        let high : m.writing c - 1 ≤ m.numbers.reached c = leb-true (writes_to m c) (m.numbers.reached c) (and_right (not (is_rolling m.phase) && leb (m.numbers.stored c) (writes_to m c)) (leb (writes_to m c) (m.numbers.reached c)) z) in
        (not_true (is_rolling m.phase) (and_left (not (is_rolling m.phase)) (leb (m.numbers.stored c) (writes_to m c)) two), omega (arith, ne), omega arith)

-- ---- an end
abbrev pub EndsWithin : Model → ℕ → ℕ → Type 0
EndsWithin m c x = (¬ (m.writing c ≡ 0)) × (m.numbers.stored c ≤ x) × (x < m.writing c)

-- its last check lets pass a number from stored to the running s
pub end_within : (m : Model) (c x : ℕ) → not (is_writing m c && leb (m.numbers.stored c) x && leb x (writes_to m c)) ≡ false → EndsWithin m c x
end_within m c x e =
    let all : is_writing m c && leb (m.numbers.stored c) x && leb x (writes_to m c) ≡ true = passes (is_writing m c && leb (m.numbers.stored c) x && leb x (writes_to m c)) e in
    let two : is_writing m c && leb (m.numbers.stored c) x ≡ true = and_left (is_writing m c && leb (m.numbers.stored c) x) (leb x (writes_to m c)) all in
    let running : ¬ (m.writing c ≡ 0) = λ (z : m.writing c ≡ 0). clash (eq-eqb (m.writing c) 0 z) (not_true (eqb (m.writing c) 0) (and_left (is_writing m c) (leb (m.numbers.stored c) x) two)) in
    let high : x ≤ m.writing c - 1 = leb-true x (writes_to m c) (and_right (is_writing m c && leb (m.numbers.stored c) x) (leb x (writes_to m c)) all) in
    (running, leb-true (m.numbers.stored c) x (and_right (is_writing m c) (leb (m.numbers.stored c) x) two), omega (arith, running, high))
  where
    passes : (b : Bool) → not b ≡ false → b ≡ true
    passes true z = refl
    passes false z = clash refl z

-- and it lets pass each of them
pub within_ends : (m : Model) (c x : ℕ) → EndsWithin m c x → not (is_writing m c && leb (m.numbers.stored c) x && leb x (writes_to m c)) ≡ false
within_ends m c x w =
    ap not (and_intro (and_intro (not_intro (ne_eqb (m.writing c) 0 w.0)) (le-leb (m.numbers.stored c) x w.1)) (le-leb x (writes_to m c) (omega (arith, w.2))))

-- ---- every call keeps it
-- where no write runs
pub none_writes : (L : Limits) (m : Model) → ((c : ℕ) → c < L.width → m.present c ≡ true → m.writing c ≡ 0) → Writes L m
none_writes L m none c l here ne = absurd (ne (none c l here))

-- reached rises, and nothing else that it speaks of changes: a share is taken
pub grow_writes : (L : Limits) (m : Model) (d k : ℕ) (v : Vector) → Writes L m → Writes L (edited L (grow d k v) m)
grow_writes L m d k v w c l here ne =
    let r : Runs m c = w c l here ne in
    (r.0, r.1, put_case (λ y z. m.writing y ≤ suc z) m.numbers.reached d (suc (m.numbers.reached d)) c (λ (q : c ≡ d). let s : m.writing c ≤ suc (m.numbers.reached d) = subst (λ (y : ℕ). m.writing c ≤ suc (m.numbers.reached y)) q r.2 in omega arith) (λ q. r.2))

-- a card is stored whose write does not run
pub keep_writes : (L : Limits) (m : Model) (d s : ℕ) → m.writing d ≡ 0 → Writes L m → Writes L (edited L (keep d s) m)
keep_writes L m d s z w c l here ne =
    let r : Runs m c = w c l here ne in
    (r.0, put_case (λ y x. x < m.writing y) m.numbers.stored d s c (λ (q : c ≡ d). absurd (ne (ap m.writing q ∙ z))) (λ q. r.1), r.2)

pub begin_writes : (L : Limits) (m : Model) (d s : ℕ) → is_rolling m.phase ≡ false → m.numbers.stored d ≤ s → s ≤ m.numbers.reached d → Writes L m → Writes L (edited L (begin d s) m)
begin_writes L m d s e low high w c l here =
    put_case (λ y x. ¬ (x ≡ 0) → (is_rolling m.phase ≡ false) × (m.numbers.stored y < x) × (x ≤ suc (m.numbers.reached y))) m.writing d (suc s) c
    (λ (q : c ≡ d) ne. rw q (e, omega arith, omega arith)) (λ q ne. w c l here ne)

pub end_writes : (L : Limits) (m : Model) (d x : ℕ) → Writes L m → Writes L (edited L (end d x) m)
end_writes L m d x w c l here ne =
    by_cases (ℕ_discrete c d) (λ (q : c ≡ d). absurd (ne (ap (put m.writing d 0) q ∙ put_same m.writing d 0)))
    (λ q. let r : Runs m c = w c l here (λ (z : m.writing c ≡ 0). ne (put_other m.writing d 0 c q ∙ z)) in
    rw (put_other m.writing d 0 c q, put_other m.numbers.stored d x c q) r)

-- no write runs in phase rolling
pub rolling_none : (L : Limits) (m : Model) → Writes L m → is_rolling m.phase ≡ true → (c : ℕ) → c < L.width → m.present c ≡ true → m.writing c ≡ 0
rolling_none L m w e c l here = by_cases (ℕ_discrete (m.writing c) 0) (λ z. z) (λ z. clash e (w c l here z).0)
