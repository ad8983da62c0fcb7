-- Precedence: it goes forward, its last link, and precedence by Definition 1 is precedence by document 01. Assumes nothing.
use Prim.Native.Nat.{ℕ, zero, suc, ◌≤◌, ◌<◌}
use mathlib.Core.Path.{◌≡◌, refl}
use mathlib.Core.Bool.{true, false, ◌&&◌, ◌||◌}
use mathlib.Core.Logic.{◌⊎◌, inl, inr, by_cases, ⊎_elim}
use native.Mathlib.Nat.{lt_trans, le_refl}
use native.Mathlib.Decide.{dec_lt, ℕ_discrete}
use native.Mathlib.Omega.{arith}
use Rattle.base_laws.proofs.Logic.{test, clash, and_left, and_right, and_intro, or_left, or_right, or_elim}
use Rattle.theory_history.specs.Change.{Change, History, Numbers, touches, meets, found, made, Precedes, direct, chain, NumbersRise, UpTo}
use Rattle.theory_history.specs.Report.{RW, W, R, Before}
use Rattle.theory_history.proofs.Writers.{Maker, made_found, found_mono, last_writer, next_writer}

-- what a change writes it touches
pub writes_touches : (t : Change) (c : ℕ) → t.writes c ≡ true → touches t c ≡ true
writes_touches t c e = or_right (t.reads c) e

-- both touch the card, and one of them writes it
pub meets_intro : (s t : Change) (c : ℕ) → touches s c ≡ true → touches t c ≡ true → (s.writes c ≡ true) ⊎ (t.writes c ≡ true) → meets s t c ≡ true
meets_intro s t c p q d =
    and_intro (and_intro p q) (⊎_elim (λ (e : s.writes c ≡ true). or_left (t.writes c) e) (λ (e : t.writes c ≡ true). or_right (s.writes c) e) d)

pub meets_first : (s t : Change) (c : ℕ) → meets s t c ≡ true → touches s c ≡ true
meets_first s t c e = and_left (touches s c) (touches t c) (and_left (touches s c && touches t c) (s.writes c || t.writes c) e)

pub meets_second : (s t : Change) (c : ℕ) → meets s t c ≡ true → touches t c ≡ true
meets_second s t c e = and_right (touches s c) (touches t c) (and_left (touches s c && touches t c) (s.writes c || t.writes c) e)

pub meets_writes : (s t : Change) (c : ℕ) → meets s t c ≡ true → (s.writes c ≡ true) ⊎ (t.writes c ≡ true)
meets_writes s t c e = or_elim (s.writes c) (t.writes c) (and_right (touches s c && touches t c) (s.writes c || t.writes c) e)

-- a pair that meets on a card, the earlier first
pub record Link (w : ℕ) (H : History) (m i : ℕ) : Type 0 where
  pub card : ℕ
  pub is_card_lem : card < w
  pub earlier : m < i
  pub meet : meets (H m) (H i) card ≡ true

module _ {w : ℕ} {H : History} where
  pub forward : {k i : ℕ} → Precedes w H k i → k < i
  forward (direct c l h e) = h
  forward (chain p q) = lt_trans (forward p) (forward q)

  -- where numbers rise as changes meet, they rise along a chain
  pub precedes_rises : {n k i : ℕ} → NumbersRise w H n → i < n → Precedes w H k i → (H k).number < (H i).number
  precedes_rises r h (direct {k} {i} c l u e) = r k i c u h l e
  precedes_rises r h (chain p q) = lt_trans (precedes_rises r (lt_trans (forward q) h) p) (precedes_rises r h q)

  pub linked : {m i : ℕ} → Link w H m i → Precedes w H m i
  linked l = direct l.card l.is_card_lem l.earlier l.meet

  -- the last link of a chain
  pub last_link : {k i : ℕ} → Precedes w H k i → (m : ℕ) × UpTo w H k m × Link w H m i
  last_link {k} (direct c l h e) = (k, inl refl, record { card = c; is_card_lem = l; earlier = h; meet = e })
  last_link (chain {k} {m} p q) =
      let r : (x : ℕ) × UpTo w H m x × Link w H x _ = last_link q in
      (r.0, ⊎_elim (λ (e : m ≡ r.0). inr (rw e at p)) (λ (s : Precedes w H m r.0). inr (chain p s)) r.1, r.2)

  pub up_to_trans : {k m i : ℕ} → UpTo w H k m → UpTo w H m i → UpTo w H k i
  up_to_trans {k} {m} {i} (inl e) q = rw e q
  up_to_trans {k} {m} {i} (inr p) (inl e) = inr (rw e at p)
  up_to_trans (inr p) (inr q) = inr (chain p q)

  pub up_to_le : {k i : ℕ} → UpTo w H k i → k ≤ i
  up_to_le {k} {i} (inl e) = rw e (le_refl i)
  up_to_le (inr p) = let h = forward p in omega arith

-- ---- precedence by Definition 1
module _ (w : ℕ) (H : History) (start : Numbers) where
  -- (a): who accesses what t wrote comes after it
  from_a : {t t' : ℕ} (c γ : ℕ) → c < w → W H start t c γ → RW H start t' c (suc γ) → Precedes w H t t'
  from_a {t} {t'} c γ l u v =
      direct c l
      (by_cases (dec_lt t t') (λ h. h) (λ h. absurd (omega (arith, found_mono H start c {i = t'} {k = t} (omega arith), u.1, v.1))))
      (meets_intro (H t) (H t') c (writes_touches (H t) c u.0) v.0 (inl u.0))

  -- (b): who overwrites what t only read comes after it
  from_b : {t t' : ℕ} (c γ : ℕ) → c < w → R H start t c γ → W H start t' c γ → Precedes w H t t'
  from_b {t} {t'} c γ l u v =
      direct c l
      (by_cases (dec_lt t t') (λ h. h)
      (λ h. by_cases (ℕ_discrete t t') (λ (q : t ≡ t'). absurd (u.1 (rw q v.0, u.0.1)))
      (λ q. absurd (omega (arith, made_found H start c {i = t'} {k = t} (omega arith) v.0, u.0.1, v.1)))))
      (meets_intro (H t) (H t') c u.0.0 (writes_touches (H t') c v.0) (inr v.0))

  pub by_document : {t t' : ℕ} → Before w H start t t' → Precedes w H t t'
  by_document (Before.clause_a c γ l u v) = from_a c γ l u v
  by_document (Before.clause_b c γ l u v) = from_b c γ l u v
  by_document (Before.clause_c p q) = chain (by_document p) (by_document q)

  -- t wrote card c and t' touches it later: a chain of writers, by (a). fuel bounds t'
  wrote_before : (fuel : ℕ) (c : ℕ) {t t' : ℕ} → t' ≤ fuel → c < w → t < t' → (H t).writes c ≡ true → touches (H t') c ≡ true → Before w H start t t'
  wrote_before zero c {t} {t'} f l h e d = absurd (omega arith)
  wrote_before (suc fuel) c {t} {t'} f l h e d = by_cases (ℕ_discrete t at) now (λ q. earlier (wrote_before fuel c (omega (arith, found_by.0.in_history)) l (omega (arith, found_by.1)) e))
    where
      found_by : (m : Maker H start t' c (found H start t' c)) × (t ≤ m.at)
      found_by = last_writer H start c h e

      at : ℕ
      at = found_by.0.at

      step : Before w H start at t'
      step = Before.clause_a c (found H start at c) l (found_by.0.wrote, refl) (d, found_by.0.makes)

      now : t ≡ at → Before w H start t t'
      now q = rw q step

      earlier : (touches (H at) c ≡ true → Before w H start t at) → Before w H start t t'
      earlier rest = Before.clause_c (rest (writes_touches (H at) c found_by.0.wrote)) step

  -- t touches card c without writing it and t' writes it later: the next writer comes after t by (b)
  read_before : (c : ℕ) {t t' : ℕ} → c < w → t < t' → (H t).writes c ≡ false → touches (H t) c ≡ true → (H t').writes c ≡ true → Before w H start t t'
  read_before c {t} {t'} l h e d e' = by_cases (ℕ_discrete at t') (λ (q : at ≡ t'). rw q at step) later
    where
      next : (m : Maker H start (suc t') c (made H start t c)) × (t < m.at)
      next = next_writer H start c h e e'

      at : ℕ
      at = next.0.at

      step : Before w H start t at
      step =
          Before.clause_b c (found H start t c) l ((d, refl), λ u. clash u.0 e) (next.0.wrote, omega (arith, next.0.makes))

      later : ¬ (at ≡ t') → Before w H start t t'
      later q =
          Before.clause_c step
          (wrote_before t' c (le_refl t') l (omega (arith, next.0.in_history, q)) next.0.wrote (writes_touches (H t') c e'))

  pub by_report : {t t' : ℕ} → Precedes w H t t' → Before w H start t t'
  by_report {t} {t'} (direct c l h e) =
      test ((H t).writes c) (λ p. wrote_before t' c (le_refl t') l h p (meets_second (H t) (H t') c e))
      (λ p. read_before c l h p (meets_first (H t) (H t') c e)
      (⊎_elim (λ (q : (H t).writes c ≡ true). clash q p) (λ (q : (H t').writes c ≡ true). q) (meets_writes (H t) (H t') c e)))
  by_report (chain p q) = Before.clause_c (by_report p) (by_report q)
