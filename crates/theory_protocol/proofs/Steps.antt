-- Each call's plan keeps the invariant: refused, it changes nothing; accepted, by what its checks let pass. Assumes nothing.
use Prim.Native.Nat.{ℕ, suc, ◌+◌, ◌-◌, ◌<◌}
use mathlib.Core.Path.{◌≡◌, refl, sym, ◌∙◌, ap, subst}
use mathlib.Core.Bool.{Bool, true, false, not, ◌&&◌, ◌||◌}
use mathlib.Core.Logic.{◌⊎◌, inl, inr, ⊎_elim}
use mathlib.Core.List.{List, [], ◌∷◌, ◌++◌}
use native.Mathlib.Omega.{arith}
use lib.Dec.{eqb, leb, ltb}
use borrow.Author.Tests.{leb-true, leb-false, ltb-true, eqb-true}
use Rattle.base_refusal.specs.declared.Refusal.{Refusal}
use Rattle.base_laws.specs.Below.{any_below}
use Rattle.base_laws.proofs.Logic.{test, clash, fails, and_left, and_right, and_intro, or_left, or_right, or_elim, not_true, not_intro, cond_case}
use Rattle.base_laws.proofs.Below.{Found, any_elim, any_intro, first_at}
use Rattle.theory_history.specs.Change.{CardSet, touches}
use Rattle.theory_history.specs.Vector.{vector_of}
use Rattle.theory_protocol.specs.Model.{Limits, Phase, up, down, rolling, is_up, is_down, is_rolling, OpenChange, Model, free_slot, is_card, strays, is_empty, with_card, is_open, decided, slot_of, free_at, is_known, tracked, with_yes, with_vector}
use Rattle.theory_protocol.specs.Edit.{put, Edit, place, edited_all}
use Rattle.theory_protocol.specs.Plan.{Answer, Reply, accepted, refused, Check, ◌⇒◌, Plan, checked, Passed, after_plan}
use Rattle.theory_protocol.specs.Calls.{bars, barred, some_written, open_checks, open_plan, voted_yes, voted, vote_checks, vote_plan, share_edit, took_share, take_checks, take_plan, withdraw_checks, withdraw_plan, store_checks, store_plan, begin_plan, end_checks, end_plan, trim_checks, trim_plan, lose_checks, lose_plan}
use Rattle.theory_protocol.specs.Journal.{Journal, struck, asked, note_open, note_vote, note_vote_on, note_struck, note_store, note_lose}
use Rattle.theory_protocol.proofs.Taking.{put_same, put_other}
use Rattle.theory_protocol.proofs.Running.{Running}
use Rattle.theory_protocol.proofs.Openings.{open_keeps}
use Rattle.theory_protocol.proofs.Votes.{replace_keeps, decide_keeps}
use Rattle.theory_protocol.proofs.Takes.{write_keeps, read_keeps}
use Rattle.theory_protocol.proofs.Stores.{not_up, store_keeps, begin_keeps, end_keeps, trim_keeps, lose_up_keeps, lose_down_keeps}
use Rattle.theory_protocol.proofs.Writes.{Runs, Writes, EndsWithin, end_within}

-- ---- plans
-- a fact of a plan: of each refusal, and of the acceptance where no check fails
pub checked_case : (P : Plan → Type 0) (cs : List Check) (a : Answer) (es : List Edit) → ((r : Refusal) → P (record { reply = refused r; edits = [] }))
    → (Passed cs → P (record { reply = accepted a; edits = es })) → P (checked cs a es)
checked_case P [] a es refusal acceptance = acceptance tt
checked_case P ((b ⇒ r) ∷ cs) a es refusal acceptance =
    cond_case P b (λ e. refusal r) (λ e. checked_case P cs a es refusal (λ ps. acceptance (e, ps)))

-- the journal after a reply: a refused call notes nothing
abbrev pub noted : Journal → Journal → Reply → Journal
noted j j' (accepted a) = j'
noted j j' (refused r) = j

-- ---- small facts of tests
pub not_not : (b : Bool) → not b ≡ false → b ≡ true
not_not true e = refl
not_not false e = clash refl e

or_none : (a b : Bool) → a || b ≡ false → (a ≡ false) × (b ≡ false)
or_none a b e = (fails a (λ z. clash (or_left b z) e), fails b (λ z. clash (or_right a z) e))

pub none_at : (n : ℕ) (p : ℕ → Bool) → any_below n p ≡ false → (k : ℕ) → k < n → p k ≡ false
none_at n p e k l = fails (p k) (λ z. clash (any_intro n p k l z) e)

in_cabinet : (L : Limits) (m : Model) (s : CardSet) → strays L m s ≡ false → (c : ℕ) → c < L.width → s c ≡ true → m.present c ≡ true
in_cabinet L m s e c l z =
    test (m.present c) (λ y. y) (λ y. clash (and_intro z (not_intro y)) (none_at L.width (λ d. s d && not (m.present d)) e c l))

-- a card that an opening touches is one of the cabinet, where neither set strays
pub touched_there : (L : Limits) (m : Model) (reads writes : CardSet) → strays L m reads || strays L m writes ≡ false → (c : ℕ) → c < L.width → reads c || writes c ≡ true → m.present c ≡ true
touched_there L m reads writes e c l z =
    let stray : (strays L m reads ≡ false) × (strays L m writes ≡ false) = or_none (strays L m reads) (strays L m writes) e in
    ⊎_elim (λ (y : reads c ≡ true). in_cabinet L m reads stray.0 c l y) (λ (y : writes c ≡ true). in_cabinet L m writes stray.1 c l y) (or_elim (reads c) (writes c) z)

pub card_below : (L : Limits) (m : Model) (c : ℕ) → is_card L m c ≡ true → c < L.width
card_below L m c e = ltb-true c L.width (and_left (ltb c L.width) (m.present c) e)

-- the slot of a change that is known
pub known_slot : (L : Limits) (m : Model) (k : ℕ) → is_known L m k ≡ true → (slot_of L m k < L.slots) × (is_open (m.slot (slot_of L m k)) ≡ true) × ((m.slot (slot_of L m k)).change.number ≡ k)
known_slot L m k e =
    let l : slot_of L m k < L.slots = ltb-true (slot_of L m k) L.slots e in
    let q : is_open (m.slot (slot_of L m k)) && eqb (m.slot (slot_of L m k)).change.number k ≡ true = first_at L.slots (λ p. is_open (m.slot p) && eqb (m.slot p).change.number k) l in
    (l, and_left (is_open (m.slot (slot_of L m k))) (eqb (m.slot (slot_of L m k)).change.number k) q, eqb-true (m.slot (slot_of L m k)).change.number k (and_right (is_open (m.slot (slot_of L m k))) (eqb (m.slot (slot_of L m k)).change.number k) q))

pub up_only : (p : Phase) → is_up p ≡ true → is_rolling p ≡ false
up_only up e = refl
up_only down e = refl
up_only rolling e = clash e refl

-- ---- the calls in phase up
module _ (L : Limits) (m : Model) (j : Journal) (r : Running L m j) where
  abbrev Keeps : Journal → Plan → Type 0
  Keeps j' p = Running L (after_plan L p m) (noted j j' p.reply)

  pub open_step : (reads writes : CardSet) → Keeps (note_open j (suc m.latest) reads writes) (open_plan L m reads writes)
  open_step reads writes =
      checked_case (Keeps (note_open j (suc m.latest) reads writes)) (open_checks L m reads writes) _ _ (λ x. r)
      (λ ps.
      let free : free_at L m < L.slots = ltb-true (free_at L m) L.slots (not_not (ltb (free_at L m) L.slots) ps.1.1.1.1.1.0) in
      open_keeps L m j r reads writes (free_at L m) (not_not (is_up m.phase) ps.1.1.1.0)
      (touched_there L m reads writes ps.1.0)
      (some_card ps.1.1.0)
      (λ p c lp lc. none_at L.slots (λ q. bars (m.slot q) reads writes c) (none_at L.width (barred L m reads writes) ps.1.1.1.1.0 c lc) p lp)
      free (not_true (is_open (m.slot (free_at L m))) (first_at L.slots (λ p. not (is_open (m.slot p))) free))
      (leb-false L.greatest_number m.latest (or_none (some_written L writes (λ d. leb L.greatest_state (m.numbers.reached d))) (leb L.greatest_number m.latest) ps.1.1.1.1.1.1.1.0).1)
      (λ c l z. (
        leb-false (m.numbers.base c + L.in_hand) (m.numbers.reached c) (fails (leb (m.numbers.base c + L.in_hand) (m.numbers.reached c)) (λ y. clash (and_intro z y) (none_at L.width (λ d. writes d && leb (m.numbers.base d + L.in_hand) (m.numbers.reached d)) ps.1.1.1.1.1.1.0 c l))),
        leb-false L.greatest_state (m.numbers.reached c) (fails (leb L.greatest_state (m.numbers.reached c)) (λ y. clash (and_intro z y) (none_at L.width (λ d. writes d && leb L.greatest_state (m.numbers.reached d)) (or_none (some_written L writes (λ d. leb L.greatest_state (m.numbers.reached d))) (leb L.greatest_number m.latest) ps.1.1.1.1.1.1.1.0).0 c l))),
      )))
    where
      some_card : is_empty L reads && is_empty L writes ≡ false → (c : ℕ) × (c < L.width) × (reads c || writes c ≡ true)
      some_card e =
          test (any_below L.width reads) (λ z. let f : Found L.width reads = any_elim L.width reads z in (f.0, f.1, or_left (writes f.0) f.2))
          (λ z. test (any_below L.width writes) (λ y. let f : Found L.width writes = any_elim L.width writes y in (f.0, f.1, or_right (reads f.0) f.2))
          (λ y. clash (and_intro (not_intro z) (not_intro y)) e))

  module _ (k c : ℕ) (known : is_known L m k ≡ true) (is_up_lem : is_up m.phase ≡ true) (undecided-yet : decided L (m.slot (slot_of L m k)) ≡ false) where
    abbrev p : ℕ
    p = slot_of L m k

    abbrev o : OpenChange
    o = m.slot (slot_of L m k)

    is_slot : slot_of L m k < L.slots
    is_slot = (known_slot L m k known).0

    is_open_lem : is_open (m.slot (slot_of L m k)) ≡ true
    is_open_lem = (known_slot L m k known).1

    is_number : (m.slot (slot_of L m k)).change.number ≡ k
    is_number = (known_slot L m k known).2

    -- a no, or a withdrawal
    strike : Running L (edited_all L (place p free_slot ∷ []) m) (note_struck j k)
    strike =
        replace_keeps L m j r p is_up_lem is_slot is_open_lem undecided-yet free_slot (put j.undecided k struck)
        (λ e. clash e refl) (λ e. clash e refl) (λ e. clash e refl) (λ e. clash e refl) (λ e. clash e refl)
        (λ i z. put_other j.undecided k struck i (λ y. z (y ∙ sym is_number)))

    is_asked : j.undecided k ≡ asked o.change o.yes
    is_asked = ap j.undecided (sym is_number) ∙ r.slots_open.noted p is_slot is_open_lem undecided-yet

    abbrev waiting : OpenChange
    waiting = with_yes o (with_card o.yes c)

    -- a yes
    agree : Running L (edited_all L (place p (voted_yes L m o c) ∷ []) m) (note_vote_on L j k c (j.undecided k))
    agree = rw is_asked (test (decided L waiting) decides waits)
      where
        decides : decided L waiting ≡ true → Running L (edited_all L (place p (voted_yes L m o c) ∷ []) m) (note_vote_on L j k c (asked o.change o.yes))
        decides e =
            rw e
            (subst
            (λ (i : ℕ).
            Running L (edited_all L (place p (with_vector (with_yes o (with_card o.yes c)) (vector_of L.width (tracked m) o.change)) ∷ []) m)
            (record { start = j.start; stored = j.stored; undecided = put j.undecided i struck; history = j.history ++ o.change ∷ []; fix = j.fix }))
            is_number (decide_keeps L m j r p is_up_lem is_slot is_open_lem undecided-yet (with_card o.yes c) e))

        waits : decided L waiting ≡ false → Running L (edited_all L (place p (voted_yes L m o c) ∷ []) m) (note_vote_on L j k c (asked o.change o.yes))
        waits e =
            rw e
            (replace_keeps L m j r p is_up_lem is_slot is_open_lem undecided-yet waiting (put j.undecided k (asked o.change (with_card o.yes c)))
            (λ z. refl) (λ z i l. refl) (λ z i l. refl) (λ z. e)
            (λ z. ap (put j.undecided k (asked o.change (with_card o.yes c))) is_number ∙ put_same j.undecided k (asked o.change (with_card o.yes c)))
            (λ i z. put_other j.undecided k (asked o.change (with_card o.yes c)) i (λ y. z (y ∙ sym is_number))))

    both : (agrees : Bool) → Running L (edited_all L (place p (voted L m o c agrees) ∷ []) m) (note_vote L j k c agrees)
    both true = agree
    both false = strike

  pub vote_step : (k c : ℕ) (agrees : Bool) → Keeps (note_vote L j k c agrees) (vote_plan L m k c agrees)
  vote_step k c agrees =
      checked_case (Keeps (note_vote L j k c agrees)) (vote_checks L m k c) _ _ (λ x. r)
      (λ ps. both k c (not_not (is_known L m k) ps.1.1.1.0) (not_not (is_up m.phase) ps.1.1.0) ps.1.1.1.1.0 agrees)

  pub withdraw_step : (k : ℕ) → Keeps (note_struck j k) (withdraw_plan L m k)
  withdraw_step k =
      checked_case (Keeps (note_struck j k)) (withdraw_checks L m k) _ _ (λ x. r)
      (λ ps. strike k 0 (not_not (is_known L m k) ps.1.1.0) (not_not (is_up m.phase) ps.1.0) ps.1.1.1.0)

  pub take_step : (k c : ℕ) → Keeps j (take_plan L m k c)
  take_step k c =
      checked_case (Keeps j) (take_checks L m k c) _ _ (λ x. r)
      (λ ps.
      let kp : (slot_of L m k < L.slots) × (is_open (m.slot (slot_of L m k)) ≡ true) × ((m.slot (slot_of L m k)).change.number ≡ k) = known_slot L m k (not_not (is_known L m k) ps.1.1.1.0) in
      let aw : touches (m.slot (slot_of L m k)).change c && not ((m.slot (slot_of L m k)).taken c) ≡ true = not_not (touches (m.slot (slot_of L m k)).change c && not ((m.slot (slot_of L m k)).taken c)) ps.1.1.1.1.1.0 in
      share (not_not (is_up m.phase) ps.1.1.0) kp.0 (card_below L m c (not_not (is_card L m c) ps.1.0)) kp.1 (not_not (decided L (m.slot (slot_of L m k))) ps.1.1.1.1.0)
      (and_left (touches (m.slot (slot_of L m k)).change c) (not ((m.slot (slot_of L m k)).taken c)) aw)
      (not_true ((m.slot (slot_of L m k)).taken c) (and_right (touches (m.slot (slot_of L m k)).change c) (not ((m.slot (slot_of L m k)).taken c)) aw)))
    where
      share : is_up m.phase ≡ true → slot_of L m k < L.slots → c < L.width → is_open (m.slot (slot_of L m k)) ≡ true → decided L (m.slot (slot_of L m k)) ≡ true
          → touches (m.slot (slot_of L m k)).change c ≡ true → (m.slot (slot_of L m k)).taken c ≡ false
          → Running L (edited_all L (share_edit (m.slot (slot_of L m k)) c ∷ place (slot_of L m k) (took_share L (m.slot (slot_of L m k)) c) ∷ []) m) j
      share u lp lc op d t nt =
          test ((m.slot (slot_of L m k)).change.writes c) (λ e. rw e (write_keeps L m j r (slot_of L m k) c u lp lc op d t nt e))
          (λ e. rw e (read_keeps L m j r (slot_of L m k) c u lp lc op d t nt e
          (⊎_elim (λ (z : (m.slot (slot_of L m k)).change.reads c ≡ true). z) (λ (z : (m.slot (slot_of L m k)).change.writes c ≡ true). clash z e)
          (or_elim ((m.slot (slot_of L m k)).change.reads c) ((m.slot (slot_of L m k)).change.writes c) t))))

  pub store_step : (c s : ℕ) → Keeps (note_store j c s) (store_plan L m c s)
  store_step c s =
      checked_case (Keeps (note_store j c s)) (store_checks L m c s) _ _ (λ x. r)
      (λ ps.
      let q : leb (m.numbers.stored c) s && leb s (m.numbers.held c) ≡ true = not_not (leb (m.numbers.stored c) s && leb s (m.numbers.held c)) ps.1.1.1.0 in
      store_keeps L m j r c s (card_below L m c (not_not (is_card L m c) ps.1.0))
      (leb-true (m.numbers.stored c) s (and_left (leb (m.numbers.stored c) s) (leb s (m.numbers.held c)) q)) (leb-true s (m.numbers.held c) (and_right (leb (m.numbers.stored c) s) (leb s (m.numbers.held c)) q)))

  pub begin_step : (c s : ℕ) → Keeps j (begin_plan L m c s)
  begin_step c s = checked_case (Keeps j) (store_checks L m c s) _ _ (λ x. r) (λ ps. begin_keeps L m j r c s)

  pub end_step : Writes L m → (c x : ℕ) → Keeps (note_store j c x) (end_plan L m c x)
  end_step w c x =
      checked_case (Keeps (note_store j c x)) (end_checks L m c x) _ _ (λ z. r)
      (λ ps. let e : EndsWithin m c x = end_within m c x ps.1.1.1.0 in
      let here : is_card L m c ≡ true = not_not (is_card L m c) ps.1.0 in
      let runs : Runs m c = w c (card_below L m c here) (and_right (ltb c L.width) (m.present c) here) e.0 in
      end_keeps L m j r c x (card_below L m c here) e.1 (omega (arith, e.2, runs.2)))

  pub trim_step : Keeps j (trim_plan L m)
  trim_step = checked_case (Keeps j) (trim_checks L m) _ _ (λ x. r) (λ ps. trim_keeps L m j r)

  running_phase : (is_up m.phase ≡ true) ⊎ (is_down m.phase ≡ true)
  running_phase = cases m.phase r.not_rolling
    where
      cases : (q : Phase) → is_rolling q ≡ false → (is_up q ≡ true) ⊎ (is_down q ≡ true)
      cases up e = inl refl
      cases down e = inr refl
      cases rolling e = clash refl e

  pub lose_step : (cards : CardSet) → Keeps (note_lose j) (lose_plan L m cards)
  lose_step cards =
      checked_case (Keeps (note_lose j)) (lose_checks L m cards) _ _ (λ x. r)
      (λ ps. ⊎_elim (λ (u : is_up m.phase ≡ true). rw u (lose_up_keeps L m j r cards u))
      (λ (d : is_down m.phase ≡ true). rw (not_up m.phase d) (lose_down_keeps L m j r cards d)) running_phase)
