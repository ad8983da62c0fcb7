-- The laws of a trim and of a roll: what is in hand when bases move. Assumes nothing.
use Prim.Native.Nat.{ℕ, ◌≤◌, ◌<◌}
use mathlib.Core.Path.{◌≡◌, sym, ◌∙◌, ap, ap₂}
use mathlib.Core.Bool.{Bool, true, false, ◌&&◌, ◌||◌, cond}
use mathlib.Core.List.{List}
use mathlib.Core.Logic.{by_cases}
use native.Mathlib.Decide.{dec_le, ℕ_discrete}
use native.Mathlib.Omega.{arith}
use lib.Dec.{eqb, leb, ltb}
use lib.ListN.{length, set}
use lib.Seq.{get_or-set_same, get_or-set_other}
use borrow.Author.Tests.{eq-eqb, ne_eqb, lt-ltb, le-ltb, lt-leb, ltb-true}
use Rattle.base_laws.proofs.Logic.{test}
use Rattle.base_bits.specs.Member.{member}
use Rattle.base_bits.proofs.Members.{member_above}
use Rattle.theory_history.specs.Change.{Numbers}
use Rattle.theory_history.specs.Vector.{no_entries}
use Rattle.theory_protocol.specs.Model.{with_card}
use Rattle.theory_protocol.specs.Edit.{put, edited}
use Rattle.theory_protocol.specs.Edit as edit
use Rattle.cabinet_layout.specs.Shape.{limits16, at, ring_change, ring_frame, truncate, in_hand, list_of}
use Rattle.cabinet_layout.proofs.Held.{at_list_all, member_set}
use Rattle.cabinet.specs.declared.Cabinet.{Cabinet}
use Rattle.cabinet.specs.View.{view}
use Rattle.cabinet.specs.Apply.{apply}
use Rattle.cabinet.proofs.Laws.{at_set}

-- ---- every base moves
module _ {A : Type 0} (y z : A) where
  -- in hand above the new base: above it, and in hand before
  still_in_hand : (old new r x : ℕ) → old ≤ new → cond (ltb new x && leb x r) y z ≡ cond (ltb new x) (cond (ltb old x && leb x r) y z) z
  still_in_hand old new r x h =
      test (ltb new x) above (λ (f : ltb new x ≡ false). rw f)
    where
      above : ltb new x ≡ true → cond (ltb new x && leb x r) y z ≡ cond (ltb new x) (cond (ltb old x && leb x r) y z) z
      above t =
          let l : new < x = ltb-true new x t in
          let o : ltb old x ≡ true = lt-ltb old x (omega arith) in
          rw (t, o)

pub rebase_law : (s : Cabinet) (bases : Numbers) → ((k : ℕ) → 16 ≤ k → bases k ≡ 0) → ((c : ℕ) → at s.core.base c ≤ bases c)
    → view (apply (edit.rebase bases) s) ≡ edited limits16 (edit.rebase bases) (view s)
rebase_law s bases none up =
    let e : at (list_of bases) ≡ bases = at_list_all bases none in
    λ i. edit.with_numbers (view s)
    (record { base = e i; stored = at s.core.stored; held = at s.core.held; reached = at s.core.reached })
    (record {
      last = (view s).memory.last;
      pending = (view s).memory.pending;
      change = λ c x. (ap (λ (f : Numbers). cond (ltb (f c) x && leb x (at s.core.reached c)) (ring_change s.changes c x) 0) e ∙ still_in_hand (ring_change s.changes c x) 0 (at s.core.base c) (bases c) (at s.core.reached c) x (up c)) i;
      frame = λ c x. (ap (λ (f : Numbers). cond (ltb (f c) x && leb x (at s.core.reached c)) (truncate (ring_frame s.entries c x)) no_entries) e ∙ still_in_hand (truncate (ring_frame s.entries c x)) no_entries (at s.core.base c) (bases c) (at s.core.reached c) x (up c)) i;
    })

-- ---- one card goes to its line
module _ {A : Type 0} (base reached : List ℕ) (c l : ℕ) (hb : c < length base) (hr : c < length reached) (f : ℕ → ℕ → A) (z : A) where
  nothing_there : (x : ℕ) → ltb l x && leb x l ≡ false
  nothing_there x = by_cases (dec_le x l) (λ h. ap (λ (b : Bool). b && leb x l) (le-ltb l x h)) (λ h. ap₂ (λ (a b : Bool). a && b) (lt-ltb l x (omega (arith, h))) (lt-leb x l (omega (arith, h))))

  pub lowered_hand : (λ (d x : ℕ). cond (in_hand (set base c l) (set reached c l) d x) (f d x) z)
      ≡ put {A = ℕ → A} (λ d x. cond (in_hand base reached d x) (f d x) z) c (λ x. z)
  lowered_hand = λ i d x. by_cases (ℕ_discrete d c) (here d x) (other d x) i
    where
      here : (d x : ℕ) → d ≡ c → cond (in_hand (set base c l) (set reached c l) d x) (f d x) z ≡ cond {A = ℕ → A} (eqb d c) (λ (x : ℕ). z) (λ x. cond (in_hand base reached d x) (f d x) z) x
      here d x q =
          ap₂ (λ (b r : ℕ). cond (ltb b x && leb x r) (f d x) z) (ap (λ (e : ℕ). at (set base c l) e) q ∙ get_or-set_same base c l 0 hb) (ap (λ (e : ℕ). at (set reached c l) e) q ∙ get_or-set_same reached c l 0 hr)
          ∙ ap (λ (b : Bool). cond b (f d x) z) (nothing_there x)
          ∙ sym (ap (λ (b : Bool). cond {A = ℕ → A} b (λ (x : ℕ). z) (λ x. cond (in_hand base reached d x) (f d x) z) x) (eq-eqb d c q))

      other : (d x : ℕ) → ¬ (d ≡ c) → cond (in_hand (set base c l) (set reached c l) d x) (f d x) z ≡ cond {A = ℕ → A} (eqb d c) (λ (x : ℕ). z) (λ x. cond (in_hand base reached d x) (f d x) z) x
      other d x q =
          ap₂ (λ (b r : ℕ). cond (ltb b x && leb x r) (f d x) z) (get_or-set_other base c d l 0 q) (get_or-set_other reached c d l 0 q)
          ∙ sym (ap (λ (b : Bool). cond {A = ℕ → A} b (λ (x : ℕ). z) (λ x. cond (in_hand base reached d x) (f d x) z) x) (ne_eqb d c q))

-- what the law of a roll asks
pub record Lowers (s : Cabinet) (c : ℕ) : Type 0 where
  pub card : c < 16
  pub base : length s.core.base ≡ 16
  pub stored : length s.core.stored ≡ 16
  pub held : length s.core.held ≡ 16
  pub reached : length s.core.reached ≡ 16
  pub rolled : s.core.rolled < 65536

pub lower_law : (s : Cabinet) (c : ℕ) → Lowers s c → view (apply (edit.lower c) s) ≡ edited limits16 (edit.lower c) (view s)
lower_law s c g =
    let l : ℕ = at s.core.line c in
    λ i. edit.with_line
    (edit.with_numbers (view s)
    (record {
      base = at_set s.core.base c l (omega (arith, g.base, g.card)) i;
      stored = at_set s.core.stored c l (omega (arith, g.stored, g.card)) i;
      held = at_set s.core.held c l (omega (arith, g.held, g.card)) i;
      reached = at_set s.core.reached c l (omega (arith, g.reached, g.card)) i;
    })
    (record {
      last = (view s).memory.last;
      pending = (view s).memory.pending;
      change = lowered_hand s.core.base s.core.reached c l (omega (arith, g.base, g.card)) (omega (arith, g.reached, g.card)) (ring_change s.changes) 0 i;
      frame = lowered_hand s.core.base s.core.reached c l (omega (arith, g.base, g.card)) (omega (arith, g.reached, g.card)) (λ d x. truncate (ring_frame s.entries d x)) no_entries i;
    }))
    (view s).line
    (member_set (with_card (member s.core.rolled) c) beyond i)
  where
    beyond : (k : ℕ) → 16 ≤ k → with_card (member s.core.rolled) c k ≡ false
    beyond k h = ap₂ (λ (a b : Bool). a || b) (ne_eqb k c (λ (q : k ≡ c). absurd (omega (arith, g.card)))) (member_above 16 s.core.rolled k g.rolled h)
