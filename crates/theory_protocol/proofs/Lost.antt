-- The changes that a fix lists as lost are the lost changes of the history. Assumes nothing.
use Prim.Native.Nat.{ℕ, suc, ◌+◌, ◌-◌, ◌≤◌, ◌<◌}
use mathlib.Core.Path.{◌≡◌, sym, ◌∙◌, ap}
use mathlib.Core.Bool.{Bool, true, false, not, ◌&&◌, ◌||◌}
use mathlib.Core.Logic.{by_cases, ⊎_elim}
use native.Mathlib.Nat.{le_trans}
use native.Mathlib.Decide.{dec_le}
use native.Mathlib.Omega.{arith}
use lib.Dec.{eqb, leb}
use lib.ListN.{length}
use borrow.Author.Tests.{eqb-true, eq-eqb, ne_eqb, leb-true, leb-false}
use Rattle.base_laws.specs.Below.{any_below, greatest}
use Rattle.base_laws.proofs.Logic.{test, clash, fails, and_left, and_right, and_intro, or_left, or_right, or_elim, not_true, not_intro, same_test}
use Rattle.base_laws.proofs.Below.{Found, any_elim, any_intro, all_at, all_intro, all_same, search_below}
use Rattle.base_laws.proofs.Order.{those, those_same}
use Rattle.theory_history.specs.Change.{History, Numbers, made}
use Rattle.theory_history.specs.Line.{wrote, in_line, lost, is_lost_number}
use Rattle.theory_history.specs.Line as history
use Rattle.theory_history.proofs.Writers.{Maker, maker}
use Rattle.theory_history.proofs.Precedence.{writes_touches}
use Rattle.theory_history.proofs.Theorems.{lost_number_below}
use Rattle.theory_protocol.specs.Model.{Limits, is_down, Model}
use Rattle.theory_protocol.specs.Calls.{recovery_line, frame_above, some_frame_above, is_lost, greatest_lost, lost_numbers}
use Rattle.theory_protocol.specs.Journal.{Journal}
use Rattle.theory_protocol.proofs.Running.{About, Remembers, Unfinished, Running}
use Rattle.theory_protocol.proofs.Stores.{intact, line_right}
use Rattle.theory_protocol.proofs.Listed.{lost_below}

-- a change that is not in a line: a card that it wrote where its state is above
pub record Above (w : ℕ) (H : History) (start line : Numbers) (i : ℕ) : Type 0 where
  pub c : ℕ
  pub is_card_lem : c < w
  pub wrote_it : (H i).writes c ≡ true
  pub is_above : line c < made H start i c

pub lost_above : (w : ℕ) (H : History) (start line : Numbers) (i : ℕ) → lost w H start line i ≡ true → Above w H start line i
lost_above w H start line i e = ⊎_elim found (λ none. absurd (all_in none)) (search_below w (λ c. not (on c)))
  where
    on : ℕ → Bool
    on c = not ((H i).writes c) || leb (made H start i c) (line c)

    out : in_line w H start line i ≡ false
    out = not_true (in_line w H start line i) (and_right (wrote w (H i)) (not (in_line w H start line i)) e)

    found : Found w (λ c. not (on c)) → Above w H start line i
    found f =
        let z : on f.0 ≡ false = not_true (on f.0) f.2 in
        record {
          c = f.0;
          is_card_lem = f.1;
          wrote_it = test ((H i).writes f.0) (λ y. y) (λ y. clash (or_left (leb (made H start i f.0) (line f.0)) (not_intro y)) z);
          is_above = leb-false (made H start i f.0) (line f.0) (fails (leb (made H start i f.0) (line f.0)) (λ y. clash (or_right (not ((H i).writes f.0)) y) z));
        }

    all_in : ((c : ℕ) → c < w → not (on c) ≡ false) → ⊥
    all_in none = clash (all_intro w on (λ c l. test (on c) (λ y. y) (λ y. clash (not_intro y) (none c l)))) out

pub above_lost : (w : ℕ) (H : History) (start line : Numbers) (i : ℕ) → Above w H start line i → lost w H start line i ≡ true
above_lost w H start line i a =
    and_intro (any_intro w (H i).writes a.c a.is_card_lem a.wrote_it)
    (not_intro (fails (in_line w H start line i)
    (λ e. ⊎_elim (λ (z : not ((H i).writes a.c) ≡ true). clash a.wrote_it (not_true ((H i).writes a.c) z))
    (λ (z : leb (made H start i a.c) (line a.c) ≡ true). absurd (omega (arith, a.is_above, leb-true (made H start i a.c) (line a.c) z)))
    (or_elim (not ((H i).writes a.c)) (leb (made H start i a.c) (line a.c)) (all_at w (λ c. not ((H i).writes c) || leb (made H start i c) (line c)) e a.c a.is_card_lem)))))

-- a line goes by its cards alone
lost_same : (w : ℕ) (G : History) (s l l' : Numbers) → ((c : ℕ) → c < w → l c ≡ l' c) → (i : ℕ) → lost w G s l i ≡ lost w G s l' i
lost_same w G s l l' e i =
    ap (λ (b : Bool). wrote w (G i) && not b)
    (all_same w (λ c. not ((G i).writes c) || leb (made G s i c) (l c)) (λ c. not ((G i).writes c) || leb (made G s i c) (l' c)) (λ c h. ap (λ (x : ℕ). not ((G i).writes c) || leb (made G s i c) x) (e c h)))

-- a change of the history by its number
pub record Numbered-as (H : History) (n k : ℕ) : Type 0 where
  pub i : ℕ
  pub in_history : i < n
  pub is_number : (H i).number ≡ k

module _ (L : Limits) (m : Model) (j : Journal) (r : Running L m j) (H : History) (a : About L m j.start (length j.history) r.took r.at H) where
  -- ---- frames above a bound that is not below base
  module _ (bound : Numbers) (base-bound : (c : ℕ) → c < L.width → m.numbers.base c ≤ bound c) where
    pub frames_above : (k : ℕ) → some_frame_above L m k bound ≡ true → (x : Numbered-as H (length j.history) k) × Above L.width H j.start bound x.i
    frames_above k e =
        let f : Found L.width (λ c. m.present c && frame_above m k c (bound c)) = any_elim L.width (λ c. m.present c && frame_above m k c (bound c)) e in
        let g : Found (m.numbers.reached f.0 - bound f.0) (λ s. eqb (m.memory.change f.0 (suc (bound f.0 + s))) k) =
        any_elim (m.numbers.reached f.0 - bound f.0) (λ s. eqb (m.memory.change f.0 (suc (bound f.0 + s))) k) (and_right (m.present f.0) (frame_above m k f.0 (bound f.0)) f.2) in
        at_frame f.0 f.1 (suc (bound f.0 + g.0)) (omega arith) (omega (arith, g.1)) (eqb-true (m.memory.change f.0 (suc (bound f.0 + g.0))) k g.2)
      where
        at_frame : (c : ℕ) → c < L.width → (x : ℕ) → bound c < x → x ≤ m.numbers.reached c → m.memory.change c x ≡ k → (y : Numbered-as H (length j.history) k) × Above L.width H j.start bound y.i
        at_frame c l x lo hi q =
            let t : Maker H j.start (length j.history) c x = maker H j.start (length j.history) c x (omega (arith, r.ranges.from_start c l, base-bound c l, lo)) (omega (arith, hi, a.levels.high c l)) in (
              record {
                i = t.at;
                in_history = t.in_history;
                is_number = sym (a.framed.number_is t.at c t.in_history l t.wrote (omega (arith, base-bound c l, lo, t.makes)) (omega (arith, hi, t.makes))) ∙ ap (m.memory.change c) t.makes ∙ q;
              },
              record { c = c; is_card_lem = l; wrote_it = t.wrote; is_above = omega (arith, lo, t.makes) },
            )

    -- a change above the bound on a card that has taken it has a frame there
    above_frames : (i : ℕ) → i < length j.history → (b : Above L.width H j.start bound i) → made H j.start i b.c ≤ m.numbers.reached b.c → some_frame_above L m (H i).number bound ≡ true
    above_frames i h b hi =
        any_intro L.width (λ c. m.present c && frame_above m (H i).number c (bound c)) b.c b.is_card_lem
        (and_intro (a.there i b.c h b.is_card_lem (writes_touches (H i) b.c b.wrote_it))
        (any_intro (m.numbers.reached b.c - bound b.c) (λ s. eqb (m.memory.change b.c (suc (bound b.c + s))) (H i).number) (made H j.start i b.c - suc (bound b.c))
        (omega (arith, b.is_above, hi))
        (eq-eqb (m.memory.change b.c (suc (bound b.c + (made H j.start i b.c - suc (bound b.c))))) (H i).number
        (ap (m.memory.change b.c) place_is ∙ a.framed.number_is i b.c h b.is_card_lem b.wrote_it (omega (arith, base-bound b.c b.is_card_lem, b.is_above)) hi))))
      where
        place_is : suc (bound b.c + (made H j.start i b.c - suc (bound b.c))) ≡ made H j.start i b.c
        place_is = omega (arith, b.is_above)

  -- ---- lost
  base_line : (c : ℕ) → c < L.width → m.numbers.base c ≤ recovery_line L m c
  base_line c l = rw (line_right L m j r H a c l) ((intact L m j r H a).base_line c l)

  line_reached : (c : ℕ) → c < L.width → recovery_line L m c ≤ m.numbers.reached c
  line_reached c l = rw (line_right L m j r H a c l) (le_trans ((intact L m j r H a).line_stored c l) ((intact L m j r H a).stored_reached c l))

  pub lost_right : is_down m.phase ≡ true → (k : ℕ) → is_lost L m k ≡ true → (x : Numbered-as H (length j.history) k) × (lost L.width H j.start (recovery_line L m) x.i ≡ true)
  lost_right is_down_lem k e =
      ⊎_elim framed ended (or_elim (some_frame_above L m k (recovery_line L m)) (any_below L.slots (λ p. eqb (m.ended p) k)) (and_right (not (eqb k 0)) (some_frame_above L m k (recovery_line L m) || any_below L.slots (λ p. eqb (m.ended p) k)) e))
    where
      framed : some_frame_above L m k (recovery_line L m) ≡ true → (x : Numbered-as H (length j.history) k) × (lost L.width H j.start (recovery_line L m) x.i ≡ true)
      framed z =
          let q : (x : Numbered-as H (length j.history) k) × Above L.width H j.start (recovery_line L m) x.i = frames_above (recovery_line L m) base_line k z in
          (q.0, above_lost L.width H j.start (recovery_line L m) q.0.i q.1)

      ended : any_below L.slots (λ p. eqb (m.ended p) k) ≡ true → (x : Numbered-as H (length j.history) k) × (lost L.width H j.start (recovery_line L m) x.i ≡ true)
      ended z =
          let f : Found L.slots (λ p. eqb (m.ended p) k) = any_elim L.slots (λ p. eqb (m.ended p) k) z in
          let q : m.ended f.0 ≡ k = eqb-true (m.ended f.0) k f.2 in
          let u : Unfinished L.width H (length j.history) r.took (m.ended f.0) = a.ended_real is_down_lem f.0 f.1 (λ (y : m.ended f.0 ≡ 0). clash (eq-eqb k 0 (sym q ∙ y)) (not_true (eqb k 0) (and_left (not (eqb k 0)) (some_frame_above L m k (recovery_line L m) || any_below L.slots (λ p. eqb (m.ended p) k)) e))) in (
            record { i = u.i; in_history = u.in_history; is_number = u.is_number ∙ q },
            above_lost L.width H j.start (recovery_line L m) u.i
                (record {
                  c = u.c;
                  is_card_lem = u.is_card_lem;
                  wrote_it = u.wrote;
                  is_above = by_cases (dec_le (made H j.start u.i u.c) (recovery_line L m u.c))
                      (λ y. clash (a.levels.taken u.i u.c u.in_history u.is_card_lem u.wrote (le_trans y (line_reached u.c u.is_card_lem))) u.untaken) (λ y. omega (arith, y));
                }),
          )

  pub right_lost : is_down m.phase ≡ true → (i : ℕ) → i < length j.history → lost L.width H j.start (recovery_line L m) i ≡ true → is_lost L m (H i).number ≡ true
  right_lost is_down_lem i h e =
      and_intro (not_intro (ne_eqb (H i).number 0 (λ (z : (H i).number ≡ 0). absurd (omega (arith, a.numbered.positive i h, z)))))
      (by_cases (dec_le (made H j.start i b.c) (m.numbers.reached b.c))
      (λ y. or_left (any_below L.slots (λ p. eqb (m.ended p) (H i).number)) (above_frames (recovery_line L m) base_line i h b y))
      (λ y. or_right (some_frame_above L m (H i).number (recovery_line L m)) (remembered y)))
    where
      b : Above L.width H j.start (recovery_line L m) i
      b = lost_above L.width H j.start (recovery_line L m) i e

      remembered : ¬ (made H j.start i b.c ≤ m.numbers.reached b.c) → any_below L.slots (λ p. eqb (m.ended p) (H i).number) ≡ true
      remembered y =
          let u : Remembers L m.ended (H i).number = a.ended_untaken is_down_lem i b.c h b.is_card_lem b.wrote_it (fails (r.took i b.c) (λ z. y (a.levels.up_to i b.c h b.is_card_lem b.wrote_it z))) in
          any_intro L.slots (λ p. eqb (m.ended p) (H i).number) u.p u.is_slot (eq-eqb (m.ended u.p) (H i).number u.is_number)

  -- ---- the list: a line that is the same on every card
  module _ (is_down_lem : is_down m.phase ≡ true) (line : Numbers) (line_is_lem : (c : ℕ) → c < L.width → recovery_line L m c ≡ line c) where
    abbrev N : ℕ
    N = length j.history

    abbrev is_number_lem : ℕ → Bool
    is_number_lem = is_lost_number L.width H j.start N line

    same_lost : (i : ℕ) → lost L.width H j.start (recovery_line L m) i ≡ lost L.width H j.start line i
    same_lost = lost_same L.width H j.start (recovery_line L m) line line_is_lem

    -- a number is lost where a lost change of the history has it
    pub lost_number : (k : ℕ) → is_lost L m k ≡ is_number_lem k
    lost_number k =
        same_test (is_lost L m k) (is_number_lem k)
        (λ e. let q : (y : Numbered-as H N k) × (lost L.width H j.start (recovery_line L m) y.i ≡ true) = lost_right is_down_lem k e in
        any_intro N test_of q.0.i q.0.in_history (and_intro (sym (same_lost q.0.i) ∙ q.1) (eq-eqb (H q.0.i).number k q.0.is_number)))
        (λ e. let f : Found N test_of = any_elim N test_of e in
        let q : (H f.0).number ≡ k = eqb-true (H f.0).number k (and_right (lost L.width H j.start line f.0) (eqb (H f.0).number k) f.2) in
        ap (is_lost L m) (sym q) ∙ right_lost is_down_lem f.0 f.1 (same_lost f.0 ∙ and_left (lost L.width H j.start line f.0) (eqb (H f.0).number k) f.2))
      where
        test_of : ℕ → Bool
        test_of i = lost L.width H j.start line i && eqb (H i).number k

    -- the list of the cabinet is that of the history
    pub lost_numbers_are : lost_numbers L m ≡ history.lost_numbers L.width H j.start N line
    lost_numbers_are =
        ap (λ (p : ℕ → Bool). those p (suc (greatest_lost L m))) (λ i k. lost_number k i)
        ∙ those_same is_number_lem (greatest_lost L m) (greatest N (λ i. (H i).number))
        (λ k h. fails (is_number_lem k) (λ e. absurd (omega (arith, h, lost_below L m k (lost_number k ∙ e)))))
        (λ k h. fails (is_number_lem k) (λ e. absurd (omega (arith, h, lost_number_below L.width H j.start N line k e))))
