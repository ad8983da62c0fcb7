-- Decided changes and the shares taken of them: what a decision, a written share and a read share keep. No cabinet is in sight: numbers, vectors and frames
-- are functions of the card. Assumes nothing.
use Prim.Native.Nat.{ℕ, suc, ◌+◌, ◌≤◌, ◌<◌}
use mathlib.Core.Path.{◌≡◌, refl}
use mathlib.Core.Bool.{true, false, ◌&&◌, ◌||◌}
use mathlib.Core.Logic.{◌⊎◌, inl, inr, by_cases, ⊎_elim}
use native.Mathlib.Nat.{le_refl, le_trans, le_step, le_antisymm}
use native.Mathlib.Decide.{dec_le, dec_lt, ℕ_discrete}
use native.Mathlib.Omega.{arith}
use lib.Dec.{eqb}
use borrow.Author.Tests.{eqb-true, eq-eqb, ne_eqb}
use Rattle.base_laws.proofs.Logic.{clash, and_left, and_right, or_left, or_right, or_elim}
use Rattle.base_laws.proofs.Below.{below_suc}
use Rattle.theory_protocol.specs.Edit.{put}
use Rattle.theory_history.specs.Change.{CardSet, History, Numbers, touches, meets, writers, found, made, direct, UpTo}
use Rattle.theory_history.specs.Vector.{Vector, Tracked, joined, vector_of, vector}
use Rattle.theory_history.proofs.Writers.{Maker, maker, one_maker, made_found, writers_mono}
use Rattle.theory_history.proofs.Precedence.{up_to_trans, writes_touches, meets_intro}
use Rattle.theory_history.proofs.Greatest.{Greatest, greatest_of, greatest_either, greatest_unique}
use Rattle.theory_history.proofs.Vectors.{Stands, vector_stands, vector_greatest}

-- which card has taken its share of which change, by its position
abbrev pub Took : Type 0
Took = ℕ → CardSet

-- up to a change that wrote card c, or touched it, and whose share the card has taken
abbrev pub ByTakenWriters : ℕ → History → ℕ → Took → ℕ → ℕ → Type 0
ByTakenWriters w H n took c t = (k : ℕ) × (k < n) × (took k c ≡ true) × ((H k).writes c ≡ true) × UpTo w H t k

abbrev pub ByTakenTouchers : ℕ → History → ℕ → Took → ℕ → ℕ → Type 0
ByTakenTouchers w H n took c t = (k : ℕ) × (k < n) × (took k c ≡ true) × (touches (H k) c ≡ true) × UpTo w H t k

-- of two changes that meet on a card the card has taken the earlier
pub record Orderly (w : ℕ) (H : History) (n : ℕ) (took : Took) : Type 0 where
  pub decided_only : (i c : ℕ) → took i c ≡ true → i < n
  pub earlier_taken : (i k c : ℕ) → i < k → k < n → c < w → meets (H i) (H k) c ≡ true → took i c ≡ true

-- reached is the state that the last writer taken made
pub record Levels (w : ℕ) (H : History) (start : Numbers) (n : ℕ) (took : Took) (reached : Numbers) : Type 0 where
  pub low : (c : ℕ) → c < w → start c ≤ reached c
  pub high : (c : ℕ) → c < w → reached c ≤ start c + writers H c n
  pub up_to : (i c : ℕ) → i < n → c < w → (H i).writes c ≡ true → took i c ≡ true → made H start i c ≤ reached c
  pub taken : (i c : ℕ) → i < n → c < w → (H i).writes c ≡ true → made H start i c ≤ reached c → took i c ≡ true

-- last is the greatest over the writers taken, pending over all taken
pub record Tracks (w : ℕ) (H : History) (start : Numbers) (n : ℕ) (took : Took) (last pending : ℕ → Vector) : Type 0 where
  pub last_is : (c j : ℕ) → c < w → j < w → Greatest H start (ByTakenWriters w H n took c) j (last c j)
  pub pending_is : (c j : ℕ) → c < w → j < w → Greatest H start (ByTakenTouchers w H n took c) j (pending c j)

-- each state in hand, from base + 1 to reached, has its maker's number and vector
pub record Framed (w : ℕ) (H : History) (start : Numbers) (n : ℕ) (base reached : Numbers) (mark : ℕ → ℕ → ℕ) (frame : ℕ → ℕ → Vector) : Type 0 where
  pub number_is : (i c : ℕ) → i < n → c < w → (H i).writes c ≡ true → base c < made H start i c → made H start i c ≤ reached c → mark c (made H start i c) ≡ (H i).number
  pub vector_is_lem : (i c j : ℕ) → i < n → c < w → j < w → (H i).writes c ≡ true → base c < made H start i c → made H start i c ≤ reached c → frame c (made H start i c) j ≡ vector w H start i j

-- every state at or below base depends on none above the bases
pub record Based (w : ℕ) (H : History) (start : Numbers) (n : ℕ) (base : Numbers) : Type 0 where
  pub cut : (i c j : ℕ) → i < n → c < w → j < w → (H i).writes c ≡ true → made H start i c ≤ base c → vector w H start i j ≤ base j

module _ (w : ℕ) (H : History) (start : Numbers) (n : ℕ) (took : Took) where
  -- ---- a decision: change n joins the history, with every change that meets it taken
  pub orderly_decided : Orderly w H n took → ((i c : ℕ) → i < n → c < w → meets (H i) (H n) c ≡ true → took i c ≡ true) → Orderly w H (suc n) took
  orderly_decided o joins =
      record {
        decided_only = λ i c t. le_step (o.decided_only i c t);
        earlier_taken = λ i k c a b l e. ⊎_elim (λ (q : k ≡ n). joins i c (omega arith) l (rw q at e)) (λ (z : k < n). o.earlier_taken i k c a z l e) (below_suc b);
      }

  -- on a card that change n meets every earlier writer is taken: reached is what change n finds
  pub reached_decided : Orderly w H n took → {reached : Numbers} → Levels w H start n took reached → ((i c : ℕ) → i < n → c < w → meets (H i) (H n) c ≡ true → took i c ≡ true)
      → (c : ℕ) → c < w → touches (H n) c ≡ true → reached c ≡ found H start n c
  reached_decided o {reached} v joins c l e = le_antisymm (v.high c l) (by_cases (dec_lt (start c) (found H start n c)) above (λ h. omega (arith, h, v.low c l)))
    where
      above : start c < found H start n c → found H start n c ≤ reached c
      above h =
          let m : Maker H start n c (found H start n c) = maker H start n c (found H start n c) h (omega arith) in
          rw m.makes at (v.up_to m.at c m.in_history l m.wrote (joins m.at c m.in_history l (meets_intro (H m.at) (H n) c (writes_touches (H m.at) c m.wrote) e (inl m.wrote))))

  pub levels_decided : Orderly w H n took → {reached : Numbers} → Levels w H start n took reached → Levels w H start (suc n) took reached
  levels_decided o {reached} v =
      record {
        low = v.low;
        high = λ c l. le_trans (v.high c l) (omega (arith, writers_mono H start c {i = n} {k = suc n} (le_step (le_refl n))));
        up_to = λ i c h l e t. v.up_to i c (o.decided_only i c t) l e t;
        taken = λ i c h l e z. ⊎_elim (λ (q : i ≡ n). absurd (too_high c l (rw q at z))) (λ (y : i < n). v.taken i c y l e z) (below_suc h);
      }
    where
      too_high : (c : ℕ) → c < w → made H start n c ≤ reached c → ⊥
      too_high c l z = omega (arith, v.high c l, z)

  pub tracks_decided : Orderly w H n took → {last pending : ℕ → Vector} → Tracks w H start n took last pending → Tracks w H start (suc n) took last pending
  tracks_decided o v =
      record {
        last_is = λ c j l lj. greatest_of (λ t b. (b.0, le_step b.1, b.2, b.3, b.4)) (λ t b. (b.0, o.decided_only b.0 c b.2, b.2, b.3, b.4)) (v.last_is c j l lj);
        pending_is = λ c j l lj. greatest_of (λ t b. (b.0, le_step b.1, b.2, b.3, b.4)) (λ t b. (b.0, o.decided_only b.0 c b.2, b.2, b.3, b.4)) (v.pending_is c j l lj);
      }

  pub framed_decided : {reached : Numbers} → Levels w H start n took reached → {base : Numbers} {mark : ℕ → ℕ → ℕ} {frame : ℕ → ℕ → Vector} → Framed w H start n base reached mark frame → Framed w H start (suc n) base reached mark frame
  framed_decided {reached} v f =
      record {
        number_is = λ i c h l e a b. f.number_is i c (older i c h l b) l e a b;
        vector_is_lem = λ i c j h l lj e a b. f.vector_is_lem i c j (older i c h l b) l lj e a b;
      }
    where
      older : (i c : ℕ) → i < suc n → c < w → made H start i c ≤ reached c → i < n
      older i c h l b = ⊎_elim (λ (q : i ≡ n). let z : made H start n c ≤ reached c = rw q at b in absurd (omega (arith, v.high c l, z))) (λ (y : i < n). y) (below_suc h)

  pub based_decided : {base reached : Numbers} → Levels w H start n took reached → ((c : ℕ) → c < w → base c ≤ reached c) → Based w H start n base → Based w H start (suc n) base
  based_decided {base} {reached} v le b =
      record {
        cut = λ i c j h l lj e z. ⊎_elim (λ (q : i ≡ n). let y : made H start n c ≤ base c = rw q at z in absurd (omega (arith, v.high c l, le c l, y))) (λ (y : i < n). b.cut i c j y l lj e z) (below_suc h);
      }

  -- the vector that a vote works out from what is tracked is the vector of the change
  pub vector_decided : Orderly w H n took → (h : Tracked) → Levels w H start n took h.reached → Tracks w H start n took h.last h.pending
      → ((i c : ℕ) → i < n → c < w → meets (H i) (H n) c ≡ true → took i c ≡ true) → (j : ℕ) → j < w → vector_of w h (H n) j ≡ vector w H start n j
  vector_decided o h v r joins j lj = greatest_unique (vector_stands w H start h n stands j lj) (vector_greatest w H start n j lj)
    where
      stands : Stands w H start h n
      stands =
          record {
            reached_is = λ c l e. reached_decided o v joins c l (writes_touches (H n) c e);
            last_is = λ c l e d j lj. greatest_of (λ t b. (b.0, b.1, b.3, b.4))
                (λ t b. (b.0, b.1, joins b.0 c b.1 l (meets_intro (H b.0) (H n) c (writes_touches (H b.0) c b.2) (or_left ((H n).writes c) d) (inl b.2)), b.2, b.3))
                (r.last_is c j l lj);
            pending_is = λ c l e j lj. greatest_of (λ t b. (b.0, b.1, b.3, b.4))
                (λ t b. (b.0, b.1, joins b.0 c b.1 l (meets_intro (H b.0) (H n) c b.2 (writes_touches (H n) c e) (inr e)), b.2, b.3))
                (r.pending_is c j l lj);
          }

-- ---- a share: card c takes change i
-- the shares taken, with one more
abbrev pub also_took : Took → ℕ → ℕ → Took
also_took took i c k d = (eqb k i && eqb d c) || took k d

pub put_same : {A : Type 0} (f : ℕ → A) (i : ℕ) (v : A) → put f i v i ≡ v
put_same f i v = rw (eq-eqb i i refl)

pub put_other : {A : Type 0} (f : ℕ → A) (i : ℕ) (v : A) (k : ℕ) → ¬ (k ≡ i) → put f i v k ≡ f k
put_other f i v k q = rw (ne_eqb k i q)

-- a fact of a function put anew at i, from the fact at i and the facts elsewhere
pub put_case : {A : Type 0} (P : ℕ → A → Type 0) (f : ℕ → A) (i : ℕ) (v : A) (k : ℕ) → (k ≡ i → P k v) → (¬ (k ≡ i) → P k (f k)) → P k (put f i v k)
put_case P f i v k a b =
    by_cases (ℕ_discrete k i) (λ (q : k ≡ i). rw (eq-eqb k i q) (a q)) (λ q. rw (put_other f i v k q) (b q))

pub took_older : (took : Took) (i c k d : ℕ) → took k d ≡ true → also_took took i c k d ≡ true
took_older took i c k d t = or_right (eqb k i && eqb d c) t

pub took_now : (took : Took) (i c : ℕ) → also_took took i c i c ≡ true
took_now took i c = rw (eq-eqb i i refl, eq-eqb c c refl)

pub took_cases : (took : Took) (i c k d : ℕ) → also_took took i c k d ≡ true → ((k ≡ i) × (d ≡ c)) ⊎ (took k d ≡ true)
took_cases took i c k d t =
    ⊎_elim (λ (e : eqb k i && eqb d c ≡ true). inl (eqb-true k i (and_left (eqb k i) (eqb d c) e), eqb-true d c (and_right (eqb k i) (eqb d c) e)))
    (λ (e : took k d ≡ true). inr e) (or_elim (eqb k i && eqb d c) (took k d) t)

module _ (w : ℕ) (H : History) (start : Numbers) (n : ℕ) (took : Took) (o : Orderly w H n took) (i c : ℕ) (h : i < n) (l : c < w) (not_taken : took i c ≡ false) where
  pub orderly_took : Orderly w H n (also_took took i c)
  orderly_took =
      record {
        decided_only = λ k d t. ⊎_elim (λ (q : (k ≡ i) × (d ≡ c)). rw q.0 h) (λ (e : took k d ≡ true). o.decided_only k d e) (took_cases took i c k d t);
        earlier_taken = λ k m d a b ld e. took_older took i c k d (o.earlier_taken k m d a b ld e);
      }

  -- a change that meets i on card c and is taken there comes before i
  taken_earlier : (k : ℕ) → took k c ≡ true → meets (H i) (H k) c ≡ true → k < i
  taken_earlier k t e =
      by_cases (dec_lt k i) (λ z. z)
      (λ z. by_cases (ℕ_discrete k i) (λ (q : k ≡ i). clash (rw q at t) not_taken)
      (λ q. clash (o.earlier_taken i k c (omega (arith, z, q)) (o.decided_only k c t) l e) not_taken))

  -- ---- a written share
  module _ (e : (H i).writes c ≡ true) {reached : Numbers} (v : Levels w H start n took reached) where
    pub reached_next : suc (reached c) ≡ made H start i c
    reached_next =
        le_antisymm (by_cases (dec_le (made H start i c) (reached c)) (λ z. clash (v.taken i c h l e z) not_taken) (λ z. omega (arith, z)))
        (by_cases (dec_lt (start c) (found H start i c)) above (λ z. omega (arith, z, v.low c l)))
      where
        above : start c < found H start i c → made H start i c ≤ suc (reached c)
        above z =
            let m : Maker H start i c (found H start i c) = maker H start i c (found H start i c) z (omega arith) in
            let t : took m.at c ≡ true = o.earlier_taken m.at i c m.in_history h l (meets_intro (H m.at) (H i) c (writes_touches (H m.at) c m.wrote) (writes_touches (H i) c e) (inr e)) in
            omega (arith, m.makes, v.up_to m.at c (omega (arith, m.in_history)) l m.wrote t)

    pub levels_wrote : Levels w H start n (also_took took i c) (put reached c (suc (reached c)))
    levels_wrote =
        record {
          low = λ d ld. put_case (λ k x. start k ≤ x) reached c (suc (reached c)) d (λ (q : d ≡ c). rw q (omega (arith, v.low c l))) (λ q. v.low d ld);
          high = λ d ld. put_case (λ k x. x ≤ start k + writers H k n) reached c (suc (reached c)) d (λ (q : d ≡ c). rw q (omega (arith, reached_next, made_found H start c h e))) (λ q. v.high d ld);
          up_to = λ k d hk ld ek t. put_case (λ y x. (H k).writes y ≡ true → also_took took i c k y ≡ true → made H start k y ≤ x) reached c (suc (reached c)) d
              (λ (q : d ≡ c). rw q (λ ek' t'. ⊎_elim (λ (z : (k ≡ i) × (c ≡ c)). rw z.0 (omega (arith, reached_next))) (λ (z : took k c ≡ true). le_step (v.up_to k c hk l ek' z)) (took_cases took i c k c t')))
              (λ q ek' t'. ⊎_elim (λ (z : (k ≡ i) × (d ≡ c)). absurd (q z.1)) (λ (z : took k d ≡ true). v.up_to k d hk ld ek' z) (took_cases took i c k d t')) ek t;
          taken = λ k d hk ld ek z. put_case (λ y x. (H k).writes y ≡ true → made H start k y ≤ x → also_took took i c k y ≡ true) reached c (suc (reached c)) d
              (λ (q : d ≡ c). rw q (λ ek' y. by_cases (dec_le (made H start k c) (reached c)) (λ g. took_older took i c k c (v.taken k c hk l ek' g))
              (λ g. let s : k ≡ i = one_maker H start c ek' e (omega (arith, g, y, reached_next)) in rw s (took_now took i c))))
              (λ q ek' y. took_older took i c k d (v.taken k d hk ld ek' y)) ek z;
        }

    -- v is the vector of change i
    pub tracks_wrote : (u : Vector) → ((j : ℕ) → j < w → u j ≡ vector w H start i j) → {last pending : ℕ → Vector} → Tracks w H start n took last pending
        → Tracks w H start n (also_took took i c) (put last c u) (put pending c u)
    tracks_wrote u same {last} {pending} r =
        record {
          last_is = λ d j ld lj. put_case (λ y x. Greatest H start (ByTakenWriters w H n (also_took took i c) y) j (x j)) last c u d
              (λ (q : d ≡ c). rw (q, same j lj) (greatest_of (λ t b. (i, h, took_now took i c, e, b)) (λ t b. through t (as_toucher t b)) (vector_greatest w H start i j lj)))
              (λ q. elsewhere_writers d j q (r.last_is d j ld lj));
          pending_is = λ d j ld lj. put_case (λ y x. Greatest H start (ByTakenTouchers w H n (also_took took i c) y) j (x j)) pending c u d
              (λ (q : d ≡ c). rw (q, same j lj) (greatest_of (λ t b. (i, h, took_now took i c, writes_touches (H i) c e, b)) through (vector_greatest w H start i j lj)))
              (λ q. elsewhere_touchers d j q (r.pending_is d j ld lj));
        }
      where
        as_toucher : (t : ℕ) → ByTakenWriters w H n (also_took took i c) c t → ByTakenTouchers w H n (also_took took i c) c t
        as_toucher t b = (b.0, b.1, b.2, writes_touches (H b.0) c b.3, b.4)

        through : (t : ℕ) → ByTakenTouchers w H n (also_took took i c) c t → UpTo w H t i
        through t b =
            ⊎_elim (λ (z : (b.0 ≡ i) × (c ≡ c)). rw z.0 at b.4)
            (λ (z : took b.0 c ≡ true).
            let m : meets (H i) (H b.0) c ≡ true = meets_intro (H i) (H b.0) c (writes_touches (H i) c e) b.3 (inl e) in
            up_to_trans b.4 (inr (direct c l (taken_earlier b.0 z m) (meets_intro (H b.0) (H i) c b.3 (writes_touches (H i) c e) (inr e)))))
            (took_cases took i c b.0 c b.2)

        elsewhere_writers : (d j : ℕ) → ¬ (d ≡ c) → {x : ℕ} → Greatest H start (ByTakenWriters w H n took d) j x → Greatest H start (ByTakenWriters w H n (also_took took i c) d) j x
        elsewhere_writers d j q g =
            greatest_of (λ t b. (b.0, b.1, took_older took i c b.0 d b.2, b.3, b.4))
            (λ t b. (b.0, b.1, ⊎_elim (λ (z : (b.0 ≡ i) × (d ≡ c)). absurd (q z.1)) (λ (z : took b.0 d ≡ true). z) (took_cases took i c b.0 d b.2), b.3, b.4)) g

        elsewhere_touchers : (d j : ℕ) → ¬ (d ≡ c) → {x : ℕ} → Greatest H start (ByTakenTouchers w H n took d) j x → Greatest H start (ByTakenTouchers w H n (also_took took i c) d) j x
        elsewhere_touchers d j q g =
            greatest_of (λ t b. (b.0, b.1, took_older took i c b.0 d b.2, b.3, b.4))
            (λ t b. (b.0, b.1, ⊎_elim (λ (z : (b.0 ≡ i) × (d ≡ c)). absurd (q z.1)) (λ (z : took b.0 d ≡ true). z) (took_cases took i c b.0 d b.2), b.3, b.4)) g

    pub framed_wrote : (u : Vector) → ((j : ℕ) → j < w → u j ≡ vector w H start i j) → {base : Numbers} {mark : ℕ → ℕ → ℕ} {frame : ℕ → ℕ → Vector} → Framed w H start n base reached mark frame
        → Framed w H start n base (put reached c (suc (reached c))) (put mark c (put (mark c) (suc (reached c)) (H i).number)) (put frame c (put (frame c) (suc (reached c)) u))
    framed_wrote u same {base} {mark} {frame} f =
        record {
          number_is = λ k d hk ld ek a b. by_cases (ℕ_discrete d c)
              (λ (q : d ≡ c). number_here k hk (rw q at ek) d q a (rw (q, put_same reached c (suc (reached c))) at b))
              (λ q. rw (put_other mark c (put (mark c) (suc (reached c)) (H i).number) d q) (f.number_is k d hk ld ek a (rw (put_other reached c (suc (reached c)) d q) at b)));
          vector_is_lem = λ k d j hk ld lj ek a b. by_cases (ℕ_discrete d c)
              (λ (q : d ≡ c). vector_here k j hk lj (rw q at ek) d q a (rw (q, put_same reached c (suc (reached c))) at b))
              (λ q. rw (put_other frame c (put (frame c) (suc (reached c)) u) d q) (f.vector_is_lem k d j hk ld lj ek a (rw (put_other reached c (suc (reached c)) d q) at b)));
        }
      where
        is_i : (k : ℕ) → (H k).writes c ≡ true → made H start k c ≡ suc (reached c) → k ≡ i
        is_i k ek q = one_maker H start c ek e (omega (arith, q, reached_next))

        number_here : (k : ℕ) → k < n → (H k).writes c ≡ true → (d : ℕ) → d ≡ c → base d < made H start k d → made H start k c ≤ suc (reached c)
            → put mark c (put (mark c) (suc (reached c)) (H i).number) d (made H start k d) ≡ (H k).number
        number_here k hk ek d q a b =
            rw (q, put_same mark c (put (mark c) (suc (reached c)) (H i).number))
            (put_case (λ y x. y ≡ made H start k c → x ≡ (H k).number) (mark c) (suc (reached c)) (H i).number (made H start k c)
            (λ z g. let s : k ≡ i = is_i k ek z in rw s refl)
            (λ z g. f.number_is k c hk l ek (rw q at a) (omega (arith, b, z))) refl)

        vector_here : (k j : ℕ) → k < n → j < w → (H k).writes c ≡ true → (d : ℕ) → d ≡ c → base d < made H start k d → made H start k c ≤ suc (reached c)
            → put frame c (put (frame c) (suc (reached c)) u) d (made H start k d) j ≡ vector w H start k j
        vector_here k j hk lj ek d q a b =
            rw (q, put_same frame c (put (frame c) (suc (reached c)) u))
            (put_case (λ y x. y ≡ made H start k c → x j ≡ vector w H start k j) (frame c) (suc (reached c)) u (made H start k c)
            (λ z g. let s : k ≡ i = is_i k ek z in rw s (same j lj))
            (λ z g. f.vector_is_lem k c j hk l lj ek (rw q at a) (omega (arith, b, z))) refl)

  -- ---- a read share
  module _ (e : (H i).writes c ≡ false) (d : (H i).reads c ≡ true) where
    pub levels_read : {reached : Numbers} → Levels w H start n took reached → Levels w H start n (also_took took i c) reached
    levels_read v =
        record {
          low = v.low;
          high = v.high;
          up_to = λ k y hk ly ek t. ⊎_elim (λ (z : (k ≡ i) × (y ≡ c)). clash (rw (z.0, z.1) at ek) e) (λ (z : took k y ≡ true). v.up_to k y hk ly ek z) (took_cases took i c k y t);
          taken = λ k y hk ly ek z. took_older took i c k y (v.taken k y hk ly ek z);
        }

    pub tracks_read : (u : Vector) → ((j : ℕ) → j < w → u j ≡ vector w H start i j) → {last pending : ℕ → Vector} → Tracks w H start n took last pending
        → Tracks w H start n (also_took took i c) last (put pending c (joined (pending c) u))
    tracks_read u same {last} {pending} r =
        record {
          last_is = λ y j ly lj. greatest_of (λ t b. (b.0, b.1, took_older took i c b.0 y b.2, b.3, b.4))
              (λ t b. (b.0, b.1, ⊎_elim (λ (z : (b.0 ≡ i) × (y ≡ c)). clash (rw (z.0, z.1) at b.3) e) (λ (z : took b.0 y ≡ true). z) (took_cases took i c b.0 y b.2), b.3, b.4))
              (r.last_is y j ly lj);
          pending_is = λ y j ly lj. put_case (λ k x. Greatest H start (ByTakenTouchers w H n (also_took took i c) k) j (x j)) pending c (joined (pending c) u) y
              (λ (q : y ≡ c). rw (q, same j lj) (greatest_of here there (greatest_either (r.pending_is c j l lj) (vector_greatest w H start i j lj))))
              (λ q. greatest_of (λ t b. (b.0, b.1, took_older took i c b.0 y b.2, b.3, b.4))
              (λ t b. (b.0, b.1, ⊎_elim (λ (z : (b.0 ≡ i) × (y ≡ c)). absurd (q z.1)) (λ (z : took b.0 y ≡ true). z) (took_cases took i c b.0 y b.2), b.3, b.4))
              (r.pending_is y j ly lj));
        }
      where
        here : (t : ℕ) → ByTakenTouchers w H n took c t ⊎ UpTo w H t i → ByTakenTouchers w H n (also_took took i c) c t
        here t (inl b) = (b.0, b.1, took_older took i c b.0 c b.2, b.3, b.4)
        here t (inr b) = (i, h, took_now took i c, or_left ((H i).writes c) d, b)

        there : (t : ℕ) → ByTakenTouchers w H n (also_took took i c) c t → ByTakenTouchers w H n took c t ⊎ UpTo w H t i
        there t b =
            ⊎_elim (λ (z : (b.0 ≡ i) × (c ≡ c)). inr (rw z.0 at b.4)) (λ (z : took b.0 c ≡ true). inl (b.0, b.1, z, b.3, b.4)) (took_cases took i c b.0 c b.2)
