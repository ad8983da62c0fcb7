-- A cabinet that meets the invariant is never refused with 28. Assumes nothing.
use Prim.Native.Nat.{ℕ, suc, ◌+◌, ◌-◌, ◌≤◌, ◌<◌}
use mathlib.Core.Path.{◌≡◌, refl, sym, ◌∙◌, ap}
use mathlib.Core.Bool.{Bool, true, not, ◌&&◌, ◌||◌, cond}
use mathlib.Core.Logic.{inl, inr, by_cases}
use native.Mathlib.Nat.{le_trans}
use native.Mathlib.Decide.{dec_lt, ℕ_discrete}
use native.Mathlib.Omega.{arith}
use lib.Dec.{eqb, leb}
use lib.ListN.{length}
use borrow.Author.Tests.{le-leb, lt-ltb, eq-eqb, ne_eqb}
use Rattle.base_laws.specs.Below.{all_below}
use Rattle.base_laws.proofs.Logic.{test, clash, fails, and_left, and_right, and_intro, or_left, or_right, not_true, not_intro}
use Rattle.base_laws.proofs.Below.{Found, any_elim, any_intro, all_intro}
use Rattle.theory_history.specs.Change.{CardSet, History, Numbers, touches, writers, UpTo, history_of}
use Rattle.theory_history.specs.Vector.{Vector, vector}
use Rattle.theory_history.proofs.Writers.{Maker, maker, made_found, found_mono}
use Rattle.theory_history.proofs.Precedence.{writes_touches, meets_intro, up_to_le}
use Rattle.theory_history.proofs.Greatest.{Greatest, Makes}
use Rattle.theory_history.proofs.Vectors.{vector_greatest}
use Rattle.theory_history.proofs.Cuts.{writers_precede}
use Rattle.theory_history.proofs.Lines.{vector_grows, vector_own}
use Rattle.theory_protocol.specs.Model.{Limits, Memory, Model, is_open, decided, to_write, strays}
use Rattle.theory_protocol.specs.Valid.{entries_valid, frame_valid, rises_valid, frames_valid, card_valid, room_to_write, slot_valid, valid}
use Rattle.theory_protocol.specs.Journal.{Journal}
use Rattle.theory_protocol.proofs.Taking.{Framed}
use Rattle.theory_protocol.proofs.Places.{Stood}
use Rattle.theory_protocol.proofs.Running.{Numbered, About, Running}
use Rattle.theory_protocol.proofs.Writes.{Writes, writes_valid}

-- an entry within the limits: 0, or of a card that is there and not above the greatest state
pub entry_valid : (v G : ℕ) (b : Bool) → (0 < v → (b ≡ true) × (v ≤ G)) → leb v (cond b G 0) ≡ true
entry_valid v G b f =
    by_cases (dec_lt 0 v) (λ h. rw (f h).0 (le-leb v G (f h).1))
    (λ h. le-leb v (cond b G 0) (omega (arith, h)))

module _ (L : Limits) (present : CardSet) (start : Numbers) (n : ℕ) (H : History) (there : (i c : ℕ) → i < n → c < L.width → touches (H i) c ≡ true → present c ≡ true)
    (bounded : (c : ℕ) → c < L.width → start c + writers H c n ≤ L.greatest_state) where
  -- the greatest state made on card j is that of a card that is there, within the limits
  pub greatest_valid : {Q : ℕ → Type 0} {j v : ℕ} → j < L.width → Greatest H start Q j v → ((t : ℕ) → Q t → t < n) → 0 < v → (present j ≡ true) × (v ≤ L.greatest_state)
  greatest_valid {Q} {j} {v} l g inside z =
      let m : Makes H start Q j v = g.met z in
      (there m.0 j (inside m.0 m.1) l (writes_touches (H m.0) j m.2), omega (arith, m.3, made_found H start j (inside m.0 m.1) m.2, bounded j l))

  pub vector_valid : (i : ℕ) → i < n → (v : Vector) → ((j : ℕ) → j < L.width → v j ≡ vector L.width H start i j) → entries_valid L present v ≡ true
  vector_valid i h v same =
      all_intro L.width (λ j. leb (v j) (cond (present j) L.greatest_state 0))
      (λ j l. entry_valid (v j) L.greatest_state (present j)
      (λ z. rw (same j l) (greatest_valid l (vector_greatest L.width H start i j l) (λ t u. omega (arith, h, up_to_le u)) (rw (same j l) at z))))

  pub blank_valid : (v : Vector) → ((j : ℕ) → j < L.width → v j ≡ 0) → entries_valid L present v ≡ true
  blank_valid v e =
      all_intro L.width (λ j. leb (v j) (cond (present j) L.greatest_state 0)) (λ j l. le-leb (v j) (cond (present j) L.greatest_state 0) (omega (arith, e j l)))

  -- the frames in hand
  module _ (base reached : Numbers) (y : Memory) (f : Framed L.width H start n base reached y.change y.frame) (latest : ℕ) (nb : Numbered L.width H n latest)
      (c : ℕ) (l : c < L.width) (from_start : start c ≤ base c) (top : reached c ≤ start c + writers H c n) where
    pub frame_change : (x : ℕ) → base c < x → x ≤ reached c → Maker H start n c x
    frame_change x a b = maker H start n c x (omega arith) (omega arith)

    pub number_at : (x : ℕ) → base c < x → x ≤ reached c → (k : Maker H start n c x) → y.change c x ≡ (H k.at).number
    number_at x a b k = ap (y.change c) (sym k.makes) ∙ f.number_is k.at c k.in_history l k.wrote (omega (arith, k.makes, a)) (omega (arith, k.makes, b))

    pub vector_at_lem : (x : ℕ) → base c < x → x ≤ reached c → (k : Maker H start n c x) → (j : ℕ) → j < L.width → y.frame c x j ≡ vector L.width H start k.at j
    vector_at_lem x a b k j lj = ap (λ (z : ℕ). y.frame c z j) (sym k.makes) ∙ f.vector_is_lem k.at c j k.in_history l lj k.wrote (omega (arith, k.makes, a)) (omega (arith, k.makes, b))

    pub one_frame : (x : ℕ) → base c < x → x ≤ reached c → not (eqb (y.change c x) 0) && eqb (y.frame c x c) x && entries_valid L present (y.frame c x) ≡ true
    one_frame x a b =
        let k : Maker H start n c x = frame_change x a b in
        and_intro
        (and_intro (not_intro (ne_eqb (y.change c x) 0 (λ (z : y.change c x ≡ 0). absurd (omega (arith, nb.positive k.at k.in_history, number_at x a b k, z)))))
        (eq-eqb (y.frame c x c) x (vector_at_lem x a b k c l ∙ vector_own L.width H start k.at c l k.wrote ∙ k.makes)))
        (vector_valid k.at k.in_history (y.frame c x) (vector_at_lem x a b k))

    pub two_frames : (x : ℕ) → base c < x → suc x ≤ reached c → rises_valid L y c x ≡ true
    two_frames x a b =
        let k : Maker H start n c x = frame_change x a (omega arith) in
        let k' : Maker H start n c (suc x) = frame_change (suc x) (omega arith) b in
        let o : k.at < k'.at = by_cases (dec_lt k.at k'.at) (λ z. z) (λ z. absurd (omega (arith, k.makes, k'.makes, found_mono H start c {i = k'.at} {k = k.at} (omega (arith, z))))) in
        let u : UpTo L.width H k.at k'.at = inr (writers_precede L.width H c l o k.wrote k'.wrote) in
        and_intro
        (lt-ltb (y.change c x) (y.change c (suc x))
        (omega (
          arith,
          number_at x a (omega arith) k,
          number_at (suc x) (omega arith) b k',
          nb.rising k.at k'.at c o k'.in_history l (meets_intro (H k.at) (H k'.at) c (writes_touches (H k.at) c k.wrote) (writes_touches (H k'.at) c k'.wrote) (inl k.wrote)),
        )))
        (all_intro L.width (λ j. leb (y.frame c x j) (y.frame c (suc x) j))
        (λ j lj. le-leb (y.frame c x j) (y.frame c (suc x) j)
        (omega (arith, vector_at_lem x a (omega arith) k j lj, vector_at_lem (suc x) (omega arith) b k' j lj, vector_grows L.width H start u j lj))))

pub frames_valid_lem : (L : Limits) (m : Model) (start : Numbers) (n : ℕ) (H : History) → ((i c : ℕ) → i < n → c < L.width → touches (H i) c ≡ true → m.present c ≡ true)
    → ((c : ℕ) → c < L.width → start c + writers H c n ≤ L.greatest_state)
    → Framed L.width H start n m.numbers.base m.numbers.reached m.memory.change m.memory.frame → (latest : ℕ) → Numbered L.width H n latest
    → (c : ℕ) → c < L.width → start c ≤ m.numbers.base c → m.numbers.reached c ≤ start c + writers H c n → frames_valid L m c ≡ true
frames_valid_lem L m start n H there bounded f latest nb c l low top =
    all_intro (m.numbers.reached c - m.numbers.base c)
    (λ k. frame_valid L m c (suc (m.numbers.base c + k)) && (eqb k 0 || rises_valid L m.memory c (m.numbers.base c + k)))
    (λ k h. and_intro (one_frame L m.present start n H there bounded m.numbers.base m.numbers.reached m.memory f latest nb c l low top (suc (m.numbers.base c + k)) (omega arith) (omega arith))
    (by_cases (ℕ_discrete k 0) (λ (z : k ≡ 0). or_left (rises_valid L m.memory c (m.numbers.base c + k)) (eq-eqb k 0 z))
    (λ z. or_right (eqb k 0) (two_frames L m.present start n H there bounded m.numbers.base m.numbers.reached m.memory f latest nb c l low top (m.numbers.base c + k) (omega (arith, z)) (omega arith)))))

-- the last and the pending of every card, in the phases up and down
module _ (L : Limits) (m : Model) (j : Journal) (r : Running L m j) where
  abbrev H₀ : History
  H₀ = history_of j.history

  about₀ : About L m j.start (length j.history) r.took r.at H₀
  about₀ = r.about H₀ (λ i h. refl)

  abbrev both : ℕ → CardSet
  both c i = m.present c && m.present i

  tracked_valid : (c : ℕ) → c < L.width → {Q : ℕ → Type 0} (v : Vector) → ((i : ℕ) → i < L.width → Greatest H₀ j.start Q i (v i)) → ((t : ℕ) → Q t → (t < length j.history) × (m.present c ≡ true)) → entries_valid L (both c) v ≡ true
  tracked_valid c l {Q} v g inside =
      all_intro L.width (λ i. leb (v i) (cond (both c i) L.greatest_state 0))
      (λ i li. entry_valid (v i) L.greatest_state (both c i)
      (λ z. let k : Makes H₀ j.start Q i (v i) = (g i li).met z in
      let p : (m.present i ≡ true) × (v i ≤ L.greatest_state) = greatest_valid L m.present j.start (length j.history) H₀ about₀.there about₀.bounded li (g i li) (λ t q. (inside t q).0) z in
      (and_intro (inside k.0 k.1).1 p.0, p.1)))

  pub tracks_valid : (c : ℕ) → c < L.width → (entries_valid L (both c) (m.memory.last c) ≡ true) × (entries_valid L (both c) (m.memory.pending c) ≡ true)
  tracks_valid c l = (
    tracked_valid c l (m.memory.last c) (λ i li. about₀.tracks.last_is c i l li) (λ t q. (omega (arith, q.1, up_to_le q.4), about₀.there q.0 c q.1 l (writes_touches (H₀ q.0) c q.3))),
    tracked_valid c l (m.memory.pending c) (λ i li. about₀.tracks.pending_is c i l li) (λ t q. (omega (arith, q.1, up_to_le q.4), about₀.there q.0 c q.1 l q.3)),
  )

  slot_valid_lem : (p : ℕ) → p < L.slots → slot_valid L m (m.slot p) ≡ true
  slot_valid_lem p l = test (is_open (m.slot p)) (λ e. or_right (not (is_open (m.slot p))) (and_intro (and_intro (none_stray e) (all_room e)) (entries e))) (λ e. or_left (not (strays L m (touches (m.slot p).change)) && all_below L.width (λ c. not (to_write (m.slot p) c) || room_to_write L m.numbers c) && entries_valid L m.present (m.slot p).vector) (not_intro e))
    where
      none_stray : is_open (m.slot p) ≡ true → not (strays L m (touches (m.slot p).change)) ≡ true
      none_stray e =
          not_intro (fails (strays L m (touches (m.slot p).change))
          (λ z. let q : Found L.width (λ c. touches (m.slot p).change c && not (m.present c)) = any_elim L.width (λ c. touches (m.slot p).change c && not (m.present c)) z in
          clash ((r.slots_open.opened p l e).there q.0 q.1 (and_left (touches (m.slot p).change q.0) (not (m.present q.0)) q.2))
          (not_true (m.present q.0) (and_right (touches (m.slot p).change q.0) (not (m.present q.0)) q.2))))

      all_room : is_open (m.slot p) ≡ true → all_below L.width (λ c. not (to_write (m.slot p) c) || room_to_write L m.numbers c) ≡ true
      all_room e =
          all_intro L.width (λ c. not (to_write (m.slot p) c) || room_to_write L m.numbers c)
          (λ c lc. test (to_write (m.slot p) c)
          (λ z. let q : (m.numbers.reached c < m.numbers.base c + L.in_hand) × (m.numbers.reached c < L.greatest_state) = (r.slots_open.opened p l e).room c lc z in
          or_right (not (to_write (m.slot p) c)) (and_intro (lt-ltb (m.numbers.reached c) (m.numbers.base c + L.in_hand) q.0) (lt-ltb (m.numbers.reached c) L.greatest_state q.1)))
          (λ z. or_left (room_to_write L m.numbers c) (not_intro z)))

      entries : is_open (m.slot p) ≡ true → entries_valid L m.present (m.slot p).vector ≡ true
      entries e =
          test (decided L (m.slot p))
          (λ d. let s : Stood L.width H₀ j.start (length j.history) r.took (m.slot p) (r.at p) = about₀.standing.stood p l e d in
          vector_valid L m.present j.start (length j.history) H₀ about₀.there about₀.bounded (r.at p) s.in_history (m.slot p).vector s.vector_is_lem)
          (λ d. blank_valid L m.present j.start (length j.history) H₀ about₀.there about₀.bounded (m.slot p).vector (about₀.standing.waits p l e d).blank)

  card_valid_lem : (c : ℕ) → c < L.width → card_valid L m c ≡ true
  card_valid_lem c l =
      and_intro (and_intro (tracks_valid c l).0 (tracks_valid c l).1)
      (or_right (not (m.present c))
      (and_intro
      (and_intro
      (and_intro (and_intro (and_intro (and_intro (le-leb (m.numbers.base c) (m.numbers.stored c) (r.ranges.base_stored c l)) (le-leb (m.numbers.stored c) (m.numbers.held c) (r.ranges.stored_held c l)))
      (le-leb (m.numbers.held c) (m.numbers.reached c) (r.ranges.held_reached c l))) (le-leb (m.numbers.reached c) (m.numbers.base c + L.in_hand) (r.ranges.in_hand_lem c l)))
      (le-leb (m.numbers.reached c) L.greatest_state (le_trans (about₀.levels.high c l) (about₀.bounded c l))))
      (or_left (leb (m.numbers.base c) (m.line c) && leb (m.line c) (m.numbers.stored c)) (not_intro r.not_rolling)))
      (frames_valid_lem L m j.start (length j.history) H₀ about₀.there about₀.bounded about₀.framed m.latest about₀.numbered c l (r.ranges.from_start c l) (about₀.levels.high c l))))

  pub running_valid : Writes L m → valid L m ≡ true
  running_valid w =
      and_intro
      (and_intro
      (and_intro
      (and_intro (and_intro (not_intro (ne_eqb m.session 0 (λ (z : m.session ≡ 0). absurd (omega (arith, r.session_given, z))))) (not_intro (ap (λ (b : Bool). b && eqb m.session L.greatest_number) r.not_rolling)))
      (and_intro (any_intro L.width m.present r.carded.one r.carded.is_card_lem r.carded.is_there) (not_intro r.carded.none_beyond)))
      (all_intro L.width (card_valid L m) card_valid_lem))
      (all_intro L.slots (λ p. slot_valid L m (m.slot p)) slot_valid_lem))
      (writes_valid L m w)
