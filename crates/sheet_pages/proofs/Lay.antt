-- What a read-out by value holds of the sheets that were laid into it. Assumes nothing.
use Prim.Native.Nat.{ℕ, zero, suc, ◌+◌, ◌*◌, ◌≤◌, ◌<◌}
use mathlib.Core.Path.{◌≡◌, refl, ◌∙◌, ap}
use mathlib.Core.Logic.{◌⊎◌, inl, inr, by_cases, ⊎_elim}
use mathlib.Core.List.{List, [], ◌∷◌, ◌++◌}
use native.Mathlib.Nat.{suc_inj, not-suc-le-zero, le_of_suc-le-suc}
use native.Mathlib.Decide.{dec_lt}
use native.Mathlib.Omega.{arith}
use lib.ListN.{length, get_or, set, replicate, length-set, length-replicate}
use lib.Seq.{length-sets, get_or-set_same, get_or-set_other}
use Rattle.base_limits.specs.Ring.{ring_place}
use Rattle.base_laws.specs.Below.{tabulate}
use Rattle.base_laws.proofs.Below.{below_suc}
use Rattle.base_laws.proofs.Seq.{sets_outside, sets_inside}
use Rattle.sheet_lines.specs.declared.Header.{Header}
use Rattle.sheet_lines.specs.declared.Frame.{Frame}
use Rattle.sheet_lines.specs.Lines.{padded}
use Rattle.sheet_pages.specs.declared.Readout.{Readout}
use Rattle.sheet_pages.specs.Pages.{Page}
use Rattle.sheet_pages.specs.Walk.{no_readout, lay_header, lay_frame, lay_frames, lay_page, lay_pages}

-- ---- lists of the right lengths
pub record Sized (r : Readout) : Type 0 where
  pub changes : length r.changes ≡ 768
  pub entries : length r.entries ≡ 12288
  pub sessions : length r.sessions ≡ 16
  pub bases : length r.bases ≡ 16
  pub counts : length r.counts ≡ 16

pub none_sized : Sized no_readout
none_sized =
    record {
      changes = length-replicate {A = ℕ} 768 0;
      entries = length-replicate {A = ℕ} 12288 0;
      sessions = length-replicate {A = ℕ} 16 0;
      bases = length-replicate {A = ℕ} 16 0;
      counts = length-replicate {A = ℕ} 16 0;
    }

pub header_sized : (h : Header) (r : Readout) → Sized r → Sized (lay_header h r)
header_sized h r s =
    record {
      changes = s.changes;
      entries = s.entries;
      sessions = length-set r.sessions h.card h.session ∙ s.sessions;
      bases = length-set r.bases h.card h.base ∙ s.bases;
      counts = s.counts;
    }

frame_sized : (card state k : ℕ) (fr : Frame) (r : Readout) → Sized r → Sized (lay_frame card state k fr r)
frame_sized card state k fr r s =
    record {
      changes = length-set r.changes (ring_place card state) fr.change ∙ s.changes;
      entries = length-sets r.entries (ring_place card state * 16) (padded fr.entries) ∙ s.entries;
      sessions = s.sessions;
      bases = s.bases;
      counts = length-set r.counts card (k + 1) ∙ s.counts;
    }

pub frames_sized : (card state k : ℕ) (frs : List Frame) (r : Readout) → Sized r → Sized (lay_frames card state k frs r)
frames_sized card state k [] r s = s
frames_sized card state k (fr ∷ frs) r s = frames_sized card (state + 1) (k + 1) frs (lay_frame card state k fr r) (frame_sized card state k fr r s)

-- ---- the frames of one card
pub length_padded : (es : List ℕ) → length (padded es) ≡ 16
unfolding padded
length_padded es = length-sets (replicate 16 0) 0 es ∙ length-replicate {A = ℕ} 16 0

module _ (card : ℕ) (is_card_lem : card < 16) where
  -- what is laid elsewhere stays
  pub frames_heads : (state k : ℕ) (frs : List Frame) (r : Readout)
      → ((lay_frames card state k frs r).sessions ≡ r.sessions) × ((lay_frames card state k frs r).bases ≡ r.bases) × ((lay_frames card state k frs r).cards ≡ r.cards)
  frames_heads state k [] r = (refl, refl, refl)
  frames_heads state k (fr ∷ frs) r = frames_heads (state + 1) (k + 1) frs (lay_frame card state k fr r)

  counts_other : (state k : ℕ) (frs : List Frame) (r : Readout) (c : ℕ) → ¬ (c ≡ card) → get_or (lay_frames card state k frs r).counts c 0 ≡ get_or r.counts c 0
  counts_other state k [] r c q = refl
  counts_other state k (fr ∷ frs) r c q = counts_other (state + 1) (k + 1) frs (lay_frame card state k fr r) c q ∙ get_or-set_other r.counts card c (k + 1) 0 q

  pub counts_own : (state k : ℕ) (frs : List Frame) (r : Readout) → Sized r → get_or r.counts card 0 ≡ k → get_or (lay_frames card state k frs r).counts card 0 ≡ k + length frs
  counts_own state k [] r s e = omega (arith, e)
  counts_own state k (fr ∷ frs) r s e =
      counts_own (state + 1) (k + 1) frs (lay_frame card state k fr r) (frame_sized card state k fr r s) (get_or-set_same r.counts card (k + 1) 0 (omega (arith, s.counts)))
      ∙ back
    where
      back : k + 1 + length frs ≡ k + suc (length frs)
      back = omega arith

  changes_other : (state k : ℕ) (frs : List Frame) (r : Readout) (q : ℕ) → ((i : ℕ) → i < length frs → ¬ (q ≡ ring_place card (state + i))) → get_or (lay_frames card state k frs r).changes q 0 ≡ get_or r.changes q 0
  changes_other state k [] r q f = refl
  changes_other state k (fr ∷ frs) r q f =
      changes_other (state + 1) (k + 1) frs (lay_frame card state k fr r) q (λ i h e. f (suc i) (later h) (e ∙ ap (ring_place card) (next i)))
      ∙ get_or-set_other r.changes (ring_place card state) q fr.change 0 (λ e. f 0 first (e ∙ ap (ring_place card) now))
    where
      later : {i : ℕ} → i < length frs → suc i < suc (length frs)
      later h = omega arith

      next : (i : ℕ) → state + 1 + i ≡ state + suc i
      next i = omega arith

      first : 0 < suc (length frs)
      first = omega arith

      now : state ≡ state + 0
      now = omega arith

  pub changes_own : (state k : ℕ) (frs : List Frame) (r : Readout) → Sized r → length frs ≤ 48 → (i : ℕ) (fr₀ : Frame) → i < length frs → get_or (lay_frames card state k frs r).changes (ring_place card (state + i)) 0 ≡ (get_or frs i fr₀).change
  changes_own state k [] r s few i fr₀ h = absurd (not-suc-le-zero h)
  changes_own state k (fr ∷ frs) r s few zero fr₀ h =
      let now : state + 0 ≡ state = omega arith in
      let room : ring_place card state < length r.changes = omega (arith, s.changes) in
      rw now
      (changes_other (state + 1) (k + 1) frs (lay_frame card state k fr r) (ring_place card state) (λ i l e. absurd (omega (arith, few, l, e)))
      ∙ get_or-set_same r.changes (ring_place card state) fr.change 0 room)
  changes_own state k (fr ∷ frs) r s few (suc i) fr₀ h =
      let next : state + suc i ≡ state + 1 + i = omega arith in
      let fewer : length frs ≤ 48 = omega arith in
      rw next (changes_own (state + 1) (k + 1) frs (lay_frame card state k fr r) (frame_sized card state k fr r s) fewer i fr₀ (le_of_suc-le-suc h))

  entries_other : (state k : ℕ) (frs : List Frame) (r : Readout) (q j : ℕ) → j < 16 → ((i : ℕ) → i < length frs → ¬ (q ≡ ring_place card (state + i))) → get_or (lay_frames card state k frs r).entries (q * 16 + j) 0 ≡ get_or r.entries (q * 16 + j) 0
  entries_other state k [] r q j lj f = refl
  entries_other state k (fr ∷ frs) r q j lj f =
      entries_other (state + 1) (k + 1) frs (lay_frame card state k fr r) q j lj (λ i h e. f (suc i) (later h) (e ∙ ap (ring_place card) (next i)))
      ∙ sets_outside (padded fr.entries) r.entries (ring_place card state * 16) (q * 16 + j) 0 apart
    where
      later : {i : ℕ} → i < length frs → suc i < suc (length frs)
      later h = omega arith

      next : (i : ℕ) → state + 1 + i ≡ state + suc i
      next i = omega arith

      differs : ¬ (q ≡ ring_place card state)
      differs e = f 0 (first) (e ∙ ap (ring_place card) now)
        where
          first : 0 < suc (length frs)
          first = omega arith

          now : state ≡ state + 0
          now = omega arith

      apart : (q * 16 + j < ring_place card state * 16) ⊎ (ring_place card state * 16 + length (padded fr.entries) ≤ q * 16 + j)
      apart =
          by_cases (dec_lt q (ring_place card state)) (λ h. inl (below h)) (λ h. inr (above h))
        where
          below : q < ring_place card state → q * 16 + j < ring_place card state * 16
          below h = omega arith

          above : ¬ (q < ring_place card state) → ring_place card state * 16 + length (padded fr.entries) ≤ q * 16 + j
          above h = let ne = differs in omega (arith, h, ne, length_padded fr.entries)

  pub entries_own : (state k : ℕ) (frs : List Frame) (r : Readout) → Sized r → length frs ≤ 48 → (i j : ℕ) (fr₀ : Frame) → i < length frs → j < 16
      → get_or (lay_frames card state k frs r).entries (ring_place card (state + i) * 16 + j) 0 ≡ get_or (padded (get_or frs i fr₀).entries) j 0
  entries_own state k [] r s few i j fr₀ h lj = absurd (not-suc-le-zero h)
  entries_own state k (fr ∷ frs) r s few zero j fr₀ h lj =
      let now : state + 0 ≡ state = omega arith in
      let room : ring_place card state * 16 + length (padded fr.entries) ≤ length r.entries = omega (arith, s.entries, length_padded fr.entries) in
      let in_row : j < length (padded fr.entries) = omega (arith, length_padded fr.entries) in
      rw now
      (entries_other (state + 1) (k + 1) frs (lay_frame card state k fr r) (ring_place card state) j lj (λ i l e. absurd (omega (arith, few, l, e)))
      ∙ sets_inside (padded fr.entries) r.entries (ring_place card state * 16) j 0 room in_row)
  entries_own state k (fr ∷ frs) r s few (suc i) j fr₀ h lj =
      let next : state + suc i ≡ state + 1 + i = omega arith in
      let fewer : length frs ≤ 48 = omega arith in
      rw next (entries_own (state + 1) (k + 1) frs (lay_frame card state k fr r) (frame_sized card state k fr r s) fewer i j fr₀ (le_of_suc-le-suc h) lj)

-- ---- the sheets of cards 0 to n − 1
lay_append : (ps qs : List Page) (r : Readout) → lay_pages (ps ++ qs) r ≡ lay_pages qs (lay_pages ps r)
lay_append [] qs r = refl
lay_append (p ∷ ps) qs r = lay_append ps qs (lay_page p r)

-- a read-out holds the sheets of the first n cards, and nothing of the others
pub record Holds (n : ℕ) (page : ℕ → Page) (r : Readout) : Type 0 where
  pub sized : Sized r
  pub cards : (k : ℕ) → n ≡ suc k → r.cards ≡ (page k).header.cards
  pub session : (c : ℕ) → c < n → get_or r.sessions c 0 ≡ (page c).header.session
  pub base : (c : ℕ) → c < n → get_or r.bases c 0 ≡ (page c).header.base
  pub count : (c : ℕ) → c < n → get_or r.counts c 0 ≡ length (page c).frames
  pub change : (c i : ℕ) (fr₀ : Frame) → c < n → i < length (page c).frames → get_or r.changes (ring_place c ((page c).header.base + 1 + i)) 0 ≡ (get_or (page c).frames i fr₀).change
  pub entry : (c i j : ℕ) (fr₀ : Frame) → c < n → i < length (page c).frames → j < 16 → get_or r.entries (ring_place c ((page c).header.base + 1 + i) * 16 + j) 0 ≡ get_or (padded (get_or (page c).frames i fr₀).entries) j 0
  pub no_base : (c : ℕ) → n ≤ c → get_or r.bases c 0 ≡ 0
  pub no_count : (c : ℕ) → n ≤ c → get_or r.counts c 0 ≡ 0
  pub no_session : (c : ℕ) → n ≤ c → get_or r.sessions c 0 ≡ 0

pub zeros : (k i : ℕ) → ◌≡◌ {A = ℕ} (get_or (replicate k 0) i 0) 0
zeros zero i = refl
zeros (suc k) zero = refl
zeros (suc k) (suc i) = zeros k i

pub laid_holds : (page : ℕ → Page) → (n : ℕ) → n ≤ 16 → ((c : ℕ) → c < n → (page c).header.card ≡ c) → ((c : ℕ) → c < n → length (page c).frames ≤ 48) → Holds n page (lay_pages (tabulate n page) no_readout)
laid_holds page zero few cards short =
    record {
      sized = none_sized;
      cards = λ k e. absurd (omega arith);
      session = λ c h. absurd (not-suc-le-zero h);
      base = λ c h. absurd (not-suc-le-zero h);
      count = λ c h. absurd (not-suc-le-zero h);
      change = λ c i fr₀ h. absurd (not-suc-le-zero h);
      entry = λ c i j fr₀ h. absurd (not-suc-le-zero h);
      no_base = λ c h. zeros 16 c;
      no_count = λ c h. zeros 16 c;
      no_session = λ c h. zeros 16 c;
    }
laid_holds page (suc n) few cards short =
    rw (lay_append (tabulate n page) (page n ∷ []) no_readout) (step (laid_holds page n (less few) (λ c h. cards c (wider h)) (λ c h. short c (wider h))))
  where
    less : suc n ≤ 16 → n ≤ 16
    less h = omega arith

    wider : {c : ℕ} → c < n → c < suc n
    wider h = omega arith

    own : (page n).header.card ≡ n
    own = cards n (here)
      where
        here : n < suc n
        here = omega arith

    r : Readout
    r = lay_pages (tabulate n page) no_readout

    h₀ : Header
    h₀ = (page n).header

    step : Holds n page (lay_pages (tabulate n page) no_readout) → Holds (suc n) page (lay_page (page n) (lay_pages (tabulate n page) no_readout))
    step k =
        rw own
        (record {
          sized = frames_sized n (h₀.base + 1) 0 (page n).frames headed (headed_sized);
          cards = λ i e. let q : n ≡ i = suc_inj e in (frames_heads n is_card_lem (h₀.base + 1) 0 (page n).frames headed).2 ∙ ap (λ (x : ℕ). (page x).header.cards) q;
          session = λ c h. ⊎_elim (λ (q : c ≡ n). rw q (at_heads.0 n ∙ get_or-set_same r.sessions n h₀.session 0 (room r.sessions k.sized.sessions))) (λ (l : c < n). at_heads.0 c ∙ get_or-set_other r.sessions n c h₀.session 0 (λ q. absurd (omega (arith, l, q))) ∙ k.session c l) (below_suc h);
          base = λ c h. ⊎_elim (λ (q : c ≡ n). rw q (at_heads.1 n ∙ get_or-set_same r.bases n h₀.base 0 (room r.bases k.sized.bases))) (λ (l : c < n). at_heads.1 c ∙ get_or-set_other r.bases n c h₀.base 0 (λ q. absurd (omega (arith, l, q))) ∙ k.base c l) (below_suc h);
          count = λ c h. ⊎_elim (λ (q : c ≡ n). rw q (counts_own n is_card_lem (h₀.base + 1) 0 (page n).frames headed headed_sized (k.no_count n (same n)) ∙ zero_add' (length (page n).frames))) (λ (l : c < n). counts_other n is_card_lem (h₀.base + 1) 0 (page n).frames headed c (λ q. absurd (omega (arith, l, q))) ∙ k.count c l) (below_suc h);
          change = λ c i fr₀ h li. ⊎_elim
              (λ (q : c ≡ n). rw q (changes_own n is_card_lem (h₀.base + 1) 0 (page n).frames headed headed_sized (short n (next n)) i fr₀ (rw q at li)))
              (λ (l : c < n). changes_other n is_card_lem (h₀.base + 1) 0 (page n).frames headed (ring_place c ((page c).header.base + 1 + i)) (λ i' l' e. absurd (omega (arith, l, e))) ∙ k.change c i fr₀ l li) (below_suc h);
          entry = λ c i j fr₀ h li lj. ⊎_elim
              (λ (q : c ≡ n). rw q (entries_own n is_card_lem (h₀.base + 1) 0 (page n).frames headed headed_sized (short n (next n)) i j fr₀ (rw q at li) lj))
              (λ (l : c < n). entries_other n is_card_lem (h₀.base + 1) 0 (page n).frames headed (ring_place c ((page c).header.base + 1 + i)) j lj (λ i' l' e. absurd (omega (arith, l, e))) ∙ k.entry c i j fr₀ l li lj) (below_suc h);
          no_base = λ c h. at_heads.1 c ∙ get_or-set_other r.bases n c h₀.base 0 (λ q. absurd (omega (arith, h, q))) ∙ k.no_base c (fewer h);
          no_count = λ c h. counts_other n is_card_lem (h₀.base + 1) 0 (page n).frames headed c (λ q. absurd (omega (arith, h, q))) ∙ k.no_count c (fewer h);
          no_session = λ c h. at_heads.0 c ∙ get_or-set_other r.sessions n c h₀.session 0 (λ q. absurd (omega (arith, h, q))) ∙ k.no_session c (fewer h);
        })
      where
        is_card_lem : n < 16
        is_card_lem = few

        same : (i : ℕ) → i ≤ i
        same i = omega arith

        next : (i : ℕ) → i < suc i
        next i = omega arith

        fewer : {c : ℕ} → suc n ≤ c → n ≤ c
        fewer h = omega arith

        zero_add' : (i : ℕ) → 0 + i ≡ i
        zero_add' i = omega arith

        room : (l : List ℕ) → length l ≡ 16 → n < length l
        room l e = omega arith

        headed : Readout
        headed = record { changes = r.changes; entries = r.entries; sessions = set r.sessions n h₀.session; bases = set r.bases n h₀.base; counts = r.counts; cards = h₀.cards }

        headed_sized : Sized headed
        headed_sized =
            record {
              changes = k.sized.changes;
              entries = k.sized.entries;
              sessions = length-set r.sessions n h₀.session ∙ k.sized.sessions;
              bases = length-set r.bases n h₀.base ∙ k.sized.bases;
              counts = k.sized.counts;
            }

        at_heads : ((c : ℕ) → get_or (lay_frames n (h₀.base + 1) 0 (page n).frames headed).sessions c 0 ≡ get_or (set r.sessions n h₀.session) c 0) × ((c : ℕ) → get_or (lay_frames n (h₀.base + 1) 0 (page n).frames headed).bases c 0 ≡ get_or (set r.bases n h₀.base) c 0)
        at_heads =
            (λ c. ap (λ (l : List ℕ). get_or l c 0) (frames_heads n is_card_lem (h₀.base + 1) 0 (page n).frames headed).0, λ c. ap (λ (l : List ℕ). get_or l c 0) (frames_heads n is_card_lem (h₀.base + 1) 0 (page n).frames headed).1)
