-- Frames out of a ring, judged one after another, and the writer's three ends. Assumes nothing.
use Rattle.std.specs.Prelude.{Result, Ok, Err}
use Rattle.base_refusal.specs.declared.Refusal.{Refusal}
use Prim.Native.Nat.{ℕ, zero, suc, ◌+◌, ◌-◌, ◌≤◌, ◌<◌}
use mathlib.Core.Path.{◌≡◌, refl, sym, ◌∙◌, ap, ap₂}
use mathlib.Core.Bool.{Bool, true, false, ◌&&◌}
use mathlib.Core.List.{List}
use native.Mathlib.Omega.{arith}
use lib.Dec.{eqb, ltb}
use lib.ListN.{get_or}
use Rattle.base_laws.specs.Below.{tabulate, all_below}
use Rattle.base_laws.proofs.Below.{all_same}
use Rattle.base_refusal.specs.declared.Refusal.TheVariants.{BadHeader, BadFrame}
use Rattle.sheet_lines.specs.declared.Header.{Header}
use Rattle.sheet_lines.specs.declared.Frame.{Frame}
use Rattle.sheet_lines.specs.Format.{Format, formats}
use Rattle.sheet_lines.specs.Lines.{cards_of, format_for, header_allowed, entry_allowed, entries_allowed, frame_allowed, no_frame}
use Rattle.sheet_lines.proofs.Passed.{header_limits}
use Rattle.sheet_pages.specs.Pages.{page_bytes}
use Rattle.sheet_pages.specs.Allowed.{frames_allowed}
use Rattle.sheet_pages.specs.Ring.{ring_frame, ring_page}
use Rattle.sheet_page_writer.specs.Write.{ring_rows, wrote_bytes}
use Rattle.sheet_page_writer.proofs.Rows.{run, run_all, rows_of, Alike, ring_alike, Told, told_by}
use Rattle.sheet_writer.specs.Single.{page_verdict, wrote}

-- ---- the frames judged one after another

module _ (f : Format) (card n base count : ℕ) (g : ℕ → Frame) where
  -- what is left to judge at frame k
  abbrev pub judging : Frame → ℕ → Bool
  judging last k = frames_allowed f card n (base + 1 + k) last (run g k (count - k))

  judging_on : (last : Frame) (k : ℕ) → k < count → judging last k ≡ (frame_allowed f card n (base + 1 + k) last (base + 1 + k) (g k) && judging (g k) (k + 1))
  judging_on last k l =
      let m : count - k ≡ suc (count - (k + 1)) = omega arith in
      let b : base + 1 + (k + 1) ≡ base + 1 + k + 1 = omega arith in
      rw (m, b)

  module _ (last first : Frame) (k : ℕ) {r : Bool} {next : Frame} (l : k < count) (e : judging last k ≡ judging first 0) (q : next ≡ g k) (p : r ≡ frame_allowed f card n (base + 1 + k) last (base + 1 + k) next) where
    frame_is : frame_allowed f card n (base + 1 + k) last (base + 1 + k) (g k) ≡ r
    frame_is = ap (frame_allowed f card n (base + 1 + k) last (base + 1 + k)) (sym q) ∙ sym p

    pub judging_again : r ≡ true → judging next (k + 1) ≡ judging first 0
    judging_again t = let w = sym (judging_on last k l) ∙ e in rw q (rw (frame_is, t) at w)

    pub judging_stop : r ≡ false → false ≡ judging first 0
    judging_stop t = let w = sym (judging_on last k l) ∙ e in rw (frame_is, t) at w

  judging_none : (last : Frame) (k : ℕ) → count ≤ k → judging last k ≡ true
  judging_none last k l = let m : count - k ≡ 0 = omega arith in rw m

  judging_start : (last : Frame) → judging last 0 ≡ frames_allowed f card n (base + 1) last (tabulate count g)
  judging_start last =
      let m : count - 0 ≡ count = omega arith in
      let b : base + 1 + 0 ≡ base + 1 = omega arith in
      rw (m, b, run_all g count)

  -- what was found, for the number of cards by its definition
  pub judged_all : (last : Frame) (m : ℕ) {found : Bool} → n ≡ m → found ≡ judging last 0 → found ≡ frames_allowed f card m (base + 1) last (tabulate count g)
  judged_all last m e p = p ∙ judging_start last ∙ ap (λ (i : ℕ). frames_allowed f card i (base + 1) last (tabulate count g)) e

  pub judging_done : (last first : Frame) (k : ℕ) → count ≤ k → judging last k ≡ judging first 0 → true ≡ judging first 0
  judging_done last first k l e = sym (judging_none last k l) ∙ e

-- ---- frames that agree as far as n cards are looked at

frame_alike : (f : Format) (card n state told : ℕ) (last last' x y : Frame) → Alike n last last' → Alike n x y → frame_allowed f card n state last told x ≡ frame_allowed f card n state last' told y
unfolding frame_allowed entries_allowed
frame_alike f card n state told last last' x y a b =
    let p : ℕ → Bool = λ j. entry_allowed f card state j (get_or last.entries j 0) (get_or x.entries j 0) in
    let q : ℕ → Bool = λ j. entry_allowed f card state j (get_or last'.entries j 0) (get_or y.entries j 0) in
    let e : all_below n p ≡ all_below n q = all_same n p q (λ j h. ap₂ (entry_allowed f card state j) (a.entries j h) (b.entries j h)) in
    λ i. eqb told state && (ltb (a.change i) (b.change i) && e i)

module _ (f : Format) (n : ℕ) (g g' : ℕ → Frame) (a : (k : ℕ) → Alike n (g k) (g' k)) where
  run_allowed : (card state : ℕ) (last last' : Frame) (i k : ℕ) → Alike n last last' → frames_allowed f card n state last (run g i k) ≡ frames_allowed f card n state last' (run g' i k)
  run_allowed card state last last' i zero b = refl
  run_allowed card state last last' i (suc k) b =
      ap₂ (λ (x y : Bool). x && y) (frame_alike f card n state state last last' (g i) (g' i) b (a i)) (run_allowed card (state + 1) (g i) (g' i) (i + 1) k (a i))

  all_allowed : (card state : ℕ) (last : Frame) (k : ℕ) → Alike n last last → frames_allowed f card n state last (tabulate k g) ≡ frames_allowed f card n state last (tabulate k g')
  all_allowed card state last k b = rw (← run_all g k, ← run_all g' k) (run_allowed card state last last 0 k b)

-- ---- the ring's frames with 16 entries, and with an entry for each card

pub rows_allowed :
    (changes entries : List ℕ) (h : Header) → cards_of (format_for formats h) h ≤ 16 →
    frames_allowed (format_for formats h) h.card (cards_of (format_for formats h) h) (h.base + 1) no_frame (ring_rows changes entries h).frames
    ≡ frames_allowed (format_for formats h) h.card (cards_of (format_for formats h) h) (h.base + 1) no_frame (ring_page changes entries h).frames
rows_allowed changes entries h few =
    let fmt = format_for formats h in
    let n = cards_of fmt h in
    all_allowed fmt n (rows_of changes entries h.card h.base) (λ k. ring_frame changes entries n h.card (suc (h.base + k)))
    (λ k. ring_alike changes entries h few h.card (suc (h.base + k))) h.card (h.base + 1) no_frame h.count (record { change = refl; left = few; right = few; entries = λ j l. refl })

-- ---- the writer's answer

-- the sheet of a header, in the format that the code picked
module _ (changes entries : List ℕ) (h : Header) (b : List ℕ) {f : Format} {pass : Bool} (picked : f ≡ format_for formats h) (test : pass ≡ header_allowed f h.card 0 h) where
  header_is : header_allowed (format_for formats h) h.card 0 h ≡ pass
  header_is = sym (test ∙ ap (λ (g : Format). header_allowed g h.card 0 h) picked)

  pub told_7 : pass ≡ false → Told (wrote (ring_page changes entries h) b) (Err BadHeader) b
  unfolding wrote page_verdict
  told_7 t = rw (header_is, t) (refl, refl)

  module _ (t : pass ≡ true) {frames : Bool} (judged : frames ≡ frames_allowed f h.card (cards_of f h) (h.base + 1) no_frame (ring_rows changes entries h).frames) where
    frames_is : frames_allowed (format_for formats h) h.card (cards_of (format_for formats h) h) (h.base + 1) no_frame (ring_page changes entries h).frames ≡ frames
    frames_is =
        let l = header_limits (format_for formats h) h.card 0 h (header_is ∙ t) in
        sym (rows_allowed changes entries h l.cards)
        ∙ sym (judged ∙ ap (λ (g : Format). frames_allowed g h.card (cards_of g h) (h.base + 1) no_frame (ring_rows changes entries h).frames) picked)

    pub told_9 : frames ≡ false → Told (wrote (ring_page changes entries h) b) (Err BadFrame) b
    unfolding wrote page_verdict
    told_9 q = rw (header_is, t, frames_is, q) (refl, refl)

    passes : frames ≡ true → wrote (ring_page changes entries h) b ≡ wrote_bytes (Ok tt) (page_bytes formats (ring_page changes entries h)) b
    unfolding wrote page_verdict
    passes q = rw (header_is, t, frames_is, q)

    pub told_passed : {answer : (Result ℕ Refusal)} {after : List ℕ} → frames ≡ true → Told (wrote_bytes (Ok tt) (page_bytes formats (ring_page changes entries h)) b) answer after → Told (wrote (ring_page changes entries h) b) answer after
    told_passed q = told_by (wrote_bytes (Ok tt) (page_bytes formats (ring_page changes entries h)) b) (wrote (ring_page changes entries h) b) (passes q)
