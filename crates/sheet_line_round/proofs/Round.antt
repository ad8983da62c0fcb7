-- Header and frame lines, written and read back, and read and written again, for any format. Assumes nothing.
use Rattle.std.specs.Prelude.{Ok}
use Prim.Native.Nat.{ℕ, suc, ◌+◌, ◌-◌, ◌%◌, ◌^◌, ◌≤◌, ◌<◌}
use mathlib.Core.Path.{◌≡◌, refl, sym, ◌∙◌, ap, ap₂}
use mathlib.Core.Bool.{Bool, true, not, ◌&&◌, ◌||◌}
use mathlib.Core.List.{List, [], ◌∷◌, ◌++◌, map, append_assoc}
use native.Mathlib.Nat.{mod-lt}
use mathlib.Core.Logic.{◌⊎◌, inl, inr, by_cases}
use native.Mathlib.Decide.{dec_lt, ℕ_discrete}
use native.Mathlib.Omega.{arith}
use lib.Dec.{leb, ltb, eqb, lit<}
use lib.ListN.{length, take, drop, get_or, replicate, length-map, length-replicate, length-drop, take-append-drop, set, length-set}
use lib.Seq.{drop-set-lt, drop-set-add, get_or-take, get_or-set_other, drop-drop, take-append-le, drop-append-le, length-take-le, take-set-le}
use borrow.Author.Tests.{leb-true, eqb-true, eq-eqb}
use Rattle.base_laws.proofs.Below.{all_at}
use Rattle.base_laws.proofs.Logic.{and_left, and_right, and_intro}
use Rattle.base_refusal.specs.declared.Refusal.TheVariants.{BadHeader, BadFrame}
use Rattle.sheet_digits.specs.declared.Sums.{Sums}
use Rattle.sheet_digits.specs.Digits.{is_numeral, is_letter, is_digit, number, numbers, written, digits, all_digits}
use Rattle.sheet_digits.specs.Line.{added, summed, check_of, sheet_line, shaped, checked}
use Rattle.sheet_digits.proofs.Digits.{total, Fitting, written_all, numbers_written, written_numbers, number_take, all_get_d}
use Rattle.sheet_digits.proofs.Lines.{whole_shaped, shaped_whole, line_rest, line_shaped, line_checked, line_bytes, body_all, body_length, shape, altered}
use Rattle.sheet_lines.specs.declared.Header.{Header}
use Rattle.sheet_lines.specs.declared.Frame.{Frame}
use Rattle.sheet_lines.specs.Format.{Format, Formats, format, formats, none_of, held_by, shown_by}
use Rattle.sheet_lines.specs.Lines.{format_in, format_for, start_of, header_widths, header_digits, header_numbers, header_line, header_in, header_allowed, header_verdict, frame_widths, frame_digits, frame_numbers, frame_line, state_in, entries_in, frame_in, entry_allowed, entries_allowed, frame_allowed, frame_verdict}
use Rattle.sheet_lines.proofs.Entries.{entry_back, entry_again, entry_small}
use Rattle.sheet_lines.proofs.Lengths.{header_total, header_length, frame_total, frame_length}
use Rattle.sheet_lines.proofs.Passed.{passes, header_passed, frame_passed, header_limits}

-- a format whose limits fit its widths, and whose sums start within eight bits
pub record Valid (f : Format) : Type 0 where
  pub cards : (told : ℕ) → f.unraised told ≤ f.cards → told < 16 ^ 2
  pub few : f.cards < 16 ^ 2
  pub frames : f.frames < 16 ^ 4
  pub states : f.states < 16 ^ f.width
  pub first : (card session : ℕ) → (f.start card session).first < 256
  pub second : (card session : ℕ) → (f.start card session).second < 256

-- document 01's format is one
pub format_valid : Valid format
format_valid = record { cards = λ k h. omega arith; few = lit< tt; frames = lit< tt; states = lit< tt; first = λ c s. mod-lt (c + 1) (lit< tt); second = λ c s. mod-lt s (lit< tt) }

-- the sums stay within eight bits, and the check within 4 digits
first_small : (s : Sums) (bs : List ℕ) → s.first < 256 → (summed s bs).first < 256
first_small s [] h = h
first_small s (b ∷ bs) h = first_small (added s b) bs (mod-lt (s.first + b) (lit< tt))

second_small : (s : Sums) (bs : List ℕ) → s.second < 256 → (summed s bs).second < 256
second_small s [] h = h
second_small s (b ∷ bs) h = second_small (added s b) bs (mod-lt (s.second + (s.first + b) % 2 ^ 8) (lit< tt))

pub check_small : (s : Sums) (bs : List ℕ) → s.first < 256 → s.second < 256 → check_of (summed s bs) < 65536
unfolding check_of
check_small s bs h k = omega (arith, first_small s bs h, second_small s bs k)

-- what stands behind the numbers is not looked at
numbers_append : (ks xs ys : List ℕ) → total ks ≤ length xs → numbers ks (xs ++ ys) ≡ numbers ks xs
numbers_append [] xs ys h = refl
numbers_append (k ∷ ks) xs ys h =
    rw (take-append-le k xs ys (omega arith), drop-append-le k xs ys (omega arith), numbers_append ks (drop k xs) ys (rw length-drop (omega arith)))

-- the numbers at the front of an input whose first digits are all there
own_numbers : (ks input : List ℕ) (n : ℕ) → total ks ≡ n → length (take n input) ≡ n → all_digits (take n input) ≡ true → written ks (numbers ks input) ≡ take n input
own_numbers ks input n t l d =
    let e : numbers ks input ≡ numbers ks (take n input) = ap (numbers ks) (sym (take-append-drop n input)) ∙ numbers_append ks (take n input) (drop n input) (omega arith) in
    ap (written ks) e ∙ written_numbers ks (take n input) (t ∙ sym l) d

-- ---- entries

entries_again : (short : Bool) (all : ℕ) (es : List ℕ) → map (shown_by short all) (map (held_by short all) es) ≡ es
entries_again short all [] = refl
entries_again short all (e ∷ es) = ap₂ (λ (x : ℕ) (xs : List ℕ). x ∷ xs) (entry_again short all e) (entries_again short all es)

-- every entry is at most a limit
abbrev pub Within : ℕ → List ℕ → Type 0
Within m [] = Unit {0}
Within m (e ∷ es) = (e ≤ m) × Within m es

entries_back : (short : Bool) (all : ℕ) (es : List ℕ) → Within all es → map (held_by short all) (map (shown_by short all) es) ≡ es
entries_back short all [] w = refl
entries_back short all (e ∷ es) w = ap₂ (λ (x : ℕ) (xs : List ℕ). x ∷ xs) (entry_back short all e w.0) (entries_back short all es w.1)

within_of : (m : ℕ) (es : List ℕ) → ((j : ℕ) → j < length es → get_or es j 0 ≤ m) → Within m es
within_of m [] h = tt
within_of m (e ∷ es) h = (h 0 (omega arith), within_of m es (λ j l. h (suc j) (omega arith)))

within_less : (m k : ℕ) (es : List ℕ) → m ≤ k → Within m es → Within k es
within_less m k [] h w = tt
within_less m k (e ∷ es) h w = (omega (arith, w.0), within_less m k es h w.1)

-- entries within the limit fit their width
entries_fit : (short : Bool) (k all : ℕ) (es : List ℕ) → all < 16 ^ k → Within all es → Fitting (replicate (length es) k) (map (shown_by short all) es)
entries_fit short k all [] h w = tt
entries_fit short k all (e ∷ es) h w = (omega (arith, entry_small short all e w.0), entries_fit short k all es h w.1)

-- ---- the header line

header_numbers_lem : (f : Format) (input : List ℕ) → header_numbers (header_in f input) ≡ numbers (header_widths f) input
unfolding header_in
header_numbers_lem f input =
    let w : f.width + 12 ≡ 12 + f.width = omega arith in
    rw (w, drop-drop 2 8 input, drop-drop 2 10 input, drop-drop f.width 12 input)

header_same : (g h : Header) → header_numbers g ≡ header_numbers h → g ≡ h
header_same g h e =
    λ i.
    record {
      session = ap (λ (l : List ℕ). get_or l 0 0) e i;
      card = ap (λ (l : List ℕ). get_or l 1 0) e i;
      cards = ap (λ (l : List ℕ). get_or l 2 0) e i;
      base = ap (λ (l : List ℕ). get_or l 3 0) e i;
      count = ap (λ (l : List ℕ). get_or l 4 0) e i;
    }

module _ (f : Format) (s : Valid f) (due first : ℕ) (h : Header) (rest : List ℕ) (a : header_allowed f due first h ≡ true) (session : h.session < 16 ^ 8) where
  header_fits : Fitting (header_widths f) (header_numbers h)
  header_fits =
      let l = header_limits f due first h a in
      (session, (omega (arith, l.below, l.cards, s.few), (s.cards h.cards l.cards, (omega (arith, l.states, s.states), (omega (arith, l.count, s.frames), tt)))))

  -- what is written as a header reads back as that header
  pub header_back : header_in f (header_line f h ++ rest) ≡ h
  unfolding header_line sheet_line
  header_back =
      header_same (header_in f (header_line f h ++ rest)) h
      (header_numbers_lem f (header_line f h ++ rest)
      ∙ ap (numbers (header_widths f)) (split (written (header_widths f) (header_numbers h)) (digits 4 (check_of (summed (start_of f h) (written (header_widths f) (header_numbers h))))))
      ∙ numbers_written (header_widths f) (header_numbers h) (digits 4 (check_of (summed (start_of f h) (written (header_widths f) (header_numbers h)))) ++ (10 ∷ rest)) header_fits)
    where
      split : (body check : List ℕ) → body ++ check ++ (10 ∷ []) ++ rest ≡ body ++ (check ++ (10 ∷ rest))
      split body check = simp append_assoc

  pub header_rest : drop (header_digits f + 5) (header_line f h ++ rest) ≡ rest
  unfolding header_line
  header_rest = line_rest (start_of f h) (header_digits f) (written (header_widths f) (header_numbers h)) rest (written_all (header_widths f) (header_numbers h)) (header_length f h)

  -- and is accepted
  pub header_accepted : header_verdict f due first (header_line f h ++ rest) ≡ Ok tt
  unfolding header_verdict header_line
  header_accepted = rw header_back (passes BadHeader (shaped_whole (header_digits f) (header_line f h ++ rest) well_shaped) well_checked a)
    where
      well_shaped : shaped (header_digits f) (header_line f h ++ rest) ≡ true
      well_shaped = line_shaped (start_of f h) (header_digits f) (written (header_widths f) (header_numbers h)) rest (written_all (header_widths f) (header_numbers h)) (header_length f h)

      well_checked : checked (start_of f h) (header_digits f) (header_line f h ++ rest) ≡ true
      well_checked =
          line_checked (start_of f h) (header_digits f) (written (header_widths f) (header_numbers h)) rest (written_all (header_widths f) (header_numbers h)) (header_length f h)
          (check_small (start_of f h) (written (header_widths f) (header_numbers h)) (s.first h.card h.session) (s.second h.card h.session))

-- a header line that is accepted is the line that is written of what was read
pub header_again : (f : Format) (due first : ℕ) (input : List ℕ) → header_verdict f due first input ≡ Ok tt → header_line f (header_in f input) ++ drop (header_digits f + 5) input ≡ input
unfolding header_line
header_again f due first input e =
    let p = header_passed f due first input e in
    let n = header_digits f in
    let w = whole_shaped n input p.whole in
    let st = start_of f (header_in f input) in
    let b : written (header_widths f) (header_numbers (header_in f input)) ≡ take n input =
    ap (written (header_widths f)) (header_numbers_lem f input) ∙ own_numbers (header_widths f) input n (header_total f) (body_length st n input w) (body_all st n input w)
    in
    ap (λ (x : List ℕ). sheet_line st x ++ drop (n + 5) input) b ∙ ap (λ (x : List ℕ). x ++ drop (n + 5) input) (sym (line_bytes st n input w p.right_is)) ∙ take-append-drop (n + 5) input

-- ---- the frame line

frame_numbers_lem : (f : Format) (n : ℕ) (input : List ℕ) → frame_numbers f (state_in f input) (frame_in f n input) ≡ numbers (frame_widths f n) input
unfolding frame_in state_in entries_in
frame_numbers_lem f n input =
    rw (entries_again f.short (none_of f) (numbers (replicate n f.width) (drop (f.width + 8) input)), drop-drop 8 f.width input)

module _ (f : Format) (s : Valid f) (start : Sums) (p : start.first < 256) (q : start.second < 256) (card n state : ℕ) (last fr : Frame) (rest : List ℕ)
    (a : frame_allowed f card n state last state fr ≡ true) (l : length fr.entries ≡ n) (change : fr.change < 16 ^ 8) (r : state ≤ f.states)
  where
    none_room : f.states ≤ none_of f
    none_room = omega (arith, s.states)

    frame_within : Within f.states fr.entries
    unfolding frame_allowed entries_allowed
    frame_within = within_of f.states fr.entries (λ j h. bound j (omega arith))
      where
        entries_pass : (j : ℕ) → j < n → entry_allowed f card state j (get_or last.entries j 0) (get_or fr.entries j 0) ≡ true
        entries_pass =
            all_at n (λ j. entry_allowed f card state j (get_or last.entries j 0) (get_or fr.entries j 0))
            (and_right (ltb last.change fr.change) (entries_allowed f card state n last.entries fr.entries) (and_right (eqb state state) (ltb last.change fr.change && entries_allowed f card state n last.entries fr.entries) a))

        bound : (j : ℕ) → j < n → get_or fr.entries j 0 ≤ f.states
        bound j h =
            let x = get_or last.entries j 0 in
            let y = get_or fr.entries j 0 in
            leb-true y f.states (and_left (leb y f.states) (not (eqb j card) || eqb y state) (and_right (f.short || leb x y) (leb y f.states && (not (eqb j card) || eqb y state)) (entries_pass j h)))

    frame_fits : Fitting (frame_widths f n) (frame_numbers f state fr)
    frame_fits =
        (omega (arith, s.states), (change, rw (← l) (entries_fit f.short f.width (none_of f) fr.entries (omega (arith, s.states)) (within_less f.states (none_of f) fr.entries none_room frame_within))))

    frame_digits_lem : length (written (frame_widths f n) (frame_numbers f state fr)) ≡ frame_digits f n
    frame_digits_lem = frame_length f n state fr (omega (arith, l))

    frame_reads : numbers (frame_widths f n) (frame_line f start n state fr ++ rest) ≡ frame_numbers f state fr
    unfolding frame_line sheet_line
    frame_reads =
        ap (numbers (frame_widths f n)) (split (written (frame_widths f n) (frame_numbers f state fr)) (digits 4 (check_of (summed start (written (frame_widths f n) (frame_numbers f state fr))))))
        ∙ numbers_written (frame_widths f n) (frame_numbers f state fr) (digits 4 (check_of (summed start (written (frame_widths f n) (frame_numbers f state fr)))) ++ (10 ∷ rest)) frame_fits
      where
        split : (body check : List ℕ) → body ++ check ++ (10 ∷ []) ++ rest ≡ body ++ (check ++ (10 ∷ rest))
        split body check = simp append_assoc

    told : frame_numbers f (state_in f (frame_line f start n state fr ++ rest)) (frame_in f n (frame_line f start n state fr ++ rest)) ≡ frame_numbers f state fr
    told = frame_numbers_lem f n (frame_line f start n state fr ++ rest) ∙ frame_reads

    pub state_back : state_in f (frame_line f start n state fr ++ rest) ≡ state
    state_back = ap (λ (xs : List ℕ). get_or xs 0 0) told

    pub frame_back : frame_in f n (frame_line f start n state fr ++ rest) ≡ fr
    unfolding frame_in entries_in
    frame_back = λ i. record { change = ap (λ (xs : List ℕ). get_or xs 1 0) told i; entries = entries_told i }
      where
        entries_told : (frame_in f n (frame_line f start n state fr ++ rest)).entries ≡ fr.entries
        entries_told =
            ap (map (held_by f.short (none_of f))) (ap (numbers (replicate n f.width)) (sym (drop-drop 8 f.width (frame_line f start n state fr ++ rest))) ∙ ap (λ (xs : List ℕ). drop 2 xs) frame_reads)
            ∙ entries_back f.short (none_of f) fr.entries (within_less f.states (none_of f) fr.entries none_room frame_within)

    pub frame_rest : drop (frame_digits f n + 5) (frame_line f start n state fr ++ rest) ≡ rest
    unfolding frame_line
    frame_rest = line_rest start (frame_digits f n) (written (frame_widths f n) (frame_numbers f state fr)) rest (written_all (frame_widths f n) (frame_numbers f state fr)) frame_digits_lem

    pub frame_accepted : frame_verdict f start card n state last (frame_line f start n state fr ++ rest) ≡ Ok tt
    unfolding frame_verdict frame_line
    frame_accepted = rw (state_back, frame_back) (passes BadFrame (shaped_whole (frame_digits f n) (frame_line f start n state fr ++ rest) well_shaped) well_checked a)
      where
        well_shaped : shaped (frame_digits f n) (frame_line f start n state fr ++ rest) ≡ true
        well_shaped = line_shaped start (frame_digits f n) (written (frame_widths f n) (frame_numbers f state fr)) rest (written_all (frame_widths f n) (frame_numbers f state fr)) frame_digits_lem

        well_checked : checked start (frame_digits f n) (frame_line f start n state fr ++ rest) ≡ true
        well_checked =
            line_checked start (frame_digits f n) (written (frame_widths f n) (frame_numbers f state fr)) rest (written_all (frame_widths f n) (frame_numbers f state fr)) frame_digits_lem
            (check_small start (written (frame_widths f n) (frame_numbers f state fr)) p q)

-- a frame line that is accepted is the line that is written of what was read
pub frame_again :
    (f : Format) (start : Sums) (card n state : ℕ) (last : Frame) (input : List ℕ) →
    frame_verdict f start card n state last input ≡ Ok tt →
    frame_line f start n state (frame_in f n input) ++ drop (frame_digits f n + 5) input ≡ input
unfolding frame_line frame_allowed
frame_again f start card n state last input e =
    let p = frame_passed f start card n state last input e in
    let k = frame_digits f n in
    let w = whole_shaped k input p.whole in
    let t : state_in f input ≡ state =
    eqb-true (state_in f input) state (and_left (eqb (state_in f input) state) (ltb last.change (frame_in f n input).change && entries_allowed f card state n last.entries (frame_in f n input).entries) p.allowed_is)
    in
    let b : written (frame_widths f n) (frame_numbers f state (frame_in f n input)) ≡ take k input =
    ap (λ (x : ℕ). written (frame_widths f n) (frame_numbers f x (frame_in f n input))) (sym t)
    ∙ ap (written (frame_widths f n)) (frame_numbers_lem f n input)
    ∙ own_numbers (frame_widths f n) input k (frame_total f n) (body_length start k input w) (body_all start k input w)
    in
    ap (λ (x : List ℕ). sheet_line start x ++ drop (k + 5) input) b ∙ ap (λ (x : List ℕ). x ++ drop (k + 5) input) (sym (line_bytes start k input w p.right_is)) ∙ take-append-drop (k + 5) input

-- ---- what an accepted line gives

numbers_count : (ks bs : List ℕ) → length (numbers ks bs) ≡ length ks
numbers_count [] bs = refl
numbers_count (k ∷ ks) bs = ap suc (numbers_count ks (drop k bs))

pub entries_all_lem : (f : Format) (n : ℕ) (input : List ℕ) → length (frame_in f n input).entries ≡ n
unfolding frame_in entries_in
entries_all_lem f n input =
    length-map (numbers (replicate n f.width) (drop (f.width + 8) input)) (held_by f.short (none_of f)) ∙ numbers_count (replicate n f.width) (drop (f.width + 8) input) ∙ length-replicate n f.width

pub change_fits : (f : Format) (start : Sums) (card n state : ℕ) (last : Frame) (input : List ℕ) → frame_verdict f start card n state last input ≡ Ok tt → (frame_in f n input).change < 16 ^ 8
unfolding frame_in
change_fits f start card n state last input e =
    let l = (shape (frame_digits f n) input (whole_shaped (frame_digits f n) input (frame_passed f start card n state last input e).whole)).long in
    number_take 8 (drop f.width input) (rw length-drop (omega arith))

pub session_fits : (f : Format) (due first : ℕ) (input : List ℕ) → header_verdict f due first input ≡ Ok tt → (header_in f input).session < 16 ^ 8
unfolding header_in
session_fits f due first input e =
    let l = (shape (header_digits f) input (whole_shaped (header_digits f) input (header_passed f due first input e).whole)).long in
    number_take 8 input (omega arith)

pub state_is : (f : Format) (start : Sums) (card n state : ℕ) (last : Frame) (input : List ℕ) → frame_verdict f start card n state last input ≡ Ok tt → frame_allowed f card n state last state (frame_in f n input) ≡ true
unfolding frame_allowed
state_is f start card n state last input e =
    let p = frame_passed f start card n state last input e in
    let x = ltb last.change (frame_in f n input).change && entries_allowed f card state n last.entries (frame_in f n input).entries in
    and_intro (eq-eqb state state refl) (and_right (eqb (state_in f input) state) x p.allowed_is)

-- ---- one altered byte

pub frame_altered :
    (f : Format) (start : Sums) (card n state : ℕ) (last : Frame) (input : List ℕ) (p b : ℕ) →
    p < frame_digits f n + 5 →
    frame_verdict f start card n state last input ≡ Ok tt →
    frame_verdict f start card n state last (set input p b) ≡ Ok tt →
    b ≡ get_or input p 0
frame_altered f start card n state last input p b h e g =
    let k = frame_digits f n in
    let x = frame_passed f start card n state last input e in
    let y = frame_passed f start card n state last (set input p b) g in
    altered start start k input p b refl (λ q. refl) (whole_shaped k input x.whole) x.right_is (whole_shaped k (set input p b) y.whole) y.right_is h

-- headers are the same where their digits are
same_header :
    (f : Format) (xs ys : List ℕ) →
    take (header_digits f) xs ≡ take (header_digits f) ys →
    length (take (header_digits f) xs) ≡ header_digits f →
    length (take (header_digits f) ys) ≡ header_digits f →
    header_in f xs ≡ header_in f ys
same_header f xs ys q l m =
    let n = header_digits f in
    let ks = header_widths f in
    let t = header_total f in
    header_same (header_in f xs) (header_in f ys)
    (header_numbers_lem f xs
    ∙ ap (numbers ks) (sym (take-append-drop n xs))
    ∙ numbers_append ks (take n xs) (drop n xs) (omega arith)
    ∙ ap (numbers ks) q
    ∙ sym (numbers_append ks (take n ys) (drop n ys) (omega arith))
    ∙ ap (numbers ks) (take-append-drop n ys)
    ∙ sym (header_numbers_lem f ys))

-- a header that is read picks its format
pub told_again : (F : Formats) (f : Format) {h : Header} (input : List ℕ) → header_in f input ≡ h → format_in F input ≡ format_for F h
unfolding header_in
told_again F f input e = ap (format_for F) e

-- formats whose first sums start alike, without regard to the session
pub record Alike (F : Formats) : Type 0 where
  pub same : (told other card session next : ℕ) → ((F told).start card session).first ≡ ((F other).start card next).first

-- document 01's format is one
pub formats_alike : Alike formats
formats_alike = record { same = λ j k c s o. refl }

-- a byte that is not among the digits of the number of cards changes no format
told_kept : (F : Formats) (input : List ℕ) (p b : ℕ) → (p < 10) ⊎ (12 ≤ p) → format_in F (set input p b) ≡ format_in F input
told_kept F input p b (inl h) = ap (λ (x : List ℕ). F (number (take 2 x))) (drop-set-lt 10 input p b h)
told_kept F input p b (inr h) =
    let e : p ≡ 10 + (p - 10) = omega arith in
    let q : 2 ≤ p - 10 = omega arith in
    ap (λ (i : ℕ). F (number (take 2 (drop 10 (set input i b))))) e ∙ ap (λ (x : List ℕ). F (number (take 2 x))) (drop-set-add 10 input (p - 10) b) ∙ ap (λ (x : List ℕ). F (number x)) (take-set-le 2 (drop 10 input) (p - 10) b q)

-- no two lines of different lengths begin in bytes that agree at the shorter one's end
pub not_both : (n m : ℕ) (xs ys : List ℕ) → n < m → shaped n xs ≡ true → shaped m ys ≡ true → get_or xs (n + 4) 0 ≡ get_or ys (n + 4) 0 → ⊥
unfolding is_digit is_numeral is_letter
not_both n m xs ys h s t e =
    let a = shape n xs s in
    let b = shape m ys t in
    let l : n + 4 < length (take (m + 4) ys) = rw (length-take-le (m + 4) ys (omega (arith, b.long))) (omega arith) in
    let d : is_digit (get_or (take (m + 4) ys) (n + 4) 0) ≡ true = all_get_d (take (m + 4) ys) (n + 4) b.all l in
    let v : get_or (take (m + 4) ys) (n + 4) 0 ≡ 10 = get_or-take (m + 4) ys (n + 4) 0 (omega arith) ∙ sym e ∙ a.ends in
    let z : is_digit 10 ≡ true = rw v at d in
    let w : ◌≡◌ {A = ℕ} 0 1 = cc in
    absurd (omega arith)

module _ (F : Formats) (t : Alike F) (due first : ℕ) (input : List ℕ) (p b : ℕ) (e : header_verdict (format_in F input) due first input ≡ Ok tt) (g : header_verdict (format_in F (set input p b)) due first (set input p b) ≡ Ok tt) where
  -- where both lines are of one length
  of_one_length : p < header_digits (format_in F input) + 5 → (format_in F input).width ≡ (format_in F (set input p b)).width → b ≡ get_or input p 0
  of_one_length h r =
      let f = format_in F input in
      let f' = format_in F (set input p b) in
      let k = header_digits f in
      let q : header_digits f' ≡ header_digits f = ap (λ (x : ℕ). x + 16) (sym r) in
      let x = header_passed f due first input e in
      let y = header_passed f' due first (set input p b) g in
      let u = header_in f input in
      let v = header_in f' (set input p b) in
      let c : u.card ≡ v.card = (header_limits f due first u x.allowed_is).card ∙ sym (header_limits f' due first v y.allowed_is).card in
      let w = whole_shaped k input x.whole in
      let z : shaped k (set input p b) ≡ true = rw q at (whole_shaped (header_digits f') (set input p b) y.whole) in
      let y' : checked (start_of f' v) k (set input p b) ≡ true = rw q at y.right_is in
      altered (start_of f u) (start_of f' v) k input p b
      (ap (λ (d : ℕ). (f.start d u.session).first) c ∙ t.same (number (take 2 (drop 10 input))) (number (take 2 (drop 10 (set input p b)))) v.card u.session v.session)
      (λ (s : take k input ≡ take k (set input p b)).
      let i = same_header f input (set input p b) s (body_length (start_of f u) k input w) (body_length (start_of f u) k (set input p b) z) in
      let j : f ≡ f' = told_again F f input i ∙ sym (told_again F f (set input p b) refl) in
      ap (start_of f) i ∙ ap (λ (a : Format). start_of a (header_in a (set input p b))) j)
      w x.right_is z y' h

  -- a digit of the number of cards that picks a line of another length
  of_two_lengths : (p < 10 → ⊥) → p < 12 → ((format_in F input).width ≡ (format_in F (set input p b)).width → ⊥) → ⊥
  of_two_lengths l h r =
      let f = format_in F input in
      let f' = format_in F (set input p b) in
      let w = whole_shaped (header_digits f) input (header_passed f due first input e).whole in
      let z = whole_shaped (header_digits f') (set input p b) (header_passed f' due first (set input p b) g).whole in
      by_cases (dec_lt f.width f'.width)
      (λ (s : f.width < f'.width). not_both (header_digits f) (header_digits f') input (set input p b) (omega arith) w z (sym (get_or-set_other input p (header_digits f + 4) b 0 (λ (q : header_digits f + 4 ≡ p). absurd (omega arith)))))
      (λ (s : f.width < f'.width → ⊥). not_both (header_digits f') (header_digits f) (set input p b) input (lower s) z w (get_or-set_other input p (header_digits f' + 4) b 0 (λ (q : header_digits f' + 4 ≡ p). absurd (omega arith))))
    where
      lower : ((format_in F input).width < (format_in F (set input p b)).width → ⊥) → header_digits (format_in F (set input p b)) < header_digits (format_in F input)
      lower s = omega (arith, r)

  pub header_altered : p < header_digits (format_in F input) + 5 → b ≡ get_or input p 0
  header_altered h =
      by_cases (ℕ_discrete (format_in F input).width (format_in F (set input p b)).width) (of_one_length h)
      (λ r.
      by_cases (dec_lt p 10) (λ l. absurd (r (ap (λ (a : Format). a.width) (sym (told_kept F input p b (inl l))))))
      (λ l. by_cases (dec_lt p 12) (λ m. absurd (of_two_lengths l m r)) (λ m. absurd (r (ap (λ (a : Format). a.width) (sym (told_kept F input p b (inr (late m)))))))))
    where
      late : (p < 12 → ⊥) → 12 ≤ p
      late m = omega arith

-- behind the header a byte changes no format
pub told_untouched : (F : Formats) (input : List ℕ) (p b : ℕ) → header_digits (format_in F input) + 5 ≤ p → format_in F (set input p b) ≡ format_in F input
told_untouched F input p b h = told_kept F input p b (inr (late h))
  where
    late : header_digits (format_in F input) + 5 ≤ p → 12 ≤ p
    late l = omega arith

-- ---- a byte altered behind a line

-- numbers are the same where the digits are
same_numbers : (ks xs ys : List ℕ) (n : ℕ) → total ks ≤ n → n ≤ length xs → n ≤ length ys → take n xs ≡ take n ys → numbers ks xs ≡ numbers ks ys
same_numbers ks xs ys n t l m e =
    let a : length (take n xs) ≡ n = length-take-le n xs l in
    let b : length (take n ys) ≡ n = length-take-le n ys m in
    ap (numbers ks) (sym (take-append-drop n xs))
    ∙ numbers_append ks (take n xs) (drop n xs) (omega arith)
    ∙ ap (numbers ks) e
    ∙ sym (numbers_append ks (take n ys) (drop n ys) (omega arith))
    ∙ ap (numbers ks) (take-append-drop n ys)

pub header_untouched : (f : Format) (input : List ℕ) (p b : ℕ) → header_digits f + 5 ≤ p → header_digits f + 5 ≤ length input → header_in f (set input p b) ≡ header_in f input
header_untouched f input p b h l =
    let n = header_digits f in
    let t = header_total f in
    header_same (header_in f (set input p b)) (header_in f input)
    (header_numbers_lem f (set input p b)
    ∙ same_numbers (header_widths f) (set input p b) input n (omega arith) (rw length-set (omega arith)) (omega arith) (take-set-le n input p b (omega arith))
    ∙ sym (header_numbers_lem f input))

-- a frame, made of the numbers of its line
from_numbers : Format → List ℕ → Frame
from_numbers f xs = record { change = get_or xs 1 0; entries = map (held_by f.short (none_of f)) (drop 2 xs) }

frame_from : (f : Format) (n : ℕ) (input : List ℕ) → frame_in f n input ≡ from_numbers f (numbers (frame_widths f n) input)
unfolding frame_in entries_in from_numbers
frame_from f n input = rw (drop-drop 8 f.width input)

pub frame_untouched : (f : Format) (n : ℕ) (input : List ℕ) (p b : ℕ) → frame_digits f n + 5 ≤ p → frame_digits f n + 5 ≤ length input → frame_in f n (set input p b) ≡ frame_in f n input
frame_untouched f n input p b h l =
    let k = frame_digits f n in
    let t = frame_total f n in
    frame_from f n (set input p b)
    ∙ ap (from_numbers f) (same_numbers (frame_widths f n) (set input p b) input k (omega arith) (rw length-set (omega arith)) (omega arith) (take-set-le k input p b (omega arith)))
    ∙ sym (frame_from f n input)

pub header_room : (f : Format) (due first : ℕ) (input : List ℕ) → header_verdict f due first input ≡ Ok tt → header_digits f + 5 ≤ length input
header_room f due first input e = (shape (header_digits f) input (whole_shaped (header_digits f) input (header_passed f due first input e).whole)).long

pub frame_room : (f : Format) (start : Sums) (card n state : ℕ) (last : Frame) (input : List ℕ) → frame_verdict f start card n state last input ≡ Ok tt → frame_digits f n + 5 ≤ length input
frame_room f start card n state last input e = (shape (frame_digits f n) input (whole_shaped (frame_digits f n) input (frame_passed f start card n state last input e).whole)).long
