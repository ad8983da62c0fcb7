-- The tests of the code, put together as the definitions have them, for any format. Assumes nothing.
use Rattle.std.specs.Prelude.{Result, Ok, Err}
use Prim.Native.Nat.{ℕ, zero, suc, ◌+◌, ◌*◌, ◌-◌, ◌≤◌, ◌<◌}
use mathlib.Core.Path.{◌≡◌, refl, sym, ◌∙◌, ap}
use mathlib.Core.Bool.{Bool, true, false, not, ◌&&◌, ◌||◌, cond}
use mathlib.Core.List.{List, [], ◌∷◌, ◌++◌}
use native.Mathlib.Nat.{mul-le-mul, mul-le-mul_right}
use native.Mathlib.Omega.{arith}
use native.Mathlib.Decide.{dec_le}
use mathlib.Core.Logic.{by_cases}
use lib.Dec.{leb, ltb, eqb}
use lib.ListN.{length, take, drop, get_or, set, replicate, length-map, length-replicate}
use lib.Seq.{sets, sets-eq, get_or-drop, drop-drop}
use borrow.Author.Tests.{le-leb, lt-leb}
use Rattle.base_refusal.specs.declared.Refusal.{Refusal}
use Rattle.base_refusal.specs.declared.Refusal.TheVariants.{BadCheck, BadHeader, BadFrame}
use Rattle.base_laws.specs.Below.{all_below}
use Rattle.base_laws.proofs.Below.{all_at}
use Rattle.base_laws.proofs.Logic.{clash}
use Rattle.sheet_digits.specs.declared.Sums.{Sums}
use Rattle.sheet_digits.specs.Digits.{number, numbers}
use Rattle.sheet_digits.specs.Line.{checked, shape_of}
use Rattle.sheet_lines.specs.declared.Header.{Header}
use Rattle.sheet_lines.specs.declared.Frame.{Frame}
use Rattle.sheet_lines.specs.Format.{Format, none_of, held_by}
use Rattle.sheet_lines.specs.Lines.{cards_of, start_of, header_digits, header_in, header_allowed, header_verdict, header_or, state_in, entries_by, entries_in, frame_digits, frame_in, entry_allowed, entries_allowed, frame_allowed, frame_verdict, padded, frame_read_of}

pub header_tests :
    (f : Format) (due first : ℕ) (h : Header) {n : ℕ} {a b c d e i g : Bool} →
    n ≡ cards_of f h →
    eqb h.session 0 ≡ a →
    eqb h.card due ≡ b →
    ltb h.card n ≡ c →
    leb n f.cards ≡ d →
    (eqb first 0 || eqb n first) ≡ e →
    leb h.count f.frames ≡ i →
    leb (h.base + h.count) f.states ≡ g →
    (not a && (b && (c && (d && (e && (i && g)))))) ≡ header_allowed f due first h
unfolding header_allowed
header_tests f due first h k p q r s t u v = rw (← k, ← p, ← q, ← r, ← s, ← t, ← u, ← v)

pub header_reply_lem :
    (f : Format) (due first : ℕ) (input : List ℕ) {h : Header} {start : Sums} {c a : Bool} →
    shape_of (header_digits f) input ≡ Ok tt →
    h ≡ header_in f input →
    start ≡ start_of f h →
    c ≡ checked start (header_digits f) input →
    a ≡ header_allowed f due first h →
    header_or (cond c (cond a (Ok tt) (Err BadHeader)) (Err BadCheck)) h ≡ header_or (header_verdict f due first input) (header_in f input)
unfolding header_verdict
header_reply_lem f due first input s e p q r = rw (s, r, q, p, e)

pub frame_tests :
    (f : Format) (card n state told : ℕ) (last next : Frame) {a b c : Bool} →
    eqb told state ≡ a →
    ltb last.change next.change ≡ b →
    entries_allowed f card state n last.entries next.entries ≡ c →
    (a && (b && c)) ≡ frame_allowed f card n state last told next
unfolding frame_allowed
frame_tests f card n state told last next x y z = rw (← x, ← y, ← z)

-- tests of entries that agree below n are the same test
pub entries_same :
    (f : Format) (card state n : ℕ) (ps qs es fs : List ℕ) →
    ((j : ℕ) → get_or ps j 0 ≡ get_or qs j 0) →
    ((j : ℕ) → get_or es j 0 ≡ get_or fs j 0) →
    entries_allowed f card state n ps es ≡ entries_allowed f card state n qs fs
unfolding entries_allowed
entries_same f card state n ps qs es fs p q = λ i. all_below n (λ j. entry_allowed f card state j (p j i) (q j i))

pub frame_reply_lem :
    (f : Format) (start : Sums) (card n state : ℕ) (last : Frame) (input : List ℕ) {c a : Bool} →
    shape_of (frame_digits f n) input ≡ Ok tt →
    c ≡ checked start (frame_digits f n) input →
    a ≡ frame_allowed f card n state last (state_in f input) (frame_in f n input) →
    frame_read_of (cond c (cond a (Ok tt) (Err BadFrame)) (Err BadCheck)) (frame_in f n input) ≡ frame_read_of (frame_verdict f start card n state last input) (frame_in f n input)
unfolding frame_verdict
frame_reply_lem f start card n state last input s q r = rw (s, r, q)

-- one more entry is read and stored
pub entries_step :
    (w : ℕ) (held : ℕ → ℕ) (s entries : List ℕ) (at n j v : ℕ) →
    j < n →
    v ≡ held (number (take w (drop (at + j * w) s))) →
    sets (set entries j v) (j + 1) (entries_by w held (n - (j + 1)) (drop (at + (j + 1) * w) s)) ≡ sets entries j (entries_by w held (n - j) (drop (at + j * w) s))
entries_step w held s entries at n j v h e =
    let m : n - j ≡ suc (n - (j + 1)) = omega arith in
    let q : at + (j + 1) * w ≡ at + j * w + w = omega arith in
    let k : j + 1 ≡ suc j = omega arith in
    rw (m, e, q, k, drop-drop w (at + j * w) s)

pub entries_none : (w : ℕ) (held : ℕ → ℕ) (n j : ℕ) (input : List ℕ) → n ≤ j → entries_by w held (n - j) input ≡ []
entries_none w held n j input h = let e : n - j ≡ 0 = omega arith in rw e

pub entries_start : (w : ℕ) (held : ℕ → ℕ) (s : List ℕ) (at n : ℕ) → sets (replicate 16 0) 0 (entries_by w held (n - 0) (drop (at + 0 * w) s)) ≡ padded (entries_by w held n (drop at s))
unfolding padded
entries_start w held s at n =
    let m : n - 0 ≡ n = omega arith in
    let q : at + 0 * w ≡ at = omega arith in
    rw (m, q)

-- the entries of a format, by its width and its coding
pub entries_by_lem : (f : Format) {all : ℕ} (n : ℕ) (input : List ℕ) → all ≡ none_of f → entries_by f.width (held_by f.short all) n input ≡ entries_in f n input
unfolding entries_in
entries_by_lem f n input e = rw e

-- the place of an entry is within the room for all
pub row_room : (at w n j len : ℕ) → j < n → at + n * w ≤ len → at + j * w + w ≤ len
row_room at w n j len h k = omega (arith, mul-le-mul_right w h)

-- a frame's digits are few
pub row_small : (n w : ℕ) → n ≤ 16 → w ≤ 8 → n * w ≤ 128
row_small n w h k = mul-le-mul h k

pub below_step : (n : ℕ) (p : ℕ → Bool) {t : Bool} → all_below n p ≡ true → t ≡ p n → t ≡ true → all_below (n + 1) p ≡ true
below_step n p x y z = let k : n + 1 ≡ suc n = omega arith in rw (k, x, ← y, z)

pub below_stop : (n m : ℕ) (p : ℕ → Bool) {t : Bool} → n < m → t ≡ p n → t ≡ false → false ≡ all_below m p
below_stop n m p h y z = fails_at (all_below m p) (λ e. clash (all_at m p e n h) (sym y ∙ z))
  where
    fails_at : (b : Bool) → (b ≡ true → ⊥) → false ≡ b
    fails_at true g = absurd (g refl)
    fails_at false g = refl

zeros : (n i : ℕ) → ◌≡◌ {A = ℕ} (get_or (replicate n 0) i 0) 0
zeros zero i = refl
zeros (suc n) zero = refl
zeros (suc n) (suc i) = zeros n i

append_zeros : (xs ys : List ℕ) → ((i : ℕ) → get_or ys i 0 ≡ 0) → (j : ℕ) → get_or (xs ++ ys) j 0 ≡ get_or xs j 0
append_zeros [] ys z j = z j
append_zeros (x ∷ xs) ys z zero = refl
append_zeros (x ∷ xs) ys z (suc j) = append_zeros xs ys z j

numbers_length : (ks bs : List ℕ) → length (numbers ks bs) ≡ length ks
numbers_length [] bs = refl
numbers_length (k ∷ ks) bs = ap suc (numbers_length ks (drop k bs))

pub entries_count : (f : Format) (n : ℕ) (input : List ℕ) → length (entries_in f n input) ≡ n
unfolding entries_in
entries_count f n input = length-map (numbers (replicate n f.width) input) (held_by f.short (none_of f)) ∙ numbers_length (replicate n f.width) input ∙ length-replicate n f.width

entries_length : (f : Format) (n : ℕ) (input : List ℕ) → n ≤ 16 → length (entries_in f n input) ≤ 16
entries_length f n input h = rw (entries_count f n input) h

-- entries in an array of 16 are the entries at every place
pub padded_at : (es : List ℕ) → length es ≤ 16 → (j : ℕ) → get_or (padded es) j 0 ≡ get_or es j 0
unfolding padded
padded_at es h j = rw (sets-eq es (replicate 16 0) 0 (omega arith)) (at_end (0 + length es) j (sub_zeros (0 + length es)))
  where
    sub_zeros : (k : ℕ) → (i : ℕ) → ◌≡◌ {A = ℕ} (get_or (drop k (replicate 16 0)) i 0) 0
    sub_zeros k i = get_or-drop k (replicate 16 0) i 0 ∙ zeros 16 (k + i)

    at_end : (k j : ℕ) → ((i : ℕ) → ◌≡◌ {A = ℕ} (get_or (drop k (replicate 16 0)) i 0) 0) → get_or (es ++ drop k (replicate 16 0)) j 0 ≡ get_or es j 0
    at_end k j z = append_zeros es (drop k (replicate 16 0)) z j

-- the frame taken from a line is the frame of the definition, as far as it is judged
pub frame_taken :
    (f : Format) (card n state at : ℕ) (last : Frame) (s : List ℕ) {told change : ℕ} {entries : List ℕ} {a : Bool} →
    n ≤ 16 →
    a ≡ frame_allowed f card n state last told (record { change = change; entries = entries }) →
    told ≡ number (take f.width (drop at s)) →
    change ≡ number (take 8 (drop (at + f.width) s)) →
    entries ≡ padded (entries_in f n (drop (at + (f.width + 8)) s)) →
    a ≡ frame_allowed f card n state last (state_in f (drop at s)) (frame_in f n (drop at s))
unfolding frame_allowed state_in frame_in
frame_taken f card n state at last s h e p q r =
    e
    ∙ rw (p, q, r, drop-drop f.width at s, drop-drop (f.width + 8) at s)
    (ap (λ (t : Bool). eqb (number (take f.width (drop at s))) state && (ltb last.change (number (take 8 (drop (at + f.width) s))) && t))
    (entries_same f card state n last.entries last.entries (padded (entries_in f n (drop (at + (f.width + 8)) s))) (entries_in f n (drop (at + (f.width + 8)) s)) (λ j. refl) (padded_at (entries_in f n (drop (at + (f.width + 8)) s)) (entries_length f n (drop (at + (f.width + 8)) s) h))))

pub frame_kept :
    (f : Format) (n at : ℕ) (s : List ℕ) {change : ℕ} {entries : List ℕ} →
    change ≡ number (take 8 (drop (at + f.width) s)) →
    entries ≡ padded (entries_in f n (drop (at + (f.width + 8)) s)) →
    ◌≡◌ {A = Result Frame Refusal} (Ok (record { change = change; entries = entries })) (frame_read_of (Ok tt) (frame_in f n (drop at s)))
unfolding frame_in
frame_kept f n at s q r = rw (q, r, drop-drop f.width at s, drop-drop (f.width + 8) at s)
