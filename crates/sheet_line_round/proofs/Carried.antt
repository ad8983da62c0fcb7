-- A line that passes from the start of one sheet, where a line of another is due, for any format. Assumes nothing.
use Rattle.std.specs.Prelude.{Ok, Err}
use Prim.Native.Nat.{ℕ, ◌+◌, ◌%◌, ◌≤◌, ◌<◌}
use mathlib.Core.Path.{◌≡◌, refl, sym, ◌∙◌, ap}
use mathlib.Core.Bool.{true, false}
use mathlib.Core.List.{List, [], ◌∷◌, ◌++◌, append-nil}
use mathlib.Core.Logic.{by_cases}
use native.Mathlib.Decide.{dec_lt}
use native.Mathlib.Omega.{arith}
use lib.ListN.{length}
use Rattle.base_laws.proofs.Logic.{clash, fails}
use Rattle.base_refusal.specs.declared.Refusal.TheVariants.{BadLine, BadCheck}
use Rattle.sheet_digits.specs.declared.Sums.{Sums}
use Rattle.sheet_digits.specs.Digits.{written}
use Rattle.sheet_digits.specs.Line.{sheet_line, shaped, checked, shape_of}
use Rattle.sheet_digits.proofs.Digits.{written_all}
use Rattle.sheet_digits.proofs.Lines.{shape, whole_shaped, shaped_whole, line_shaped, line_checked, other_start, one_start, shaped_behind, checked_behind}
use Rattle.sheet_lines.specs.declared.Header.{Header}
use Rattle.sheet_lines.specs.declared.Frame.{Frame}
use Rattle.sheet_lines.specs.Format.{Format}
use Rattle.sheet_lines.specs.Lines.{start_of, header_widths, header_digits, header_numbers, header_line, header_in, header_verdict, frame_digits, frame_verdict}
use Rattle.sheet_lines.proofs.Lengths.{header_length}
use Rattle.sheet_lines.proofs.Passed.{header_passed, header_limits, frame_passed}
use Rattle.sheet_line_round.proofs.Round.{Valid, check_small, not_both}

-- sums within eight bits
pub record Eight (s : Sums) : Type 0 where
  pub first : s.first < 256
  pub second : s.second < 256

pub eight : (f : Format) → Valid f → (card session : ℕ) → Eight (f.start card session)
eight f v card session = record { first = v.first card session; second = v.second card session }

-- a line of n digits before the check, whose check passes from a start
pub record Passing (start : Sums) (n : ℕ) (line : List ℕ) : Type 0 where
  pub shape_is : shaped n line ≡ true
  pub check_is : checked start n line ≡ true
  pub small : Eight start

-- whatever stands behind it
module _ (start : Sums) (n : ℕ) (line rest : List ℕ) (p : Passing start n line) where
  long : n + 5 ≤ length line
  long = (shape n line p.shape_is).long

  pub shaped_there : shaped n (line ++ rest) ≡ true
  shaped_there = shaped_behind n line rest long ∙ p.shape_is

  -- it passes from no other start
  pub checked_once : (other : Sums) → Eight other → (other ≡ start → ⊥) → checked other n (line ++ rest) ≡ false
  checked_once other e d =
      fails (checked other n (line ++ rest))
      (λ (z : checked other n (line ++ rest) ≡ true).
      d (one_start other start n line e.first e.second p.small.first p.small.second (sym (checked_behind n line rest long other) ∙ z) p.check_is))

-- an input begins with a line of one length
one_length : (n k : ℕ) (input : List ℕ) → shaped n input ≡ true → shaped k input ≡ true → n ≡ k
one_length n k input s t =
    by_cases (dec_lt n k) (λ l. absurd (not_both n k input input l s t refl))
    (λ l. by_cases (dec_lt k n) (λ m. absurd (not_both k n input input m t s refl)) (λ m. omega arith))

-- ---- lines that pass

-- the line of an accepted frame
pub frame_passing :
    (f : Format) (start : Sums) (card n state : ℕ) (last : Frame) (line rest : List ℕ) → Eight start → length line ≡ frame_digits f n + 5 → frame_verdict f start card n state last (line ++ rest) ≡ Ok tt → Passing start (frame_digits f n) line
frame_passing f start card n state last line rest small l e =
    let k = frame_digits f n in
    let p = frame_passed f start card n state last (line ++ rest) e in
    let fits : k + 5 ≤ length line = omega arith in
    record { shape_is = sym (shaped_behind k line rest fits) ∙ whole_shaped k (line ++ rest) p.whole; check_is = sym (checked_behind k line rest fits start) ∙ p.right_is; small = small }

-- a header line as it is written, whatever it says
pub header_passing : (f : Format) → Valid f → (h : Header) → Passing (start_of f h) (header_digits f) (header_line f h)
unfolding header_line
header_passing f v h =
    let n = header_digits f in
    let start = start_of f h in
    let body = written (header_widths f) (header_numbers h) in
    let all = written_all (header_widths f) (header_numbers h) in
    let count = header_length f h in
    record {
      shape_is = ap (shaped n) (sym (append-nil (sheet_line start body))) ∙ line_shaped start n body [] all count;
      check_is = ap (checked start n) (sym (append-nil (sheet_line start body))) ∙ line_checked start n body [] all count (check_small start body (v.first h.card h.session) (v.second h.card h.session));
      small = eight f v h.card h.session;
    }

-- ---- where a frame is due

-- A line of a frame's length is 6, if its sums start elsewhere.
pub frame_carried :
    (f : Format) (start other : Sums) (card n state : ℕ) (last : Frame) (line rest : List ℕ) →
    Passing other (frame_digits f n) line →
    Eight start →
    (start ≡ other → ⊥) →
    frame_verdict f start card n state last (line ++ rest) ≡ Err BadCheck
unfolding frame_verdict
frame_carried f start other card n state last line rest p small d =
    rw (shaped_whole (frame_digits f n) (line ++ rest) (shaped_there other (frame_digits f n) line rest p), checked_once other (frame_digits f n) line rest p start small d)

not_whole : (n : ℕ) (input : List ℕ) → 0 < length input → shaped n input ≡ false → shape_of n input ≡ Err BadLine
unfolding shape_of
not_whole n [] h e = absurd (omega arith)
not_whole n (b ∷ bs) h e = rw e

-- A line of another length is 5, whatever it says.
pub length_other :
    (f : Format) (start other : Sums) (k card n state : ℕ) (last : Frame) (line rest : List ℕ) →
    Passing other k line →
    (frame_digits f n ≡ k → ⊥) →
    frame_verdict f start card n state last (line ++ rest) ≡ Err BadLine
unfolding frame_verdict
length_other f start other k card n state last line rest p d =
    let input = line ++ rest in
    let s = shaped_there other k line rest p in
    rw (not_whole (frame_digits f n) input (omega (arith, (shape k input s).long)) (fails (shaped (frame_digits f n) input) (λ z. d (one_length (frame_digits f n) k input z s))))

-- ---- where a header is due

-- A line that passes is accepted as no header of a card whose sums start elsewhere.
pub no_header :
    (f : Format) → Valid f → (start : Sums) (k due first : ℕ) (line rest : List ℕ) →
    Passing start k line →
    ((session : ℕ) → f.start due session ≡ start → ⊥) →
    header_verdict f due first (line ++ rest) ≡ Ok tt →
    ⊥
no_header f v start k due first line rest p d e =
    let input = line ++ rest in
    let n = header_digits f in
    let h = header_in f input in
    let q = header_passed f due first input e in
    let c : h.card ≡ due = (header_limits f due first h q.allowed_is).card in
    let l : n ≡ k = one_length n k input (whole_shaped n input q.whole) (shaped_there start k line rest p) in
    let r : checked (f.start due h.session) k input ≡ true = ap (λ (x : ℕ). checked (f.start x h.session) k input) (sym c) ∙ (rw l at q.right_is) in
    clash r (checked_once start k line rest p (f.start due h.session) (eight f v due h.session) (d h.session))

-- A header line that passes from a start with another first sum is 6.
pub header_carried :
    (f : Format) (start : Sums) (due first : ℕ) (input : List ℕ) →
    shape_of (header_digits f) input ≡ Ok tt →
    checked start (header_digits f) input ≡ true →
    ((start_of f (header_in f input)).first % 256 ≡ start.first % 256 → ⊥) →
    header_verdict f due first input ≡ Err BadCheck
unfolding header_verdict
header_carried f start due first input w c d =
    let h = header_in f input in
    let n = header_digits f in
    rw (w, fails (checked (start_of f h) n input) (λ (z : checked (start_of f h) n input ≡ true). d (other_start (start_of f h) start n input z c)))
