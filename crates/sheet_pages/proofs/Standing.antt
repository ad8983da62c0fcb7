-- Every frame of sheets within the limits stands in their bytes where a frame of its card is due; for any format. Assumes nothing.
use Prim.Native.Nat.{ℕ, zero, suc, ◌+◌, ◌<◌}
use mathlib.Core.Path.{◌≡◌, refl, sym, ◌∙◌, ap, subst}
use mathlib.Core.Bool.{true}
use mathlib.Core.List.{List, [], ◌∷◌, ◌++◌, append_assoc}
use native.Mathlib.Nat.{add-zero}
use native.Mathlib.Omega.{arith}
use lib.ListN.{length, take, drop, get_or, take-append-drop}
use lib.Seq.{split_at, length-take-le}
use Rattle.base_laws.proofs.Logic.{and_left, and_right, and_intro}
use Rattle.sheet_digits.specs.declared.Sums.{Sums}
use Rattle.sheet_lines.specs.declared.Frame.{Frame}
use Rattle.sheet_lines.specs.Format.{Format, Formats}
use Rattle.sheet_lines.specs.Lines.{cards_of, format_for, start_of, header_line, frame_digits, frame_line, frame_allowed, no_frame}
use Rattle.sheet_lines.proofs.Passed.{header_limits}
use Rattle.sheet_lines.proofs.Lengths.{frame_line_length}
use Rattle.sheet_pages.specs.Pages.{Page, frames_bytes, page_bytes, pages_bytes}
use Rattle.sheet_pages.specs.Allowed.{frames_allowed, Formed, Allowed, AllAllowed, Fewer, short_bytes}
use Rattle.sheet_pages.specs.Ring.{page_at, no_page}
use Rattle.sheet_pages.specs.Due.{HeaderDue, FrameOf, line_at}
use Rattle.sheet_pages.proofs.Whole.{cards_agree}

-- ---- frames one after the other

frames_joined : (f : Format) (start : Sums) (n state : ℕ) (xs ys : List Frame) → frames_bytes f start n state (xs ++ ys) ≡ frames_bytes f start n state xs ++ frames_bytes f start n (state + length xs) ys
frames_joined f start n state [] ys = ap (λ (k : ℕ). frames_bytes f start n k ys) (sym (add-zero state))
frames_joined f start n state (x ∷ xs) ys =
    let c : state + 1 + length xs ≡ state + suc (length xs) = omega arith in
    ap (λ (bs : List ℕ). frame_line f start n state x ++ bs) (frames_joined f start n (state + 1) xs ys ∙ ap (λ (k : ℕ). frames_bytes f start n (state + 1) xs ++ frames_bytes f start n k ys) c)
    ∙ sym (append_assoc (frame_line f start n state x) (frames_bytes f start n (state + 1) xs) (frames_bytes f start n (state + suc (length xs)) ys))

first_allowed : (f : Format) (card n state : ℕ) (last : Frame) (xs ys : List Frame) → frames_allowed f card n state last (xs ++ ys) ≡ true → frames_allowed f card n state last xs ≡ true
first_allowed f card n state last [] ys e = refl
first_allowed f card n state last (x ∷ xs) ys e =
    let a = frame_allowed f card n state last state x in
    and_intro (and_left a (frames_allowed f card n (state + 1) x (xs ++ ys)) e) (first_allowed f card n (state + 1) x xs ys (and_right a (frames_allowed f card n (state + 1) x (xs ++ ys)) e))

first_formed : (n : ℕ) (xs ys : List Frame) → Formed n (xs ++ ys) → Formed n xs
first_formed n [] ys m = tt
first_formed n (x ∷ xs) ys m = (m.0, m.1, first_formed n xs ys m.2)

-- ---- sheets one after the other

sheets_joined : (F : Formats) (ps qs : List Page) → pages_bytes F (ps ++ qs) ≡ pages_bytes F ps ++ pages_bytes F qs
sheets_joined F [] qs = refl
sheets_joined F (p ∷ ps) qs = ap (λ (bs : List ℕ). page_bytes F p ++ bs) (sheets_joined F ps qs) ∙ sym (append_assoc (page_bytes F p) (pages_bytes F ps) (pages_bytes F qs))

first_sheets : (F : Formats) (due first : ℕ) (ps qs : List Page) → AllAllowed F due first (ps ++ qs) → AllAllowed F due first ps
first_sheets F due first [] qs a = tt
first_sheets F due first (p ∷ ps) qs a = (a.0, first_sheets F (due + 1) first ps qs a.1)

sheet_allowed : (F : Formats) (due first d : ℕ) (ps : List Page) → d < length ps → AllAllowed F due first ps → Allowed (format_for F (page_at ps d).header) (due + d) first (page_at ps d)
sheet_allowed F due first d [] h a = absurd (omega arith)
sheet_allowed F due first zero (p ∷ ps) h a = rw (add-zero due) a.0
sheet_allowed F due first (suc d) (p ∷ ps) h a =
    let c : due + suc d ≡ due + 1 + d = omega arith in
    rw c (sheet_allowed F (due + 1) first d ps (omega arith) a.1)

formed_at : (n k : ℕ) (frs : List Frame) → Formed n frs → k < length frs → length (get_or frs k no_frame).entries ≡ n
formed_at n k [] m h = absurd (omega arith)
formed_at n zero (fr ∷ frs) m h = m.0
formed_at n (suc k) (fr ∷ frs) m h = formed_at n k frs m.2 (omega arith)

regrouped : (a b c d e g : List ℕ) → a ++ ((b ++ (c ++ (d ++ e))) ++ g) ≡ (a ++ (b ++ (c ++ []))) ++ (d ++ (e ++ g))
regrouped a b c d e g = simp append_assoc

module _ (F : Formats) (n d k : ℕ) (ps : List Page) (l : length ps ≡ n) (a : AllAllowed F 0 n ps) (h : d < n) (j : k < length (page_at ps d).frames) where
  abbrev p : Page
  p = page_at ps d

  abbrev f : Format
  f = format_for F (page_at ps d).header

  abbrev frs : List Frame
  frs = (page_at ps d).frames

  allowed : Allowed (format_for F (page_at ps d).header) d n (page_at ps d)
  allowed =
      let z : 0 + d ≡ d = omega arith in
      subst (λ (x : ℕ). Allowed f x n p) z (sheet_allowed F 0 n d ps (omega arith) a)

  cards_are : cards_of (format_for F (page_at ps d).header) (page_at ps d).header ≡ n
  cards_are = cards_agree n (cards_of f p.header) (λ (z : n ≡ 0). absurd (omega arith)) (header_limits f d n p.header allowed.header).agrees

  split : (page_at ps d).frames ≡ take k (page_at ps d).frames ++ (get_or (page_at ps d).frames k no_frame ∷ drop (suc k) (page_at ps d).frames)
  split = split_at frs k no_frame j

  before_it : length (take k (page_at ps d).frames) ≡ k
  before_it = length-take-le k frs (omega arith)

  here : HeaderDue F n d (pages_bytes F (take d ps))
  here =
      record {
        sheets = take d ps;
        bytes = refl;
        as_many = length-take-le d ps (omega arith);
        more = h;
        allowed = first_sheets F 0 n (take d ps) (drop d ps) (subst (AllAllowed F 0 n) (sym (take-append-drop d ps)) a);
      }

  fewer : Fewer (format_for F (page_at ps d).header) d n (page_at ps d).header (take k (page_at ps d).frames)
  fewer =
      record {
        header = allowed.header;
        session = allowed.session;
        count = omega (arith, allowed.count, before_it);
        formed = first_formed (cards_of f p.header) (take k frs) (get_or frs k no_frame ∷ drop (suc k) frs) (subst (Formed (cards_of f p.header)) split allowed.formed);
        frames = first_allowed f p.header.card (cards_of f p.header) (p.header.base + 1) no_frame (take k frs) (get_or frs k no_frame ∷ drop (suc k) frs) (subst (λ (x : List Frame). frames_allowed f p.header.card (cards_of f p.header) (p.header.base + 1) no_frame x ≡ true) split allowed.frames);
      }

  -- the bytes of the sheet about that frame
  sheet_bytes : (start : Sums) (m base : ℕ) → frames_bytes f start m (base + 1) frs ≡ frames_bytes f start m (base + 1) (take k frs) ++ (frame_line f start m (base + 1 + k) (get_or frs k no_frame) ++ frames_bytes f start m (base + 1 + k + 1) (drop (suc k) frs))
  sheet_bytes start m base =
      ap (frames_bytes f start m (base + 1)) split
      ∙ frames_joined f start m (base + 1) (take k frs) (get_or frs k no_frame ∷ drop (suc k) frs)
      ∙ ap (λ (x : ℕ). frames_bytes f start m (base + 1) (take k frs) ++ frames_bytes f start m (base + 1 + x) (get_or frs k no_frame ∷ drop (suc k) frs)) before_it

  -- A frame of whole sheets stands where a frame of its card is due.
  pub frame_stands : FrameOf F n d (pages_bytes F ps) (line_at (format_for F (page_at ps d).header) (page_at ps d) k)
  frame_stands =
      let hd = p.header in
      let start = start_of f hd in
      let m = cards_of f hd in
      let tail = frames_bytes f start m (hd.base + 1 + k + 1) (drop (suc k) frs) in
      let rest = pages_bytes F (drop (suc d) ps) in
      record {
        front = pages_bytes F (take d ps) ++ short_bytes f hd (take k frs) [];
        behind = tail ++ rest;
        bytes =
            ap (pages_bytes F) (split_at ps d no_page (rw l h))
            ∙ sheets_joined F (take d ps) (p ∷ drop (suc d) ps)
            ∙ ap (λ (x : List ℕ). pages_bytes F (take d ps) ++ ((header_line f hd ++ x) ++ rest)) (sheet_bytes start m hd.base)
            ∙ regrouped (pages_bytes F (take d ps)) (header_line f hd) (frames_bytes f start m (hd.base + 1) (take k frs)) (line_at f p k) tail rest;
        due = record { before = pages_bytes F (take d ps); behind = here; header = hd; frames = take k frs; bytes = refl; cards = cards_are; fewer = fewer };
        long = frame_line_length f start m (hd.base + 1 + k) (get_or frs k no_frame) (omega (arith, formed_at m k frs allowed.formed j)) ∙ ap (λ (x : ℕ). frame_digits f x + 5) cards_are;
      }
