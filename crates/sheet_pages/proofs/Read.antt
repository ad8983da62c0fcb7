-- What was read of an accepted sheet, and of an accepted read-out, is within the limits, for any format. Assumes nothing.
use Rattle.std.specs.Prelude.{Ok}
use Prim.Native.Nat.{ℕ, zero, suc, ◌+◌, ◌-◌}
use mathlib.Core.Path.{◌≡◌, refl, sym, ◌∙◌, ap, subst}
use mathlib.Core.Bool.{true, false}
use mathlib.Core.List.{List, [], ◌∷◌}
use lib.ListN.{length, drop}
use Rattle.base_laws.proofs.Logic.{and_intro}
use Rattle.sheet_digits.specs.declared.Sums.{Sums}
use Rattle.sheet_lines.specs.declared.Frame.{Frame}
use Rattle.sheet_lines.specs.Format.{Format, Formats}
use Rattle.sheet_lines.specs.Lines.{cards_of, format_in, format_for, start_of, header_digits, header_in, header_verdict, frame_digits, frame_in, frame_verdict, no_frame}
use Rattle.sheet_lines.proofs.Passed.{header_passed}
use Rattle.sheet_line_round.proofs.Round.{told_again, entries_all_lem, change_fits, session_fits, state_is}
use Rattle.sheet_pages.specs.Pages.{Page, read_frames, frames_of, ended, more_sheets, read_sheets}
use Rattle.sheet_pages.specs.Allowed.{frames_allowed, Formed, Allowed, AllAllowed}
use Rattle.sheet_pages.proofs.Round.{with_accepted, with_both}

-- k frames that were read
record Frames-read (f : Format) (card n k state : ℕ) (last : Frame) (frs : List Frame) : Type 0 where
  pub allowed : frames_allowed f card n state last frs ≡ true
  pub formed : Formed n frs
  pub count : length frs ≡ k

frames_read :
    (f : Format) (start : Sums) (card n k state : ℕ) (last : Frame) (input : List ℕ) → (read_frames f start card n k state last input).verdict ≡ Ok tt → Frames-read f card n k state last (read_frames f start card n k state last input).frames
frames_read f start card n zero state last input e = record { allowed = refl; formed = tt; count = refl }
frames_read f start card n (suc k) state last input e =
    let fr = frame_in f n input in
    let more = drop (frame_digits f n + 5) input in
    let a = with_accepted (frame_verdict f start card n state last input) fr input (read_frames f start card n k (state + 1) fr more) e in
    let g = frames_read f start card n k (state + 1) fr more a.1 in
    rw a.0 (record { allowed = and_intro (state_is f start card n state last input a.0) g.allowed; formed = (entries_all_lem f n input, change_fits f start card n state last input a.0, g.formed); count = ap suc g.count })

-- a page whose header and frames were accepted
pub page_read :
    (f : Format) (due first : ℕ) (input : List ℕ) →
    header_verdict f due first input ≡ Ok tt →
    (frames_of f (header_in f input) input).verdict ≡ Ok tt →
    Allowed f due first (record { header = header_in f input; frames = (frames_of f (header_in f input) input).frames })
page_read f due first input e v =
    let h = header_in f input in
    let g = frames_read f (start_of f h) h.card (cards_of f h) h.count (h.base + 1) no_frame (drop (header_digits f + 5) input) v in
    record {
      header = (header_passed f due first input e).allowed_is;
      session = session_fits f due first input e;
      count = sym g.count;
      formed = g.formed;
      frames = g.allowed;
    }

-- One sheet that was accepted: the page read, and that it is within the limits.
pub record Sheet-read (F : Formats) (card : ℕ) (input : List ℕ) : Type 0 where
  pub page : Page
  pub picks : format_in F input ≡ format_for F page.header
  pub allowed : Allowed (format_in F input) card 0 page
  pub pages : (read_sheets F false card input).pages ≡ page ∷ []

pub sheet_read : (F : Formats) (card : ℕ) (input : List ℕ) → (read_sheets F false card input).verdict ≡ Ok tt → Sheet-read F card input
unfolding read_sheets
sheet_read F card input e =
    let f = format_in F input in
    let h = header_in f input in
    let fs = frames_of f h input in
    let a = with_both (header_verdict f card 0 input) fs.verdict h fs input (ended fs.rest) e in
    record { page = record { header = h; frames = fs.frames }; picks = told_again F f input refl; allowed = page_read f card 0 input a.0 a.1; pages = rw (a.0, a.1) }

-- k further sheets that were accepted
record More-read (F : Formats) (k due first : ℕ) (ps : List Page) : Type 0 where
  pub allowed : AllAllowed F due first ps
  pub long : length ps ≡ k

more_read : (F : Formats) (k due first : ℕ) (input : List ℕ) → (more_sheets F k due first input).verdict ≡ Ok tt → More-read F k due first (more_sheets F k due first input).pages
more_read F zero due first input e = record { allowed = tt; long = refl }
more_read F (suc k) due first input e =
    let f = format_in F input in
    let h = header_in f input in
    let fs = frames_of f h input in
    let a = with_both (header_verdict f due first input) fs.verdict h fs input (more_sheets F k (due + 1) first fs.rest) e in
    let g = more_read F k (due + 1) first fs.rest a.2 in
    let p : Page = record { header = h; frames = fs.frames } in
    let w : Allowed (format_for F h) due first p = subst (λ (x : Format). Allowed x due first p) (told_again F f input refl) (page_read f due first input a.0 a.1) in
    rw (a.0, a.1) (record { allowed = (w, g.allowed); long = ap suc g.long })

-- A read-out whose lines were accepted: the first sheet, and one more for each other card.
pub record Lines-read (F : Formats) (ps : List Page) : Type 0 where
  pub head : Page
  pub tail : List Page
  pub all : ps ≡ head ∷ tail
  pub first : Allowed (format_for F head.header) 0 0 head
  pub more : AllAllowed F 1 (cards_of (format_for F head.header) head.header) tail
  pub long : length tail ≡ cards_of (format_for F head.header) head.header - 1

pub lines_read : (F : Formats) (input : List ℕ) → (read_sheets F true 0 input).verdict ≡ Ok tt → Lines-read F (read_sheets F true 0 input).pages
unfolding read_sheets
lines_read F input e =
    let f = format_in F input in
    let h = header_in f input in
    let fs = frames_of f h input in
    let n = cards_of f h in
    let a = with_both (header_verdict f 0 0 input) fs.verdict h fs input (more_sheets F (n - 1) 1 n fs.rest) e in
    let g = more_read F (n - 1) 1 n fs.rest a.2 in
    let p : Page = record { header = h; frames = fs.frames } in
    let k : f ≡ format_for F h = told_again F f input refl in
    let m : n ≡ cards_of (format_for F h) h = ap (λ (x : Format). cards_of x h) k in
    record {
      head = p;
      tail = (more_sheets F (n - 1) 1 n fs.rest).pages;
      all = rw (a.0, a.1);
      first = subst (λ (x : Format). Allowed x 0 0 p) k (page_read f 0 0 input a.0 a.1);
      more = subst (λ (x : ℕ). AllAllowed F 1 x (more_sheets F (n - 1) 1 n fs.rest).pages) m g.allowed;
      long = g.long ∙ ap (λ (x : ℕ). x - 1) m;
    }
