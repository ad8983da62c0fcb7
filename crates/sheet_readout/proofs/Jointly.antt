-- The joint verdict by its tests, and what the reader answers to long and to read bytes. Assumes nothing.
use Rattle.std.specs.Prelude.{Ok, Err}
use Prim.Native.Nat.{ℕ, ◌-◌, ◌≤◌, ◌<◌}
use mathlib.Core.Path.{◌≡◌, sym, ◌∙◌, ap}
use mathlib.Core.Bool.{Bool, true, cond}
use mathlib.Core.List.{List, []}
use native.Mathlib.Omega.{arith}
use lib.Dec.{eqb}
use lib.ListN.{length, get_or}
use borrow.Author.Tests.{lt-ltb, le-ltb}
use Rattle.base_laws.proofs.Fill.{length_tabulate}
use Rattle.base_refusal.specs.declared.Refusal.{Refusal}
use Rattle.base_refusal.specs.declared.Refusal.TheVariants.{TwoVectors, SessionsApart, TooLong, LimitReached}
use Rattle.base_refusal.specs.Reply.{Reply}
use Rattle.sheet_lines.specs.Format.{formats}
use Rattle.sheet_pages.specs.declared.Readout.{Readout}
use Rattle.sheet_pages.specs.declared.Reading.{Reading}
use Rattle.sheet_pages.specs.Pages.{Page, read_sheets}
use Rattle.sheet_pages.specs.Walk.{no_readout, lay_pages, reading_of, reading_in}
use Rattle.sheet_pages.specs.Ring.{page_of, pages_of, page_at}
use Rattle.sheet_pages.proofs.Walk.{accepted_is}
use Rattle.sheet_pages.proofs.Whole.{page_on, count_on, whole_read, pages_back}
use Rattle.sheet_sessions.specs.Sessions.{lowest_to, apart}
use Rattle.sheet_sessions.proofs.Laws.{lowest_same, apart_same}
use Rattle.sheet_vectors.specs.Vectors.{two_vectors}
use Rattle.sheet_vectors.specs.Heads.{lists_read}
use Rattle.sheet_vectors.proofs.Paged.{two_frames}
use Rattle.sheet_readout.specs.Joint.{lowest_session, sessions_apart, joint_verdict, judged, pages_read, given, readout_of}

-- ---- the verdict over the sheets that a read-out by value holds
module _ (r : Readout) where
  pages_count : length (pages_of r) ≡ r.cards
  pages_count = length_tabulate r.cards (page_of r)

  session_on : (c : ℕ) → c < r.cards → (page_at (pages_of r) c).header.session ≡ get_or r.sessions c 0
  session_on c h = ap (λ (p : Page). p.header.session) (page_on r c h)

  lowest_on : 1 ≤ r.cards → lowest_session (pages_of r) ≡ lowest_to (λ c. get_or r.sessions c 0) (r.cards - 1)
  lowest_on h =
      ap (λ (n : ℕ). lowest_to (λ c. (page_at (pages_of r) c).header.session) (n - 1)) pages_count
      ∙ lowest_same (λ c. (page_at (pages_of r) c).header.session) (λ c. get_or r.sessions c 0) (r.cards - 1) (λ c l. session_on c (let k : c < r.cards = omega arith in k))

  apart_on : {low : ℕ} → lowest_session (pages_of r) ≡ low → sessions_apart (pages_of r) ≡ apart (λ c. get_or r.sessions c 0) (λ c. get_or r.counts c 0) low r.cards
  unfolding sessions_apart
  apart_on {low} e =
      rw (e, pages_count)
      (apart_same (λ c. (page_at (pages_of r) c).header.session) (λ c. get_or r.sessions c 0) (λ c. length (page_at (pages_of r) c).frames) (λ c. get_or r.counts c 0) low r.cards session_on (λ c h. count_on r c h))

-- refusal 10 does not look at the sessions
two_lists : (changes entries sessions bases counts : List ℕ) (n : ℕ) → two_vectors (pages_of (lists_read changes entries [] bases counts n)) ≡ two_vectors (pages_of (lists_read changes entries sessions bases counts n))
two_lists changes entries sessions bases counts n =
    let r = lists_read changes entries [] bases counts n in
    let s = lists_read changes entries sessions bases counts n in
    two_frames (pages_of r) (pages_of s) (pages_count r ∙ sym (pages_count s))
    (λ c h.
    let l : c < n = rw (pages_count r) at h in
    ap (λ (p : Page). p.frames) (page_on r c l) ∙ sym (ap (λ (p : Page). p.frames) (page_on s c l)))

-- its tests, as the code goes by them
pub joint_tests :
    (r : Readout) {low : ℕ} {t a d u c : Bool} →
    1 ≤ r.cards →
    low ≡ lowest_to (λ i. get_or r.sessions i 0) (r.cards - 1) →
    t ≡ apart (λ i. get_or r.sessions i 0) (λ i. get_or r.counts i 0) low r.cards →
    t ≡ a →
    eqb low 4294967295 ≡ d →
    u ≡ two_vectors (pages_of (lists_read r.changes r.entries [] r.bases r.counts r.cards)) →
    u ≡ c →
    cond a (Err SessionsApart) (cond d (Err LimitReached) (cond c (Err TwoVectors) (Ok tt))) ≡ joint_verdict (pages_of r)
unfolding joint_verdict
joint_tests r {low} h p q e x y f =
    let l : lowest_session (pages_of r) ≡ low = lowest_on r h ∙ sym p in
    let two = two_lists r.changes r.entries r.sessions r.bases r.counts r.cards in
    rw (apart_on r l, l, ← two, ← y, f, ← x, ← q, e)

-- ---- the answer by the joint verdict
pub joint_accepted : (r : Readout) {v : Reply} → lay_pages (pages_of r) no_readout ≡ r → v ≡ joint_verdict (pages_of r) → v ≡ Ok tt → ◌≡◌ {A = Reading} (record { readout = r; verdict = Ok tt }) (given (judged (joint_verdict (pages_of r)) (pages_of r)))
joint_accepted r e p q = rw (← p, q) (λ i. record { readout = sym e i; verdict = Ok tt })

pub joint_refused : (r : Readout) {v : Reply} {x : Refusal} {g : Reading} → g ≡ given (judged (Err x) []) → v ≡ joint_verdict (pages_of r) → v ≡ Err x → g ≡ given (judged (joint_verdict (pages_of r)) (pages_of r))
joint_refused r e p q = rw (← p, q) e

-- ---- the answer to bytes
pub long_read : (input : List ℕ) → 65536 < length input → ◌≡◌ {A = Reading} (given (judged (Err TooLong) [])) (readout_of input)
unfolding pages_read
long_read input h = rw (lt-ltb 65536 (length input) h)

pub lines_accepted : (input : List ℕ) {g : Reading} → length input ≤ 65536 → g ≡ reading_of true 0 input → g.verdict ≡ Ok tt → given (judged (joint_verdict (pages_of g.readout)) (pages_of g.readout)) ≡ readout_of input
unfolding pages_read
lines_accepted input h e v =
    let ps : List Page = (read_sheets formats true 0 input).pages in
    let all_read = accepted_is formats true 0 input e v in
    let l : (read_sheets formats true 0 input).verdict ≡ Ok tt = sym (ap (λ (x : Reading). x.verdict) all_read) ∙ v in
    ap (λ (x : Reading). given (judged (joint_verdict (pages_of x.readout)) (pages_of x.readout))) all_read
    ∙ ap (λ (qs : List Page). given (judged (joint_verdict qs) qs)) (pages_back ps (whole_read formats input l))
    ∙ rw (le-ltb 65536 (length input) h, l)

pub lines_refused : (input : List ℕ) {g : Reading} {x : Refusal} → length input ≤ 65536 → g ≡ reading_of true 0 input → g.verdict ≡ Err x → given (judged (Err x) []) ≡ readout_of input
unfolding pages_read reading_in
lines_refused input {g} {x} h e v =
    let l : (read_sheets formats true 0 input).verdict ≡ Err x = sym (ap (λ (y : Reading). y.verdict) e) ∙ v in
    rw (le-ltb 65536 (length input) h, l)
