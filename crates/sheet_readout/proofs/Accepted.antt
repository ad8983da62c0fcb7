-- What every accepted read-out has, over its sheets; and that its value is a representation of them. Assumes nothing.
use Rattle.std.specs.Prelude.{Ok, Err}
use Prim.Native.Nat.{ℕ, ◌+◌, ◌-◌, ◌≤◌, ◌<◌}
use mathlib.Core.Path.{◌≡◌, refl}
use mathlib.Core.Logic.{◌⊎◌, inl, inr, ⊎_elim}
use mathlib.Core.Bool.{Bool, true, false, cond}
use mathlib.Core.List.{List, []}
use native.Mathlib.Omega.{arith}
use lib.Dec.{eqb, ltb}
use lib.ListN.{length}
use borrow.Author.Tests.{eqb-false, ltb-false, le-ltb}
use Rattle.base_laws.proofs.Logic.{test, cond_case}
use Rattle.base_refusal.specs.declared.Refusal.TheVariants.{TwoVectors, SessionsApart, LimitReached}
use Rattle.base_refusal.specs.Reply.{Reply}
use Rattle.sheet_lines.specs.Format.{formats}
use Rattle.sheet_pages.specs.Pages.{Page, pages_bytes, read_sheets}
use Rattle.sheet_pages.specs.Ring.{page_at, pages_of}
use Rattle.sheet_pages.specs.Whole.{Whole}
use Rattle.sheet_pages.proofs.Round.{read_writes_again}
use Rattle.sheet_pages.proofs.Whole.{whole_read, whole_back, pages_back}
use Rattle.sheet_sessions.proofs.Laws.{lowest_le, lowest_ge, one_ahead}
use Rattle.sheet_vectors.specs.Vectors.{two_vectors}
use Rattle.sheet_readout.specs.Joint.{lowest_session, sessions_apart, joint_verdict, PagesRead, judged, lined, pages_read, readout_of}

-- ---- an accepted read-out

-- its sheets: within the limits by themselves, and beside each other; written, they are the bytes
pub record AcceptedPages (input : List ℕ) (ps : List Page) : Type 0 where
  pub whole : Whole formats ps
  pub joint : joint_verdict ps ≡ Ok tt
  pub bytes : pages_bytes formats ps ≡ input
  pub short : length input ≤ 65536

-- what was judged
record Judged (v : Reply) (ps : List Page) (x : PagesRead) : Type 0 where
  pub verdict : v ≡ Ok tt
  pub pages : x.pages ≡ ps

judged_accepted : (v : Reply) (ps : List Page) → (judged v ps).verdict ≡ Ok tt → Judged v ps (judged v ps)
judged_accepted (Ok _) ps e = record { verdict = refl; pages = refl }
judged_accepted (Err x) ps e = let z : ◌≡◌ {A = ℕ} 0 1 = cc in absurd (omega arith)

record Lined (v : Reply) (ps : List Page) (x : PagesRead) : Type 0 where
  pub lines : v ≡ Ok tt
  pub joint : Judged (joint_verdict ps) ps x

lined_accepted : (v : Reply) (ps : List Page) → (lined v ps).verdict ≡ Ok tt → Lined v ps (lined v ps)
lined_accepted (Ok _) ps e = record { lines = refl; joint = judged_accepted (joint_verdict ps) ps e }
lined_accepted (Err x) ps e = let z : ◌≡◌ {A = ℕ} 0 1 = cc in absurd (omega arith)

pub accepted_pages : (input : List ℕ) → (pages_read input).verdict ≡ Ok tt → AcceptedPages input (pages_read input).pages
unfolding pages_read
accepted_pages input e =
    test (ltb 65536 (length input))
    (λ (t : ltb 65536 (length input) ≡ true). let z : ◌≡◌ {A = ℕ} 0 1 = cc (rw t at e) in absurd (omega arith))
    (λ (t : ltb 65536 (length input) ≡ false).
    let ps : List Page = (read_sheets formats true 0 input).pages in
    let v : Reply = (read_sheets formats true 0 input).verdict in
    let l : Lined v ps (lined v ps) = lined_accepted v ps (rw t at e) in
    rw (t, l.joint.pages)
    (record { whole = whole_read formats input l.lines; joint = l.joint.verdict; bytes = read_writes_again formats true 0 input l.lines; short = ltb-false 65536 (length input) t }))

-- a refused read-out has no sheets
judged_or : (v : Reply) (ps : List Page) → ((judged v ps).verdict ≡ Ok tt) ⊎ ((judged v ps).pages ≡ [])
judged_or (Ok _) ps = inl refl
judged_or (Err x) ps = inr refl

lined_or : (v : Reply) (ps : List Page) → ((lined v ps).verdict ≡ Ok tt) ⊎ ((lined v ps).pages ≡ [])
lined_or (Ok _) ps = judged_or (joint_verdict ps) ps
lined_or (Err x) ps = inr refl

pub read_or : (input : List ℕ) → ((pages_read input).verdict ≡ Ok tt) ⊎ ((pages_read input).pages ≡ [])
unfolding pages_read
read_or input =
    cond_case (λ (x : PagesRead). (x.verdict ≡ Ok tt) ⊎ (x.pages ≡ [])) (ltb 65536 (length input)) (λ t. inr refl)
    (λ t. lined_or (read_sheets formats true 0 input).verdict (read_sheets formats true 0 input).pages)

-- The read-out that the reader gives is a representation of the sheets read, whatever the bytes.
pub readout_pages : (input : List ℕ) → pages_of (readout_of input).readout ≡ (pages_read input).pages
readout_pages input =
    ⊎_elim (λ (e : (pages_read input).verdict ≡ Ok tt). pages_back (pages_read input).pages (accepted_pages input e).whole)
    (λ (e : (pages_read input).pages ≡ []). rw e) (read_or input)

-- and whole sheets, written, are read back and judged
pub pages_judged : (ps : List Page) → Whole formats ps → length (pages_bytes formats ps) ≤ 65536 → pages_read (pages_bytes formats ps) ≡ judged (joint_verdict ps) ps
unfolding pages_read
pages_judged ps w h = rw (le-ltb 65536 (length (pages_bytes formats ps)) h, whole_back ps w)

-- ---- sheets that 11, 24 and 10 let pass
pub record Joint (ps : List Page) : Type 0 where
  pub level : sessions_apart ps ≡ false
  pub below : lowest_session ps ≡ 4294967295 → ⊥
  pub one_vector : two_vectors ps ≡ false

pub joint_passed : (ps : List Page) → joint_verdict ps ≡ Ok tt → Joint ps
unfolding joint_verdict
joint_passed ps e = go (sessions_apart ps) (eqb (lowest_session ps) 4294967295) (two_vectors ps) refl refl refl e
  where
    go : (a b c : Bool) → sessions_apart ps ≡ a → eqb (lowest_session ps) 4294967295 ≡ b → two_vectors ps ≡ c
        → ◌≡◌ {A = Reply} (cond a (Err SessionsApart) (cond b (Err LimitReached) (cond c (Err TwoVectors) (Ok tt)))) (Ok tt) → Joint ps
    go true b c p q r z = let w : ◌≡◌ {A = ℕ} 0 1 = cc in absurd (omega arith)
    go false true c p q r z = let w : ◌≡◌ {A = ℕ} 0 1 = cc in absurd (omega arith)
    go false false true p q r z = let w : ◌≡◌ {A = ℕ} 0 1 = cc in absurd (omega arith)
    go false false false p q r z = record { level = p; below = eqb-false (lowest_session ps) 4294967295 q; one_vector = r }

-- a sheet's session is the lowest, or the next
pub session_low : (ps : List Page) (c : ℕ) → c < length ps → lowest_session ps ≤ (page_at ps c).header.session
session_low ps c h = lowest_le (λ i. (page_at ps i).header.session) (length ps - 1) c (omega arith)

pub session_high : (ps : List Page) → sessions_apart ps ≡ false → (c : ℕ) → c < length ps → (page_at ps c).header.session ≤ lowest_session ps + 1
unfolding sessions_apart
session_high ps e c h = one_ahead (λ i. (page_at ps i).header.session) (λ i. length (page_at ps i).frames) (lowest_session ps) (length ps) e c h

pub lowest_some : (ps : List Page) → Whole formats ps → lowest_session ps ≡ 0 → ⊥
lowest_some ps w z = let a : 1 ≤ lowest_session ps = lowest_ge (λ i. (page_at ps i).header.session) (length ps - 1) 1 each in omega arith
  where
    each : (i : ℕ) → i ≤ length ps - 1 → 1 ≤ (page_at ps i).header.session
    each i h =
        let s = w.some in
        let l : i < length ps = omega arith in
        let y : (page_at ps i).header.session ≡ 0 → ⊥ = (w.sheet i l).session_some in
        omega (arith, y)
