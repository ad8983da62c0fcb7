-- Sheets that refusals 7 and 9 let pass, one after another: how many bytes they are, and what must hold of each frame. Assumes nothing.
use Prim.Native.Nat.{ℕ, zero, suc, ◌+◌, ◌*◌, ◌-◌, ◌^◌, ◌≤◌, ◌<◌, zero-le}
use mathlib.Core.Path.{◌≡◌, refl, sym, ap, subst}
use mathlib.Core.Bool.{Bool, true, false, cond}
use mathlib.Core.List.{List, [], ◌∷◌, ◌++◌}
use native.Mathlib.Omega.{arith}
use lib.Dec.{eqb}
use lib.ListN.{length, length-append}
use borrow.Author.Tests.{ne_eqb}
use Rattle.base_laws.specs.Below.{any_below, tabulate}
use Rattle.base_laws.proofs.Logic.{clash, fails, and_intro}
use Rattle.base_laws.proofs.Below.{Found, any_elim}
use Rattle.sheet_lines.specs.declared.Frame.{Frame}
use Rattle.sheet_lines.specs.Format.{format, formats}
use Rattle.sheet_lines.specs.Lines.{frame_allowed}
use Rattle.sheet_pages.specs.Pages.{Page, page_bytes, pages_bytes}
use Rattle.sheet_pages.specs.Allowed.{frames_allowed, Formed}

-- ---- lists that begin with their first value
pub tabulate_cons : {A : Type 0} (k : ℕ) (f : ℕ → A) → tabulate (suc k) f ≡ f 0 ∷ tabulate k (λ i. f (suc i))
tabulate_cons zero f = refl
tabulate_cons (suc k) f = ap (λ (l : List _). l ++ f (suc k) ∷ []) (tabulate_cons k f)

-- ---- how many bytes

pub pages_bytes_lem : (n : ℕ) (page : ℕ → Page) → ((c : ℕ) → c < n → length (page_bytes formats (page c)) ≤ 3913) → length (pages_bytes formats (tabulate n page)) ≤ n * 3913
pages_bytes_lem zero page f = zero-le
pages_bytes_lem (suc n) page f =
    rw (tabulate_cons n page)
    (omega (arith, length-append (page_bytes formats (page 0)) (pages_bytes formats (tabulate n (λ i. page (suc i)))), f 0 (first), pages_bytes_lem n (λ i. page (suc i)) (λ c h. f (suc c) (later h))))
  where
    first : 0 < suc n
    first = omega arith

    later : {c : ℕ} → c < n → suc c < suc n
    later h = omega arith

-- ---- frames that refusal 9 lets pass
pub formed_all : (n k : ℕ) (f : ℕ → Frame) → ((i : ℕ) → i < k → (length (f i).entries ≡ n) × ((f i).change < 16 ^ 8)) → Formed n (tabulate k f)
formed_all n zero f g = tt
formed_all n (suc k) f g =
    subst (Formed n) (sym (tabulate_cons k f)) ((g 0 (first)).0, (g 0 (first)).1, formed_all n k (λ i. f (suc i)) (λ i h. g (suc i) (later h)))
  where
    first : 0 < suc k
    first = omega arith

    later : {i : ℕ} → i < k → suc i < suc k
    later h = omega arith

-- frames of consecutive states, each allowed behind the one before
pub frames_pass : (card n k state : ℕ) (last : Frame) (f : ℕ → Frame) → ((i : ℕ) → i < k → frame_allowed format card n (state + i) (cond (eqb i 0) last (f (i - 1))) (state + i) (f i) ≡ true)
    → frames_allowed format card n state last (tabulate k f) ≡ true
frames_pass card n zero state last f g = refl
frames_pass card n (suc k) state last f g =
    subst (λ (l : List Frame). frames_allowed format card n state last l ≡ true) (sym (tabulate_cons k f))
    (and_intro now (frames_pass card n k (state + 1) (f 0) (λ i. f (suc i)) later))
  where
    now : frame_allowed format card n state last state (f 0) ≡ true
    now = let e : state + 0 ≡ state = omega arith in rw e at (g 0 (first))
      where
        first : 0 < suc k
        first = omega arith

    later : (i : ℕ) → i < k → frame_allowed format card n (state + 1 + i) (cond (eqb i 0) (f 0) (f (suc (i - 1)))) (state + 1 + i) (f (suc i)) ≡ true
    later i h =
        let e : state + suc i ≡ state + 1 + i = omega arith in
        let a : frame_allowed format card n (state + suc i) (cond (eqb (suc i) 0) last (f (suc i - 1))) (state + suc i) (f (suc i)) ≡ true = g (suc i) (wider h) in
        let q : cond (eqb (suc i) 0) last (f (suc i - 1)) ≡ cond (eqb i 0) (f 0) (f (suc (i - 1))) = before i in
        subst (λ (s : ℕ). frame_allowed format card n s (cond (eqb i 0) (f 0) (f (suc (i - 1)))) s (f (suc i)) ≡ true) e
        (subst (λ (b : Frame). frame_allowed format card n (state + suc i) b (state + suc i) (f (suc i)) ≡ true) q a)
      where
        wider : i < k → suc i < suc k
        wider l = omega arith

        before : (i : ℕ) → cond (eqb (suc i) 0) last (f (suc i - 1)) ≡ cond (eqb i 0) (f 0) (f (suc (i - 1)))
        before zero = refl
        before (suc i) = let e : suc (suc i) - 1 ≡ suc (suc i - 1) = omega arith in rw (ne_eqb (suc (suc i)) 0 (λ z. absurd (omega arith)), ne_eqb (suc i) 0 (λ z. absurd (omega arith)), e)

-- what passes nowhere below n passes at none
pub none_below : (n : ℕ) (p : ℕ → Bool) → ((k : ℕ) → k < n → p k ≡ false) → any_below n p ≡ false
none_below n p f = fails (any_below n p) (λ e. let g : Found n p = any_elim n p e in clash g.2 (f g.0 g.1))
