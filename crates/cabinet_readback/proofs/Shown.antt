-- What an accepted read-out shows, as its sheets and as the model that restarts from them. Assumes nothing.
use Prim.Native.Nat.{ℕ, suc, ◌+◌, ◌-◌, ◌≤◌, ◌<◌}
use mathlib.Core.Path.{◌≡◌, refl, ◌∙◌, ap}
use mathlib.Core.Bool.{Bool, true, not, ◌&&◌, ◌||◌}
use mathlib.Core.Logic.{⊎_elim}
use mathlib.Core.List.{List}
use native.Mathlib.Omega.{arith}
use lib.Dec.{eqb, leb, ltb}
use lib.ListN.{length, get_or}
use borrow.Author.Tests.{lt-ltb, le-leb, ltb-true, leb-true, eqb-true, eq-eqb}
use Rattle.base_laws.specs.Below.{all_below}
use Rattle.base_laws.proofs.Logic.{clash, and_left, and_right, and_intro, or_elim, not_true, cond_true}
use Rattle.base_laws.proofs.Below.{all_at}
use Rattle.sheet_lines.specs.declared.Frame.{Frame}
use Rattle.sheet_lines.specs.Format.{format, formats}
use Rattle.sheet_lines.specs.Lines.{frame_allowed, entries_allowed, entry_allowed, no_frame}
use Rattle.sheet_pages.specs.Pages.{Page}
use Rattle.sheet_pages.specs.Ring.{page_at}
use Rattle.sheet_pages.specs.Whole.{Whole}
use Rattle.sheet_pages.proofs.Whole.{frame_before, frames_at, formed_at}
use Rattle.theory_codec.specs.Sheets.{page_stored, is_on, change_on, vector_on}

-- ---- a frame that refusal 9 lets pass
pub record FrameIn (n c x : ℕ) (last fr : Frame) : Type 0 where
  pub rising : last.change < fr.change
  pub climbing : (j : ℕ) → j < n → get_or last.entries j 0 ≤ get_or fr.entries j 0
  pub within : (j : ℕ) → j < n → get_or fr.entries j 0 ≤ 60000
  pub own : get_or fr.entries c 0 ≡ x

frame_in_lem : (n c x : ℕ) (last fr : Frame) → c < n → frame_allowed format c n x last x fr ≡ true → FrameIn n c x last fr
unfolding frame_allowed entries_allowed
frame_in_lem n c x last fr h e =
    record {
      rising = ltb-true last.change fr.change (and_left up entries rest);
      climbing = λ j l. leb-true (p j) (v j) (and_left (leb (p j) (v j)) (leb (v j) 60000 && (not (eqb j c) || eqb (v j) x)) (at j l));
      within = λ j l. leb-true (v j) 60000 (and_left (leb (v j) 60000) (not (eqb j c) || eqb (v j) x) (beyond j l));
      own = ⊎_elim (λ (z : not (eqb c c) ≡ true). clash (eq-eqb c c refl) (not_true (eqb c c) z)) (λ (z : eqb (v c) x ≡ true). eqb-true (v c) x z) (or_elim (not (eqb c c)) (eqb (v c) x) (and_right (leb (v c) 60000) (not (eqb c c) || eqb (v c) x) (beyond c h)));
    }
  where
    p : ℕ → ℕ
    p j = get_or last.entries j 0

    v : ℕ → ℕ
    v j = get_or fr.entries j 0

    up : Bool
    up = ltb last.change fr.change

    entries : Bool
    entries = all_below n (λ j. entry_allowed format c x j (get_or last.entries j 0) (get_or fr.entries j 0))

    rest : ltb last.change fr.change && all_below n (λ j. entry_allowed format c x j (get_or last.entries j 0) (get_or fr.entries j 0)) ≡ true
    rest = and_right (eqb x x) (ltb last.change fr.change && all_below n (λ j. entry_allowed format c x j (get_or last.entries j 0) (get_or fr.entries j 0))) e

    at : (j : ℕ) → j < n → leb (get_or last.entries j 0) (get_or fr.entries j 0) && (leb (get_or fr.entries j 0) 60000 && (not (eqb j c) || eqb (get_or fr.entries j 0) x)) ≡ true
    at j l = all_at n (λ j. entry_allowed format c x j (get_or last.entries j 0) (get_or fr.entries j 0)) (and_right (ltb last.change fr.change) (all_below n (λ j. entry_allowed format c x j (get_or last.entries j 0) (get_or fr.entries j 0))) rest) j l

    beyond : (j : ℕ) → j < n → leb (get_or fr.entries j 0) 60000 && (not (eqb j c) || eqb (get_or fr.entries j 0) x) ≡ true
    beyond j l = and_right (leb (get_or last.entries j 0) (get_or fr.entries j 0)) (leb (get_or fr.entries j 0) 60000 && (not (eqb j c) || eqb (get_or fr.entries j 0) x)) (at j l)

-- ---- the model that restarts from it
module _ (ps : List Page) (w : Whole formats ps) where
  pub stored_is : (c : ℕ) → c < length ps → page_stored (page_at ps c) ≡ (page_at ps c).header.base + length (page_at ps c).frames
  stored_is c h = ap (λ (k : ℕ). (page_at ps c).header.base + k) (w.sheet c h).count

  module _ (c : ℕ) (h : c < length ps) (i : ℕ) (l : i < length (page_at ps c).frames) where
    abbrev pub state : ℕ
    state = suc ((page_at ps c).header.base + i)

    abbrev pub frame : Frame
    frame = get_or (page_at ps c).frames i no_frame

    is_on_lem : is_on (page_at ps c) state ≡ true
    is_on_lem = and_intro (lt-ltb (page_at ps c).header.base state (omega arith)) (le-leb state (page_stored (page_at ps c)) (omega (arith, stored_is c h)))

    frame_is : get_or (page_at ps c).frames (state - suc (page_at ps c).header.base) no_frame ≡ frame
    frame_is = let e : state - suc (page_at ps c).header.base ≡ i = omega arith in ap (λ (k : ℕ). get_or (page_at ps c).frames k no_frame) e

    pub long : length frame.entries ≡ length ps
    long = formed_at (length ps) (page_at ps c).frames (w.sheet c h).formed i l

    pub change_at_lem : change_on (page_at ps c) state ≡ frame.change
    change_at_lem = cond_true (get_or (page_at ps c).frames (state - suc (page_at ps c).header.base) no_frame).change 0 is_on_lem ∙ ap (λ (f : Frame). f.change) frame_is

    pub vector_at_lem : (j : ℕ) → vector_on (page_at ps c) state j ≡ get_or frame.entries j 0
    vector_at_lem j =
        cond_true (get_or (get_or (page_at ps c).frames (state - suc (page_at ps c).header.base) no_frame).entries j 0) 0 is_on_lem ∙ ap (λ (f : Frame). get_or f.entries j 0) frame_is

    pub passes : FrameIn (length ps) c state (frame_before no_frame (page_at ps c).frames i) frame
    passes =
        frame_in_lem (length ps) c state (frame_before no_frame (page_at ps c).frames i) frame h
        (frames_at format c (length ps) (page_at ps c).frames ((page_at ps c).header.base + 1) no_frame (w.sheet c h).frames i state l (let e : state ≡ (page_at ps c).header.base + 1 + i = omega arith in e))
