-- The read-out of accepted lines: its change numbers rise, and it is what its sheets lay. Assumes nothing.
use Rattle.std.specs.Prelude.{Ok}
use Prim.Native.Nat.{ℕ, suc, ◌+◌, ◌-◌, ◌≤◌, ◌<◌}
use mathlib.Core.Path.{◌≡◌, sym, ◌∙◌, ap, subst}
use mathlib.Core.Bool.{true, cond}
use mathlib.Core.List.{List}
use mathlib.Core.Logic.{by_cases}
use native.Mathlib.Decide.{dec_lt}
use native.Mathlib.Omega.{arith}
use lib.Dec.{ltb}
use lib.ListN.{length, get_or}
use borrow.Author.Tests.{ltb-true}
use Rattle.base_laws.proofs.Logic.{test, cond_true, cond_false}
use Rattle.base_merge.specs.Merge.{at, change_at, ends_of, CardRises}
use Rattle.sheet_lines.specs.Format.{format, formats}
use Rattle.sheet_lines.specs.Lines.{no_frame}
use Rattle.sheet_pages.specs.declared.Readout.{Readout}
use Rattle.sheet_pages.specs.declared.Reading.{Reading}
use Rattle.sheet_pages.specs.Pages.{Page, read_sheets}
use Rattle.sheet_pages.specs.Walk.{no_readout, lay_pages, reading_of}
use Rattle.sheet_pages.specs.Ring.{page_at}
use Rattle.sheet_pages.specs.Whole.{Whole}
use Rattle.sheet_pages.proofs.Walk.{accepted_is}
use Rattle.sheet_pages.proofs.Whole.{whole_read, frames_rise, whole_holds, whole_cards, pages_back}
use Rattle.sheet_vectors.specs.Heads.{stored_numbers, Orderly}
use Rattle.sheet_vectors.proofs.Agreed.{end_of}
use Rattle.sheet_readout.specs.Laid.{Laid}

module _ (ps : List Page) (w : Whole formats ps) where
  abbrev out : Readout
  out = lay_pages ps no_readout

  abbrev base : ℕ → ℕ
  base c = at out.bases c

  states : (c : ℕ) → c < 16 → at out.bases c + at out.counts c ≤ 60000
  states c h =
      let k = whole_holds ps w in
      by_cases (dec_lt c (length ps)) (λ (l : c < length ps). omega (arith, k.base c l, k.count c l, (w.sheet c l).states))
      (λ (l : ¬ (c < length ps)). omega (arith, k.no_base c (omega arith), k.no_count c (omega arith)))

  -- the change of a state, by its frame
  change_at_lem : (c x i : ℕ) → (l : c < length ps) → i < length (page_at ps c).frames → x ≡ suc (base c + i) → change_at out.changes c x ≡ (get_or (page_at ps c).frames i no_frame).change
  change_at_lem c x i l g e =
      let b : base c ≡ (page_at ps c).header.base = (whole_holds ps w).base c l in
      let q : x ≡ (page_at ps c).header.base + 1 + i = omega arith in
      ap (change_at out.changes c) q ∙ (whole_holds ps w).change c i no_frame l g

  card_rises : (c : ℕ) → c < length ps → CardRises (change_at out.changes c) (base c) (base c + length (page_at ps c).frames)
  card_rises c l = record { some = some; next = next }
    where
      some : (x : ℕ) → at out.bases c < x → x ≤ at out.bases c + length (page_at ps c).frames → 0 < change_at out.changes c x
      some x a b =
          let i : ℕ = x - suc (at out.bases c) in
          let g : i < length (page_at ps c).frames = omega arith in
          omega (arith, change_at_lem c x i l g (omega arith), frames_rise format (length ps) c (page_at ps c) (w.sheet c l) i g)

      next : (x : ℕ) → at out.bases c < x → x < at out.bases c + length (page_at ps c).frames → change_at out.changes c x < change_at out.changes c (suc x)
      next x a b =
          let i : ℕ = x - suc (at out.bases c) in
          let g : suc i < length (page_at ps c).frames = omega arith in
          omega (arith, change_at_lem c x i l (omega arith) (omega arith), change_at_lem c (suc x) (suc i) l g (omega arith), frames_rise format (length ps) c (page_at ps c) (w.sheet c l) (suc i) g)

  orderly : Orderly out.changes out.bases out.counts out.cards
  orderly = record { states = states; rises = record { card = each } }
    where
      each : (c : ℕ) → c < 16 → CardRises (change_at out.changes c) (at out.bases c) (at (ends_of (stored_numbers out.bases out.counts) out.cards) c)
      each c h =
          let n : ℕ = out.cards in
          let q : at (ends_of (stored_numbers out.bases out.counts) n) c ≡ cond (ltb c n) (at out.bases c + at out.counts c) 0 = end_of out.bases out.counts n c h in
          test (ltb c n)
          (λ e.
          let l : c < length ps = omega (arith, ltb-true c n e, whole_cards ps w) in
          subst (λ (x : ℕ). CardRises (change_at out.changes c) (at out.bases c) x) (sym (q ∙ cond_true (at out.bases c + at out.counts c) 0 e ∙ ap (λ (k : ℕ). at out.bases c + k) ((whole_holds ps w).count c l))) (card_rises c l))
          (λ e.
          let z : at (ends_of (stored_numbers out.bases out.counts) n) c ≡ 0 = q ∙ cond_false (at out.bases c + at out.counts c) 0 e in
          record { some = λ x a b. absurd (omega arith); next = λ x a b. absurd (omega arith) })

  whole_laid : Laid (lay_pages ps no_readout)
  whole_laid =
      record {
        some = rw (whole_cards ps w) w.some;
        few = rw (whole_cards ps w) w.few;
        orderly = orderly;
        again = ap (λ (qs : List Page). lay_pages qs no_readout) (pages_back ps w);
      }

pub reading_laid : {g : Reading} (input : List ℕ) → g ≡ reading_of true 0 input → g.verdict ≡ Ok tt → Laid g.readout
reading_laid {g} input e v =
    let all_read = accepted_is formats true 0 input e v in
    subst (λ (x : Reading). Laid x.readout) (sym all_read)
    (whole_laid (read_sheets formats true 0 input).pages (whole_read formats input (sym (ap (λ (x : Reading). x.verdict) all_read) ∙ v)))
