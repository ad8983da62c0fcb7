-- An accepted read-out is the very bytes that the restarted cabinet writes. Assumes nothing.
use Rattle.std.specs.Prelude.{Ok}
use Prim.Native.Nat.{ℕ, suc, ◌+◌, ◌-◌, ◌≤◌, ◌<◌}
use mathlib.Core.Path.{◌≡◌, refl, sym, ◌∙◌, ap, ap₂}
use mathlib.Core.List.{List}
use native.Mathlib.Omega.{arith}
use lib.Dec.{ltb}
use lib.ListN.{length, get_or}
use borrow.Author.Tests.{ltb-true, ltb-false}
use Rattle.base_laws.proofs.Logic.{test, cond_true, cond_false}
use Rattle.base_laws.proofs.Fill.{tabulate_ext}
use Rattle.sheet_lines.specs.Format.{formats}
use Rattle.sheet_lines.specs.Lines.{no_frame}
use Rattle.sheet_pages.specs.Pages.{Page, pages_bytes}
use Rattle.sheet_pages.specs.Ring.{no_page, page_at}
use Rattle.sheet_pages.specs.Whole.{Whole}
use Rattle.sheet_readout.specs.Joint.{lowest_session, joint_verdict, pages_read}
use Rattle.theory_protocol.specs.Model.{Model}
use Rattle.theory_codec.specs.Sheets.{card_count, sheet_session, sheet_frame, sheet_of, sheets, page_stored, vector_on, restarted}
use Rattle.theory_codec.proofs.Written.{count_is, sheets_are}
use Rattle.cabinet_layout.specs.Shape.{limits16}
use Rattle.cabinet_layout.proofs.Limits.{width16}
use Rattle.cabinet_readback.specs.Readback.{WritesTheSame}
use Rattle.sheet_readout.proofs.Accepted.{AcceptedPages, accepted_pages, joint_passed, session_low, session_high}
use Rattle.cabinet_readback.proofs.Shown.{stored_is, long, change_at_lem, vector_at_lem}

module _ (ps : List Page) (w : Whole formats ps) (joint : joint_verdict ps ≡ Ok tt) where
  abbrev m : Model
  m = restarted limits16 ps

  few : length ps ≤ limits16.width
  few = let f : length ps ≤ 16 = w.few in omega (arith, width16)

  count_of : card_count limits16 m ≡ length ps
  count_of = count_is limits16 (length ps) m few (λ c. refl)

  module _ (c : ℕ) (h : c < length ps) where
    abbrev p : Page
    p = page_at ps c

    session_same : sheet_session m c ≡ p.header.session
    session_same =
        test (ltb (lowest_session ps) p.header.session)
        (λ t. cond_true (suc (lowest_session ps)) (lowest_session ps) t ∙ ahead (ltb-true (lowest_session ps) p.header.session t))
        (λ t. cond_false (suc (lowest_session ps)) (lowest_session ps) t ∙ level (ltb-false (lowest_session ps) p.header.session t))
      where
        ahead : lowest_session ps < (page_at ps c).header.session → suc (lowest_session ps) ≡ (page_at ps c).header.session
        ahead l = omega (arith, session_high ps (joint_passed ps joint).level c h)

        level : (page_at ps c).header.session ≤ lowest_session ps → lowest_session ps ≡ (page_at ps c).header.session
        level l = omega (arith, session_low ps c h)

    count_same : page_stored p - p.header.base ≡ length p.frames
    count_same = omega (arith, stored_is ps w c h)

    frame_same : (i : ℕ) → i < length p.frames → get_or p.frames i no_frame ≡ sheet_frame limits16 m c (suc (p.header.base + i))
    frame_same i l =
        ap₂ (λ (k : ℕ) (e : List ℕ). record { change = k; entries = e }) (sym (change_at_lem ps w c h i l))
        (tabulate_ext 0 (card_count limits16 m) (vector_on p (suc (p.header.base + i))) (get_or p.frames i no_frame).entries (long ps w c h i l ∙ sym count_of)
        (λ j k. sym (vector_at_lem ps w c h i l j)))

    frames_same : (sheet_of limits16 m c).frames ≡ p.frames
    frames_same =
        sym (tabulate_ext no_frame (page_stored p - p.header.base) (λ k. sheet_frame limits16 m c (suc (p.header.base + k))) p.frames (sym count_same)
        (λ i l. frame_same i (omega (arith, l, count_same))))

    page_same : page_at ps c ≡ sheet_of limits16 m c
    page_same =
        λ i. record {
          header =
              record {
                session = sym session_same i;
                card = (w.sheet c h).card i;
                cards = ((w.sheet c h).cards ∙ sym count_of) i;
                base = p.header.base;
                count = ((w.sheet c h).count ∙ sym count_same) i;
              };
          frames = sym frames_same i;
        }

  pub sheets_same : sheets limits16 m ≡ ps
  sheets_same = sheets_are limits16 (length ps) m few (λ c. refl) ∙ sym (tabulate_ext no_page (length ps) (sheet_of limits16 m) ps refl page_same)

pub writes_the_same : WritesTheSame
writes_the_same bytes e = let t : AcceptedPages bytes (pages_read bytes).pages = accepted_pages bytes e in ap (pages_bytes formats) (sheets_same (pages_read bytes).pages t.whole t.joint) ∙ t.bytes
