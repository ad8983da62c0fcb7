-- What the writer of a card's sheet answers is what its plan says. Assumes nothing.
use Rattle.std.specs.Prelude.{Result, Ok, Err}
use Prim.Native.Nat.{ℕ, ◌≤◌, ◌<◌, zero-le}
use mathlib.Core.Path.{◌≡◌, refl, sym, ◌∙◌, ap, ap₂, subst}
use mathlib.Core.Bool.{Bool, true, false, not}
use mathlib.Core.List.{List, [], ◌∷◌}
use native.Mathlib.Omega.{arith}
use lib.Dec.{leb, ltb}
use lib.ListN.{length}
use lib.Seq.{sets, length-sets}
use borrow.Author.Tests.{le-ltb, lt-ltb, leb-true, leb-false, ltb-true}
use Rattle.base_laws.proofs.Logic.{test, not_intro, and_right}
use Rattle.base_laws.proofs.Seq.{sets_part}
use Rattle.base_refusal.specs.declared.Refusal.{Refusal}
use Rattle.base_refusal.specs.declared.Refusal.TheVariants.{NoSuchCard, TooShort, BadCabinet}
use Rattle.sheet_page_writer.specs.Write.{Wrote, wrote_bytes}
use Rattle.sheet_page_writer.proofs.Rows.{wrote_short, wrote_whole}
use Rattle.theory_protocol.specs.Plan.{Answer, written, Check, ◌⇒◌, Plan, checked, accepted, refused}
use Rattle.theory_protocol.specs.Model.{Model, is_card}
use Rattle.theory_codec.specs.Sheets.{sheet_of}
use Rattle.cabinet_layout.specs.declared.Head.{Head}
use Rattle.cabinet_layout.specs.Shape.{limits16, at, head_model}
use Rattle.sheet_lines.specs.declared.Header.{Header}
use Rattle.sheet_lines.specs.Format.{formats}
use Rattle.sheet_lines.specs.Lines.{format_for, header_allowed}
use Rattle.sheet_pages.specs.Pages.{Page, page_bytes}
use Rattle.sheet_pages.specs.Ring.{ring_page}
use Rattle.cabinet_sheet_header.specs.Told.{card_header}
use Rattle.cabinet_sheet.specs.Card.{Within, sheet_model, sheet_plan_for, SheetResult}
use Rattle.cabinet_sheet.proofs.Sheets.{page_is, header_passes}

-- a plan that refuses, and a writer that answers that refusal and changes no byte
told_refused : (p : Plan) (before : List ℕ) (r : Refusal) → p ≡ record { reply = refused r; edits = [] } → SheetResult p before before (Err r)
told_refused p before r e = subst (λ (q : Plan). SheetResult q before before (Err r)) (sym e) (record { answer = refl; inside = zero-le; buffer = refl })

-- a plan that accepts, and a writer that answers the length of the bytes and leaves them at the front of the buffer
told_written : (p : Plan) (bytes before : List ℕ) → length bytes ≤ length before → p ≡ record { reply = accepted (written bytes); edits = [] } → SheetResult p before (sets before 0 bytes) (Ok (length bytes))
told_written p bytes before h e =
    subst (λ (q : Plan). SheetResult q before (sets before 0 bytes) (Ok (length bytes))) (sym e)
    (record {
      answer = ap (λ (l : List ℕ). accepted (written l)) (sets_part bytes before 0 (omega arith));
      inside = let l = length-sets before 0 bytes in omega arith;
      buffer = refl;
    })

-- the last check: "lent list or buffer too short for the whole answer"
told_last : (bytes before after : List ℕ) (reply : (Result ℕ Refusal)) (p : Plan)
    → p ≡ checked (ltb (length before) (length bytes) ⇒ TooShort ∷ []) (written bytes) []
    → reply ≡ (wrote_bytes (Ok tt) bytes before).answer → after ≡ (wrote_bytes (Ok tt) bytes before).buffer → SheetResult p before after reply
told_last bytes before after reply p e r a =
    test (leb (length bytes) (length before)) (λ t. fits (leb-true (length bytes) (length before) t)) (λ t. short (leb-false (length bytes) (length before) t))
  where
    turned : (w : Wrote) → wrote_bytes (Ok tt) bytes before ≡ w → SheetResult p before w.buffer w.answer → SheetResult p before after reply
    turned w q t =
        subst (λ (x : (Result ℕ Refusal)). SheetResult p before after x) (sym (r ∙ ap (λ (y : Wrote). y.answer) q))
        (subst (λ (x : List ℕ). SheetResult p before x w.answer) (sym (a ∙ ap (λ (y : Wrote). y.buffer) q)) t)

    fits : length bytes ≤ length before → SheetResult p before after reply
    fits h =
        turned (record { answer = Ok (length bytes); buffer = sets before 0 bytes }) (wrote_whole bytes before (length bytes) refl h)
        (told_written p bytes before h (e ∙ ap (λ (b : Bool). checked (b ⇒ TooShort ∷ []) (written bytes) []) (le-ltb (length before) (length bytes) h)))

    short : length before < length bytes → SheetResult p before after reply
    short h =
        turned (record { answer = Err TooShort; buffer = before }) (wrote_short bytes before (length bytes) refl h)
        (told_refused p before TooShort (e ∙ ap (λ (b : Bool). checked (b ⇒ TooShort ∷ []) (written bytes) []) (lt-ltb (length before) (length bytes) h)))

-- the checks before the last
first_fails : (b : Bool) (r : Refusal) (cs : List Check) (a : Answer) → b ≡ true → checked (b ⇒ r ∷ cs) a [] ≡ record { reply = refused r; edits = [] }
first_fails b r cs a e = rw e

first_passes : (b : Bool) (r : Refusal) (cs : List Check) (a : Answer) → b ≡ false → checked (b ⇒ r ∷ cs) a [] ≡ checked cs a []
first_passes b r cs a e = rw e

-- a card of the cabinet is below its number of cards
pub card_there : (h : Head) (c : ℕ) → is_card limits16 (head_model h) c ≡ true → c < h.cards
card_there h c e = ltb-true c h.cards (and_right (ltb c limits16.width) (ltb c h.cards) e)

-- ---- the writer's three ends
module _ (whole : Bool) (entries changes : List ℕ) (h : Head) (rolled : ℕ) (base stored : List ℕ) (c : ℕ) (before : List ℕ) where
  abbrev m : Model
  m = sheet_model entries changes h rolled base stored

  abbrev bytes : List ℕ
  bytes = page_bytes formats (sheet_of limits16 m c)

  abbrev last : List Check
  last = ltb (length before) (length bytes) ⇒ TooShort ∷ []

  pub told_invalid : whole ≡ false → SheetResult (sheet_plan_for whole m c (length before)) before before (Err BadCabinet)
  told_invalid e =
      told_refused (sheet_plan_for whole m c (length before)) before BadCabinet
      (first_fails (not whole) BadCabinet (not (is_card limits16 m c) ⇒ NoSuchCard ∷ last) (written bytes) (not_intro e))

  pub told_absent : whole ≡ true → is_card limits16 m c ≡ false → SheetResult (sheet_plan_for whole m c (length before)) before before (Err NoSuchCard)
  told_absent e n =
      told_refused (sheet_plan_for whole m c (length before)) before NoSuchCard
      (first_passes (not whole) BadCabinet (not (is_card limits16 m c) ⇒ NoSuchCard ∷ last) (written bytes) (ap not e)
      ∙ first_fails (not (is_card limits16 m c)) NoSuchCard last (written bytes) (not_intro n))

  -- the header of the card's sheet, with the numbers found
  module _ (hd : Header) (low high : ℕ) (is : hd ≡ card_header h rolled low high c) (is_low : low ≡ at base c) (is_high : high ≡ at stored c) (w : Within h base stored c) (n : is_card limits16 m c ≡ true) where
    is_header : hd ≡ card_header h rolled (at base c) (at stored c) c
    is_header = is ∙ ap₂ (λ (x y : ℕ). card_header h rolled x y c) is_low is_high

    there : c < h.cards
    there = card_there h c n

    pub passes_7 : header_allowed (format_for formats hd) hd.card 0 hd ≡ true
    passes_7 = ap (λ (x : Header). header_allowed (format_for formats x) x.card 0 x) is_header ∙ header_passes entries changes h rolled base stored c w there

    pub told_whole : whole ≡ true → (after : List ℕ) (reply : (Result ℕ Refusal))
        → (reply ≡ (wrote_bytes (Ok tt) (page_bytes formats (ring_page changes entries hd)) before).answer) × (after ≡ (wrote_bytes (Ok tt) (page_bytes formats (ring_page changes entries hd)) before).buffer)
        → SheetResult (sheet_plan_for whole m c (length before)) before after reply
    told_whole e after reply t =
        let q : ring_page changes entries hd ≡ sheet_of limits16 m c = ap (ring_page changes entries) is_header ∙ page_is entries changes h rolled base stored c w there in
        told_last bytes before after reply (sheet_plan_for whole m c (length before))
        (first_passes (not whole) BadCabinet (not (is_card limits16 m c) ⇒ NoSuchCard ∷ last) (written bytes) (ap not e)
        ∙ first_passes (not (is_card limits16 m c)) NoSuchCard last (written bytes) (ap not n))
        (t.0 ∙ ap (λ (p : Page). (wrote_bytes (Ok tt) (page_bytes formats p) before).answer) q)
        (t.1 ∙ ap (λ (p : Page). (wrote_bytes (Ok tt) (page_bytes formats p) before).buffer) q)
