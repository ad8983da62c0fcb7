-- The sheet of the parts of a cabinet is the sheet of the whole: no frame above stored is looked at. Assumes nothing.
use Rattle.std.specs.Prelude.{Result}
use Rattle.base_refusal.specs.declared.Refusal.{Refusal}
use Prim.Native.Nat.{ℕ, suc, ◌+◌, ◌-◌, ◌≤◌, ◌<◌}
use mathlib.Core.Path.{◌≡◌, refl, sym, ◌∙◌, ap, ap₂, subst}
use mathlib.Core.Bool.{Bool, true, false, not}
use mathlib.Core.List.{List, [], ◌∷◌}
use native.Mathlib.Nat.{le_trans}
use native.Mathlib.Omega.{arith}
use lib.Dec.{ltb}
use lib.ListN.{length}
use borrow.Author.Tests.{lt-ltb, ltb-true, le-leb}
use Rattle.base_laws.specs.Below.{tabulate}
use Rattle.base_laws.proofs.Logic.{and_left, and_right, and_intro, cond_true}
use Rattle.base_laws.proofs.Fill.{tabulate_same}
use Rattle.base_refusal.specs.declared.Refusal.TheVariants.{NoSuchCard, TooShort, BadCabinet}
use Rattle.sheet_lines.specs.Format.{formats}
use Rattle.sheet_lines.specs.declared.Frame.{Frame}
use Rattle.sheet_pages.specs.Pages.{Page, page_bytes}
use Rattle.theory_history.specs.Vector.{no_entries}
use Rattle.theory_history.specs.Vector as history
use Rattle.theory_protocol.specs.Model.{Model, is_card}
use Rattle.theory_protocol.specs.Plan.{written, ◌⇒◌, Plan, checked}
use Rattle.theory_protocol.specs.Valid.{valid}
use Rattle.theory_protocol.specs.Codec.{sheet_plan}
use Rattle.theory_protocol.proofs.Passed.{NumbersPassed, session_not_0}
use Rattle.theory_codec.specs.Sheets.{card_count, sheet_frame, sheet_of, codec}
use Rattle.cabinet_layout.specs.declared.Core.{Core}
use Rattle.cabinet_layout.specs.Shape.{limits16, at, model_of, ring_change, ring_frame, in_hand, truncate}
use Rattle.cabinet_layout.proofs.Limits.{width16, in_hand48, greatest60000}
use Rattle.cabinet_plans.proofs.Known.{valid_card, session_room, valid_count}
use Rattle.cabinet_sheet.specs.Card.{Within, sheet_model, sheet_plan_for, SheetResult}

module _ (entries changes : List ℕ) (s : Core) where
  abbrev m : Model
  m = model_of entries changes s

  abbrev part : Model
  part = sheet_model entries changes s.head s.rolled s.base s.stored

  numbers : valid limits16 m ≡ true → (c : ℕ) → c < 16 → c < s.head.cards → NumbersPassed limits16 m c
  numbers e c h l = (valid_card m e c h (lt-ltb c s.head.cards l)).numbers

  -- what the writer of a card's sheet is told
  pub within : (c : ℕ) → valid limits16 m ≡ true → Within s.head s.base s.stored c
  within c e =
      record {
        session = session_not_0 limits16 m e;
        next = session_room m e;
        cards = few;
        low = λ l. (numbers e c (card l) l).base_stored;
        high = λ l. let n : NumbersPassed limits16 m c = numbers e c (card l) l in omega (arith, n.stored_held, n.held_reached, n.in_hand_lem, in_hand48);
        top = λ l. let n : NumbersPassed limits16 m c = numbers e c (card l) l in omega (arith, n.stored_held, n.held_reached, n.within, greatest60000);
      }
    where
      few : s.head.cards ≤ 16
      few = valid_count m s.head.cards refl e

      card : c < s.head.cards → c < 16
      card l = omega (arith, few)

  -- ---- a sheet shows no frame above stored
  module _ (c : ℕ) (h : at s.stored c ≤ at s.reached c) where
    low_held : (k : ℕ) → k < at s.stored c - at s.base c → in_hand s.base s.stored c (suc (at s.base c + k)) ≡ true
    low_held k l = and_intro (lt-ltb (at s.base c) (suc (at s.base c + k)) (omega arith)) (le-leb (suc (at s.base c + k)) (at s.stored c) (omega arith))

    high_held : (k : ℕ) → k < at s.stored c - at s.base c → in_hand s.base s.reached c (suc (at s.base c + k)) ≡ true
    high_held k l = and_intro (lt-ltb (at s.base c) (suc (at s.base c + k)) (omega arith)) (le-leb (suc (at s.base c + k)) (at s.reached c) (omega arith))

    frame_same : (k : ℕ) → k < at s.stored c - at s.base c → sheet_frame limits16 part c (suc (at s.base c + k)) ≡ sheet_frame limits16 m c (suc (at s.base c + k))
    frame_same k l =
        let x : ℕ = suc (at s.base c + k) in
        ap₂ (λ (a : ℕ) (v : history.Vector). record { change = a; entries = tabulate (card_count limits16 m) v })
        (cond_true (ring_change changes c x) 0 (low_held k l) ∙ sym (cond_true (ring_change changes c x) 0 (high_held k l)))
        (cond_true (truncate (ring_frame entries c x)) no_entries (low_held k l) ∙ sym (cond_true (truncate (ring_frame entries c x)) no_entries (high_held k l)))

    sheet_same : sheet_of limits16 part c ≡ sheet_of limits16 m c
    sheet_same =
        ap (λ (frs : List Frame). record { header = (sheet_of limits16 m c).header; frames = frs })
        (tabulate_same (at s.stored c - at s.base c) (λ k. sheet_frame limits16 part c (suc (at s.base c + k))) (λ k. sheet_frame limits16 m c (suc (at s.base c + k))) frame_same)

  -- ---- the plan of the parts is the plan of the whole
  module _ (c places : ℕ) (whole : Bool) (ew : whole ≡ valid limits16 m) where
    abbrev plan_of : Bool → Bool → Page → Plan
    plan_of a b p = checked (not a ⇒ BadCabinet ∷ not b ⇒ NoSuchCard ∷ ltb places (length (page_bytes formats p)) ⇒ TooShort ∷ []) (written (page_bytes formats p)) []

    same_refused : (a b : Bool) (p q : Page) → (a ≡ true → b ≡ true → p ≡ q) → plan_of a b p ≡ plan_of a b q
    same_refused false b p q f = refl
    same_refused true false p q f = refl
    same_refused true true p q f = ap (plan_of true true) (f refl refl)

    plan_same : sheet_plan_for whole part c places ≡ sheet_plan codec limits16 m c places
    plan_same =
        same_refused whole (is_card limits16 m c) (sheet_of limits16 part c) (sheet_of limits16 m c) pages
        ∙ ap (λ (a : Bool). plan_of a (is_card limits16 m c) (sheet_of limits16 m c)) ew
      where
        pages : whole ≡ true → is_card limits16 m c ≡ true → sheet_of limits16 part c ≡ sheet_of limits16 m c
        pages t n =
            let l : c < limits16.width = ltb-true c limits16.width (and_left (ltb c limits16.width) (m.present c) n) in
            let p : NumbersPassed limits16 m c = (valid_card m (sym ew ∙ t) c (omega (arith, width16)) (and_right (ltb c limits16.width) (m.present c) n)).numbers in
            sheet_same c (le_trans p.stored_held p.held_reached)

  -- what the writer of the parts tells is what the plan of the whole says
  pub told_same : (c : ℕ) (before after : List ℕ) (whole : Bool) (reply : (Result ℕ Refusal)) → whole ≡ valid limits16 m
      → SheetResult (sheet_plan_for whole part c (length before)) before after reply
      → SheetResult (sheet_plan codec limits16 m c (length before)) before after reply
  told_same c before after whole reply ew t = subst (λ (p : Plan). SheetResult p before after reply) (plan_same c (length before) whole ew) t
