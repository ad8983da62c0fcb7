-- Every call gets an answer, whatever the cabinet and the arguments. Assumes nothing.
use Rattle.std.specs.Prelude.{Ok, Err}
use Prim.Native.Nat.{ℕ, ◌+◌, ◌≤◌, zero-le}
use mathlib.Core.Path.{◌≡◌, refl, sym, ◌∙◌, ap, ap₂}
use mathlib.Core.List.{List, [], ◌∷◌}
use native.Mathlib.Omega.{arith}
use lib.Dec.{ltb}
use lib.ListN.{length, take, drop}
use lib.Seq.{sets, sets-eq, length-sets, take_at}
use borrow.Author.Tests.{lt-ltb, ltb-false}
use Rattle.base_refusal.specs.declared.Refusal.{Refusal}
use Rattle.base_laws.proofs.Logic.{clash, fails, or_right}
use Rattle.sheet_lines.specs.Format.{formats}
use Rattle.sheet_pages.specs.Pages.{page_bytes}
use Rattle.theory_codec.specs.Sheets.{sheet_of, codec}
use Rattle.theory_protocol.specs.Edit.{Edit}
use Rattle.theory_protocol.specs.Edit as edit
use Rattle.theory_protocol.specs.Plan.{CardRow, fixed, written, accepted, refused, Plan, Passed}
use Rattle.theory_protocol.specs.Calls.{lines, card_rows, lost_numbers, fix_checks, fix_plan}
use Rattle.theory_protocol.specs.Codec.{sheet_checks, sheet_plan}
use Rattle.theory_protocol.proofs.Steps.{checked_case}
use Rattle.cabinet_layout.specs.Shape.{limits16, at, list_of, present_of}
use Rattle.cabinet_layout.proofs.Held.{at_list}
use Rattle.cabinet_layout.proofs.Limits.{width16}
use Rattle.cabinet_recovery.specs.Fix.{rows_of, list_after}
use Rattle.cabinet_recovery.proofs.Rows.{selected_same}
use Rattle.cabinet_sheet.specs.Card.{buffer_after}
use Rattle.cabinet_records.specs.declared.CardRecord.{CardRecord}
use Rattle.cabinet.specs.declared.Cabinet.{Cabinet}
use Rattle.cabinet.specs.View.{view}
use Rattle.cabinet.specs.Apply.{apply_all}
use Rattle.cabinet.specs.Lent.{records_after}
use Rattle.demands_lists.specs.Lists.{Asked, opening, plain, lose, fix, sheet, restart, nothing_lent}
use Rattle.demands_lists.specs.Claims.{Reached}

-- a text at the front of a list that has room for it
front : (xs l : List ℕ) → length xs ≤ length l → take (length xs) (sets l 0 xs) ≡ xs
front xs l h = ap (take (length xs)) (sets-eq xs l 0 (omega arith)) ∙ take_at xs (drop (0 + length xs) l) (length xs) refl

roomy : (xs l : List ℕ) → length xs ≤ length l → length xs ≤ length (sets l 0 xs)
roomy xs l h = let z : length (sets l 0 xs) ≡ length l = length-sets l 0 xs in omega arith

-- ---- fix
module _ (s : Cabinet) (records : List CardRecord) (list : List ℕ) where
  abbrev lost : List ℕ
  lost = lost_numbers limits16 (view s)

  abbrev plan : Plan
  plan = fix_plan limits16 (view s) (length records) (length list)

  abbrev fixes : List Edit
  fixes = edit.fix (lines limits16 (view s)) ∷ []

  rows_same : rows_of s.core.head.cards s.core.stored (list_of (lines limits16 (view s))) ≡ card_rows limits16 (view s)
  rows_same =
      selected_same limits16.width (present_of s.core.head.cards) _ _
      (λ c l e. ap (λ (x : ℕ). record { card = c; stored = at s.core.stored c; line = x }) (at_list (lines limits16 (view s)) c (omega (arith, l, width16)) ∙ rw (lt-ltb c limits16.width l, e)))

  fix_refused : (r : Refusal) → plan ≡ record { reply = refused r; edits = [] } → Reached s (fix records list)
  fix_refused r e =
      record {
        reply = refused r;
        next = s;
        after = record { records = records; numbers = list };
        answered =
            record {
              told = Err r;
              both =
                  record {
                    carried =
                        record {
                          told =
                              record {
                                answer = sym (ap (λ (p : Plan). p.reply) e);
                                inside = zero-le;
                                list = sym (ap (λ (p : Plan). list_after p.reply list) e);
                              };
                          cabinet = sym (ap (λ (p : Plan). apply_all p.edits s) e);
                        };
                    filled = sym (ap (λ (p : Plan). records_after p.reply records) e);
                  };
              answer = refl;
            };
      }

  fix_done : Passed (fix_checks limits16 (view s) (length records) (length list)) → plan ≡ record { reply = accepted (fixed (card_rows limits16 (view s)) lost); edits = fixes } → Reached s (fix records list)
  fix_done ps e =
      record {
        reply = accepted (fixed (rows_of s.core.head.cards s.core.stored (list_of (lines limits16 (view s)))) (take (length lost) (sets list 0 lost)));
        next = apply_all fixes s;
        after = record { records = records_after plan.reply records; numbers = sets list 0 lost };
        answered =
            record {
              told = Ok (length lost);
              both =
                  record {
                    carried =
                        record {
                          told =
                              record {
                                answer = reply_same;
                                inside = roomy lost list short;
                                list = sym (ap (λ (p : Plan). list_after p.reply list) e);
                              };
                          cabinet = sym (ap (λ (p : Plan). apply_all p.edits s) e);
                        };
                    filled = refl;
                  };
              answer = refl;
            };
      }
    where
      short : length lost ≤ length list
      short =
          ltb-false (length list) (length lost)
          (fails (ltb (length list) (length lost)) (λ z. clash (or_right (ltb (length records) (length (card_rows limits16 (view s)))) z) ps.1.1.1.1.0))

      reply_same : accepted (fixed (rows_of s.core.head.cards s.core.stored (list_of (lines limits16 (view s)))) (take (length lost) (sets list 0 lost))) ≡ plan.reply
      reply_same = ap₂ (λ (rows : List CardRow) (ls : List ℕ). accepted (fixed rows ls)) rows_same (front lost list short) ∙ sym (ap (λ (p : Plan). p.reply) e)

  fix_some : Reached s (fix records list)
  fix_some =
      checked_case (λ (p : Plan). plan ≡ p → Reached s (fix records list)) (fix_checks limits16 (view s) (length records) (length list)) (fixed (card_rows limits16 (view s)) lost) fixes fix_refused fix_done refl

-- ---- a card's sheet
module _ (s : Cabinet) (c : ℕ) (buffer : List ℕ) where
  abbrev bytes : List ℕ
  bytes = page_bytes formats (sheet_of limits16 (view s) c)

  abbrev written_plan : Plan
  written_plan = sheet_plan codec limits16 (view s) c (length buffer)

  sheet_refused : (r : Refusal) → written_plan ≡ record { reply = refused r; edits = [] } → Reached s (sheet c buffer)
  sheet_refused r e =
      record {
        reply = refused r;
        next = s;
        after = record { records = []; numbers = buffer };
        answered =
            record {
              told = Err r;
              carried =
                  record {
                    told = record { answer = sym (ap (λ (p : Plan). p.reply) e); inside = zero-le; buffer = sym (ap (λ (p : Plan). buffer_after p.reply buffer) e) };
                    cabinet = sym (ap (λ (p : Plan). apply_all p.edits s) e);
                  };
              answer = refl;
              no_records = refl;
            };
      }

  sheet_done : Passed (sheet_checks codec limits16 (view s) c (length buffer)) → written_plan ≡ record { reply = accepted (written bytes); edits = [] } → Reached s (sheet c buffer)
  sheet_done ps e =
      let short : length bytes ≤ length buffer = ltb-false (length buffer) (length bytes) ps.1.1.0 in
      let reply_same : accepted (written (take (length bytes) (sets buffer 0 bytes))) ≡ written_plan.reply = ap (λ (l : List ℕ). accepted (written l)) (front bytes buffer short) ∙ sym (ap (λ (p : Plan). p.reply) e) in
      record {
        reply = accepted (written (take (length bytes) (sets buffer 0 bytes)));
        next = s;
        after = record { records = []; numbers = sets buffer 0 bytes };
        answered =
            record {
              told = Ok (length bytes);
              carried =
                  record {
                    told =
                        record {
                          answer = reply_same;
                          inside = roomy bytes buffer short;
                          buffer = sym (ap (λ (p : Plan). buffer_after p.reply buffer) e);
                        };
                    cabinet = sym (ap (λ (p : Plan). apply_all p.edits s) e);
                  };
              answer = refl;
              no_records = refl;
            };
      }

  sheet_some : Reached s (sheet c buffer)
  sheet_some = checked_case (λ (p : Plan). written_plan ≡ p → Reached s (sheet c buffer)) (sheet_checks codec limits16 (view s) c (length buffer)) (written bytes) [] sheet_refused sheet_done refl

-- ---- every call
pub some : (s : Cabinet) (asked : Asked) → Reached s asked
some s (opening reads writes) = record { reply = _; next = _; after = nothing_lent; answered = (record { answer = refl; cabinet = refl }, refl) }
some s (plain q) = record { reply = _; next = _; after = nothing_lent; answered = (record { answer = refl; cabinet = refl }, refl) }
some s (lose cards) = record { reply = _; next = _; after = nothing_lent; answered = (record { answer = refl; cabinet = refl }, refl) }
some s (fix records list) = fix_some s records list
some s (sheet c buffer) = sheet_some s c buffer
some s restart = record { reply = _; next = _; after = nothing_lent; answered = (record { answer = refl; cabinet = refl }, refl) }
