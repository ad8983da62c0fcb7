-- The lost changes of the model are those that the code finds, and what fix answers by its checks. Assumes nothing.
use Rattle.std.specs.Prelude.{Ok, Err}
use Prim.Native.Nat.{ℕ, suc, ◌+◌, ◌≤◌, ◌<◌}
use mathlib.Core.Path.{◌≡◌, refl, sym, ◌∙◌, ap, ap₂, subst}
use mathlib.Core.Bool.{Bool, true, false, not, ◌||◌}
use mathlib.Core.List.{List, [], ◌∷◌, ◌++◌}
use native.Mathlib.Omega.{arith}
use lib.ListN.{length, take, drop}
use lib.Seq.{sets, sets-eq, length-sets, take_at}
use lib.Dec.{ltb}
use borrow.Author.Tests.{ltb-false}
use Rattle.base_laws.specs.Below.{count_below}
use Rattle.base_laws.proofs.Logic.{test, clash, fails}
use Rattle.base_refusal.specs.declared.Refusal.{Refusal}
use Rattle.base_refusal.specs.declared.Refusal.TheVariants.{BadCabinet, TooShort}
use Rattle.theory_protocol.specs.Model.{Model}
use Rattle.theory_protocol.specs.Edit.{fix}
use Rattle.theory_protocol.specs.Plan.{CardRow, fixed, Check, ◌⇒◌, Plan, accepted, refused}
use Rattle.theory_protocol.specs.Valid.{valid}
use Rattle.theory_protocol.specs.Calls.{lines, is_lost, card_rows, greatest_lost, lost_numbers, fix_checks, fix_plan}
use Rattle.theory_protocol.proofs.Listed.{lost_below}
use Rattle.cabinet_layout.specs.declared.Core.{Core}
use Rattle.base_refusal.specs.Reply.{Reply}
use Rattle.cabinet_layout.specs.Shape.{limits16, at, list_of, present_of, writes_model}
use Rattle.cabinet_layout.specs.Answers.{first_failing, after28, next}
use Rattle.cabinet_layout.proofs.Limits.{width16}
use Rattle.cabinet_layout.proofs.Checks.{done_plan, refused_plan}
use Rattle.base_merge.specs.Merge.{change_at, ends_of, CardRises, Rises}
use Rattle.cabinet_listing.specs.Lost.{Rising, Listed, lost_by}
use Rattle.cabinet_recovery.specs.Fix.{rows_of, list_after, lines_after, but_last, FixWorked}
use Rattle.cabinet_recovery.proofs.Rows.{length_selected, selected_same}
use Rattle.cabinet_listing.proofs.Shown as shown
use Rattle.cabinet_listing.proofs.Shown.{line_at, line_above, lost_same}
use Rattle.base_laws.proofs.Order.{those}
use Rattle.cabinet_listing.proofs.Rise.{rising_one}
use Rattle.cabinet_lost.proofs.Rising.{valid_rises}

-- the numbers that rise from one state on rise from a later one on
rises_later : {changes from ends : List ℕ} (later : List ℕ) → Rises changes from ends → ((c : ℕ) → c < 16 → at from c ≤ at later c) → Rises changes later ends
rises_later {changes} {from} {ends} later r l = record { card = each }
  where
    each : (c : ℕ) → c < 16 → CardRises (change_at changes c) (at later c) (at ends c)
    each c h =
        let b : at from c ≤ at later c = l c h in
        record { some = λ x a u. (r.card c h).some x (omega arith) u; next = λ x a u. (r.card c h).next x (omega arith) u }

-- ---- the last check
last_check : (cs : List Check) (b : Bool) (r : Refusal) → first_failing (cs ++ (b ⇒ r ∷ [])) ≡ next (first_failing cs) b r
last_check [] b r = refl
last_check ((true ⇒ q) ∷ cs) b r = refl
last_check ((false ⇒ q) ∷ cs) b r = last_check cs b r

or_out : (a b : Bool) → a || b ≡ false → b ≡ false
or_out true b e = clash refl e
or_out false b e = e

module _ (entries changes : List ℕ) (core : Core) where
  abbrev found : Model
  found = shown.found entries changes core

  abbrev found_line : List ℕ
  found_line = shown.found_line entries changes core

  abbrev lost_here : ℕ → Bool
  lost_here = lost_by changes found_line core.reached core.ended core.head.cards

  abbrev numbers : List ℕ
  numbers = lost_numbers limits16 found

  -- the list that the merge makes is that of the definition
  numbers_rising : Rising lost_here numbers
  numbers_rising =
      record {
        top = greatest_lost limits16 found;
        so = ap (λ (p : ℕ → Bool). those p (suc (greatest_lost limits16 found))) (λ i k. sym (lost_same entries changes core k) i);
        end = λ k h. lost_same entries changes core k ∙ fails (is_lost limits16 found k) (λ (t : is_lost limits16 found k ≡ true). absurd (omega (arith, h, lost_below limits16 found k t)));
      }

  list_is : {xs : List ℕ} → Rising lost_here xs → xs ≡ numbers
  list_is r = rising_one r numbers_rising

  rows_same : rows_of core.head.cards core.stored found_line ≡ card_rows limits16 found
  rows_same = selected_same limits16.width (present_of core.head.cards) _ _ (λ c l t. ap (λ (x : ℕ). record { card = c; stored = at core.stored c; line = x }) (line_at entries changes core c (omega (arith, width16)) t))

  module _ (cp : ℕ) (before : List ℕ) where
    abbrev first : Reply
    first = first_failing (but_last (fix_checks limits16 found cp 0))

    abbrev checks : List Check
    checks = fix_checks limits16 found cp (length before)

    abbrev the_plan : Plan
    the_plan = fix_plan limits16 found cp (length before)

    -- the last check, as the plan has it and as the code does
    abbrev too_short : Bool
    too_short = ltb cp (length (card_rows limits16 found)) || ltb (length before) (length numbers)

    abbrev is_short : ℕ → Bool
    is_short k = ltb cp (count_below limits16.width (present_of core.head.cards)) || ltb (length before) k

    answer_of : (b : Bool) → first ≡ Ok tt → is_short (length numbers) ≡ b → first_failing checks ≡ next (Ok tt) b TooShort
    answer_of b e s =
        last_check (but_last (fix_checks limits16 found cp 0)) too_short TooShort
        ∙ ap₂ (λ (v : Reply) (t : Bool). next v t TooShort) e (ap (λ (k : ℕ). ltb cp k || ltb (length before) (length numbers)) (length_selected limits16.width (present_of core.head.cards) _) ∙ s)

    refused_told : (q : Refusal) → first_failing checks ≡ Err q → FixWorked found the_plan core.head.cards core.stored (list_of (λ c. 0)) before before (Err q)
    refused_told q e =
        let p : the_plan ≡ record { reply = refused q; edits = [] } = refused_plan checks (fixed (card_rows limits16 found) numbers) (fix (lines limits16 found) ∷ []) q e in
        record {
          told = record {
            answer = sym (ap (λ (x : Plan). x.reply) p);
            inside = let z : 0 ≤ length before = omega arith in z;
            list = sym (ap (λ (x : Plan). list_after x.reply before) p);
          };
          lines_are = sym (ap (λ (x : Plan). lines_after x.reply found) p);
        }

    -- one of the checks before the last refuses
    pub told_early : (q : Refusal) → first ≡ Err q → FixWorked found the_plan core.head.cards core.stored (list_of (λ c. 0)) before before (Err q)
    told_early q e = refused_told q (last_check (but_last (fix_checks limits16 found cp 0)) too_short TooShort ∙ ap (λ (r : Reply). next r too_short TooShort) e)

    -- the last one does
    pub told_short : first ≡ Ok tt → is_short (length numbers) ≡ true → FixWorked found the_plan core.head.cards core.stored (list_of (λ c. 0)) before before (Err TooShort)
    told_short e s = refused_told TooShort (answer_of true e s)

    -- none does
    pub told_fixed : (after : List ℕ) → first ≡ Ok tt → is_short (length numbers) ≡ false → after ≡ sets before 0 numbers
        → FixWorked found the_plan core.head.cards core.stored found_line before after (Ok (length numbers))
    told_fixed after e s a =
        let l : length numbers ≤ length before = ltb-false (length before) (length numbers) (or_out (ltb cp (count_below limits16.width (present_of core.head.cards))) (ltb (length before) (length numbers)) s) in
        let p : the_plan ≡ record { reply = accepted (fixed (card_rows limits16 found) numbers); edits = fix (lines limits16 found) ∷ [] } = done_plan checks (fixed (card_rows limits16 found) numbers) (fix (lines limits16 found) ∷ []) (answer_of false e s) in
        let t : take (length numbers) after ≡ numbers = ap (take (length numbers)) (a ∙ sets-eq numbers before 0 (omega arith)) ∙ take_at numbers (drop (0 + length numbers) before) (length numbers) refl in
        record {
          told = record {
            answer = ap₂ (λ (rows : List CardRow) (ls : List ℕ). accepted (fixed rows ls)) rows_same t ∙ sym (ap (λ (x : Plan). x.reply) p);
            inside = let z : length after ≡ length before = ap length a ∙ length-sets before 0 numbers in omega (arith, z, l);
            list = a ∙ sym (ap (λ (x : Plan). list_after x.reply before) p);
          };
          lines_are = sym (ap (λ (x : Plan). lines_after x.reply found) p);
        }

    -- the checks before the last, by what the check for 28 found
    pub first_told : (whole : Bool) (r : Reply) → whole ≡ valid limits16 found → r ≡ first_failing (but_last (after28 (not whole) (fix_checks limits16 (writes_model core.head [] [] [] core.writing) 0 0))) → first ≡ r
    first_told whole r ew e = sym (e ∙ ap (λ (b : Bool). first_failing (but_last (after28 (not b) (fix_checks limits16 (writes_model core.head [] [] [] core.writing) 0 0)))) ew)

    -- a cabinet that they let pass is valid
    valid_known : first ≡ Ok tt → valid limits16 found ≡ true
    valid_known e = test (valid limits16 found) (λ w. w) (λ w. let z : Err BadCabinet ≡ Ok tt = rw w at e in let y : ◌≡◌ {A = ℕ} 0 1 = cc in absurd (omega arith))

    -- ---- as the code has them: the lines that it worked out, the count and the list that it wrote
    module _ (line : List ℕ) (el : line ≡ found_line) (z : List ℕ) (ez : z ≡ list_of (λ c. 0)) where
      -- the numbers above the line rise
      pub line_rises : first ≡ Ok tt → Rises changes line (ends_of core.reached core.head.cards)
      line_rises e =
          subst (λ (l : List ℕ). Rises changes l (ends_of core.reached core.head.cards)) (sym el)
          (rises_later found_line (valid_rises entries changes core (valid_known e)) (line_above entries changes core))

      pub early_told : (q : Refusal) → first ≡ Err q → FixWorked found the_plan core.head.cards core.stored z before before (Err q)
      early_told q e = subst (λ (l : List ℕ). FixWorked found the_plan core.head.cards core.stored l before before (Err q)) (sym ez) (told_early q e)

      -- what the walk over the changes lost told, at the line as it is: their count, and the list with them at its front
      counted : (u v : List ℕ) (n : ℕ) → Listed (lost_by changes line core.reached core.ended core.head.cards) u v n → (n ≡ length numbers) × (v ≡ sets u 0 numbers)
      counted u v n r =
          let w : Listed lost_here u v n = subst (λ (l : List ℕ). Listed (lost_by changes l core.reached core.ended core.head.cards) u v n) el r in
          let e : w.list ≡ numbers = list_is w.rising in
          (w.count ∙ ap length e, w.stored ∙ ap (sets u 0) e)

      module _ (u v : List ℕ) (n : ℕ) (r : Listed (lost_by changes line core.reached core.ended core.head.cards) u v n) (e : first ≡ Ok tt) where
        -- the last check, of the list itself
        room : (b : Bool) → is_short n ≡ b → is_short (length numbers) ≡ b
        room b s = ap is_short (sym (counted u v n r).0) ∙ s

        pub short_told : is_short n ≡ true → FixWorked found the_plan core.head.cards core.stored z before before (Err TooShort)
        short_told s = subst (λ (l : List ℕ). FixWorked found the_plan core.head.cards core.stored l before before (Err TooShort)) (sym ez) (told_short e (room true s))

        pub fixed_told : (after : List ℕ) (k : ℕ) → Listed (lost_by changes line core.reached core.ended core.head.cards) before after k → is_short n ≡ false
            → FixWorked found the_plan core.head.cards core.stored line before after (Ok n)
        fixed_told after k w s =
            let t : FixWorked found the_plan core.head.cards core.stored found_line before after (Ok (length numbers)) = told_fixed after e (room false s) (counted before after k w).1 in
            subst (λ (k : ℕ). FixWorked found the_plan core.head.cards core.stored line before after (Ok k)) (sym (counted u v n r).0) (subst (λ (x : List ℕ). FixWorked found the_plan core.head.cards core.stored x before after (Ok (length numbers))) (sym el) t)
