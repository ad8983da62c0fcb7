-- The list of card records that is filled from what fix answered is the one that fix's plan says. Assumes nothing.
use Rattle.std.specs.Prelude.{Result, Ok, Err}
use Prim.Native.Nat.{ℕ, zero, suc, ◌≤◌, ◌<◌}
use mathlib.Core.Path.{◌≡◌, refl, sym, ◌∙◌, ap}
use mathlib.Core.Bool.{Bool, true, false, not, ◌&&◌, ◌||◌, cond}
use mathlib.Core.List.{List, [], ◌∷◌, ◌++◌, map}
use native.Mathlib.Omega.{arith}
use lib.Dec.{leb, ltb}
use lib.ListN.{length, take}
use lib.Seq.{sets}
use borrow.Author.Tests.{lt-ltb, le-ltb, le-leb, ltb-false, not-false}
use Rattle.base_laws.specs.Below.{selected, tabulate}
use Rattle.base_laws.proofs.Logic.{and_intro, cond_true, cond_case}
use Rattle.base_laws.proofs.Below.{selected_first, count_first}
use Rattle.base_refusal.specs.declared.Refusal.{Refusal}
use Rattle.base_refusal.specs.declared.Refusal.TheVariants.{BadCabinet, WrongPhase, TooShort, LimitReached, WriteUnreported}
use Rattle.theory_protocol.specs.Model.{Model, is_down}
use Rattle.theory_protocol.specs.Edit.{Edit, fix}
use Rattle.theory_protocol.specs.Plan.{CardRow, Answer, fixed, Check, ◌⇒◌, Plan, checked, accepted}
use Rattle.theory_protocol.specs.Plan as plan
use Rattle.theory_protocol.specs.Valid.{valid}
use Rattle.theory_protocol.specs.Calls.{some_writing, lines, card_rows, lost_numbers, fix_checks, fix_plan}
use Rattle.cabinet_layout.specs.declared.Core.{Core}
use Rattle.cabinet_layout.specs.Shape.{limits16, at, present_of, model_of}
use Rattle.cabinet_layout.specs.Answers.{first_failing}
use Rattle.cabinet_layout.specs.Applied.{applied_all}
use Rattle.cabinet_layout.proofs.Limits.{width16}
use Rattle.cabinet_layout.proofs.Checks.{Passes, passes, done_plan}
use Rattle.cabinet_recovery.specs.Fix.{rows_of, fix_reply_of}
use Rattle.cabinet_recovery.proofs.Rows.{length_selected}
use Rattle.cabinet_plans.proofs.Known.{valid_count}
use Rattle.cabinet_records.specs.declared.CardRecord.{CardRecord}
use Rattle.cabinet_records.specs.declared.CardNumbers.{CardNumbers}
use Rattle.cabinet_records.specs.Records.{record_at, filled}
use Rattle.cabinet_fixing.specs.Fixed.{CoreFixed, record_of, records_after, cards_in, numbers_of}

-- ---- a filled list of card records
-- with no card nothing is written
filled_none : (h : CardNumbers) (l : List CardRecord) → h.cards ≡ 0 → filled h l ≡ l
filled_none h l e =
    ap (λ (k : ℕ). sets l 0 (tabulate k (record_at h)))
    (cond_case (λ (k : ℕ). k ≡ 0) (leb h.cards 16 && leb h.cards (length l)) (λ t. e) (λ t. refl))

-- where every card has a place, every card's record is written
filled_all : (h : CardNumbers) (l : List CardRecord) (n : ℕ) → h.cards ≡ n → n ≤ 16 → n ≤ length l → filled h l ≡ sets l 0 (tabulate n (record_at h))
filled_all h l n e few fit =
    ap (λ (k : ℕ). sets l 0 (tabulate k (record_at h)))
    (ap (λ (k : ℕ). cond (leb k 16 && leb k (length l)) k 0) e ∙ cond_true n 0 (and_intro (le-leb n 16 few) (le-leb n (length l) fit)))

-- ---- lists
map_append : {A B : Type 0} (f : A → B) (xs ys : List A) → map f (xs ++ ys) ≡ map f xs ++ map f ys
map_append f [] ys = refl
map_append f (x ∷ xs) ys = ap (λ l. f x ∷ l) (map_append f xs ys)

map_tabulate : {A B : Type 0} (g : A → B) (n : ℕ) (f : ℕ → A) → map g (tabulate n f) ≡ tabulate n (λ k. g (f k))
map_tabulate g zero f = refl
map_tabulate g (suc n) f = map_append g (tabulate n f) (f n ∷ []) ∙ ap (λ l. l ++ (g (f n) ∷ [])) (map_tabulate g n f)

-- ---- the cards of a cabinet of n cards, n at most 16
module _ (n : ℕ) (few : n ≤ limits16.width) where
  there : (k : ℕ) → k < n → present_of n k ≡ true
  there k h = lt-ltb k n h

  absent : (k : ℕ) → n ≤ k → k < limits16.width → present_of n k ≡ false
  absent k h l = le-ltb k n h

  rows_first : {A : Type 0} (f : ℕ → A) → selected limits16.width (present_of n) f ≡ tabulate n f
  rows_first f = selected_first (present_of n) f limits16.width n few there absent

  rows_long : {A : Type 0} (f : ℕ → A) → length (selected limits16.width (present_of n) f) ≡ n
  rows_long f = length_selected limits16.width (present_of n) f ∙ count_first (present_of n) limits16.width n few there absent

-- ---- an accepted plan has no check that fails
none_fails : (cs : List Check) (a x : Answer) (es : List Edit) → accepted x ≡ (checked cs a es).reply → first_failing cs ≡ Ok tt
none_fails [] a x es e = refl
none_fails ((true ⇒ r) ∷ cs) a x es e = let z : ◌≡◌ {A = ℕ} 0 1 = cc in absurd (omega arith)
none_fails ((false ⇒ r) ∷ cs) a x es e = none_fails cs a x es e

or_out : (a b : Bool) → a || b ≡ false → a ≡ false
or_out true b e = e
or_out false b e = refl

module _ (entries changes : List ℕ) (s : Core) (records : List CardRecord) (list list_now : List ℕ) (reply : (Result ℕ Refusal)) (next : Core)
    (t : CoreFixed entries changes s (length records) list list_now reply next) where
  abbrev m : Model
  m = model_of entries changes s

  abbrev n : ℕ
  n = s.head.cards

  abbrev checks : List Check
  checks = fix_checks limits16 m (length records) (length list)

  abbrev answered : Answer
  answered = fixed (card_rows limits16 m) (lost_numbers limits16 m)

  abbrev made : Plan
  made = fix_plan limits16 m (length records) (length list)

  -- what is answered, where the reply is r
  told_reply : (r : (Result ℕ Refusal)) → reply ≡ r → fix_reply_of n next.stored next.line list_now r ≡ made.reply
  told_reply r d = sym (ap (fix_reply_of n next.stored next.line list_now) d) ∙ t.told.answer

  lent_refused : (q : Refusal) → reply ≡ Err q → filled (numbers_of reply next) records ≡ records_after made.reply records
  lent_refused q d =
      filled_none (numbers_of reply next) records (ap (λ (r : (Result ℕ Refusal)). cards_in r next.head.cards) d)
      ∙ ap (λ (x : plan.Reply). records_after x records) (told_reply (Err q) d)

  -- where fix is accepted
  module _ (k : ℕ) (d : reply ≡ Ok k) where
    abbrev row : ℕ → CardRow
    row c = record { card = c; stored = at next.stored c; line = at next.line c }

    off : first_failing checks ≡ Ok tt
    off = none_fails checks answered (fixed (rows_of n next.stored next.line) (take k list_now)) (fix (lines limits16 m) ∷ []) (told_reply (Ok k) d)

    abbrev wrong : Bool
    wrong = not (is_down m.phase)

    abbrev late : Bool
    late = leb limits16.greatest_number m.session

    abbrev unreported : Bool
    unreported = some_writing limits16 m

    abbrev short : Bool
    short = ltb (length records) (length (card_rows limits16 m))

    abbrev missing : Bool
    missing = ltb (length list) (length (lost_numbers limits16 m))

    whole : Passes (not (valid limits16 m)) (wrong ⇒ WrongPhase ∷ late ⇒ LimitReached ∷ unreported ⇒ WriteUnreported ∷ (short || missing) ⇒ TooShort ∷ [])
    whole = passes (not (valid limits16 m)) BadCabinet (wrong ⇒ WrongPhase ∷ late ⇒ LimitReached ∷ unreported ⇒ WriteUnreported ∷ (short || missing) ⇒ TooShort ∷ []) off

    enough : Passes (short || missing) []
    enough = passes (short || missing) TooShort [] (passes unreported WriteUnreported ((short || missing) ⇒ TooShort ∷ []) (passes late LimitReached (unreported ⇒ WriteUnreported ∷ (short || missing) ⇒ TooShort ∷ []) (passes wrong WrongPhase (late ⇒ LimitReached ∷ unreported ⇒ WriteUnreported ∷ (short || missing) ⇒ TooShort ∷ []) whole.after).after).after).after

    -- the cabinet has at most 16 cards, and the list a place for each
    few : n ≤ limits16.width
    few = let l : n ≤ 16 = valid_count m n refl (not-false (valid limits16 m) whole.here) in omega (arith, width16)

    fit : n ≤ length records
    fit =
        let l : length (card_rows limits16 m) ≤ length records = ltb-false (length records) (length (card_rows limits16 m)) (or_out short missing enough.here) in
        let e : length (card_rows limits16 m) ≡ n = rows_long n few _ in
        omega (arith, l, e)

    cards : next.head.cards ≡ n
    cards = ap (λ (c : Core). c.head.cards) t.core ∙ ap (λ (p : Plan). (applied_all p.edits s).head.cards) (done_plan checks answered (fix (lines limits16 m) ∷ []) off)

    -- the list holds each card's record at the card's own place
    in_place : records_after made.reply records ≡ sets records 0 (tabulate n (λ c. record_of (row c)))
    in_place =
        sym (ap (λ (x : plan.Reply). records_after x records) (told_reply (Ok k) d))
        ∙ ap (λ (l : List CardRecord). sets records 0 l) (ap (map record_of) (rows_first n few row) ∙ map_tabulate record_of n row)

    lent_fixed : filled (numbers_of reply next) records ≡ records_after made.reply records
    lent_fixed = filled_all (numbers_of reply next) records n (ap (λ (r : (Result ℕ Refusal)). cards_in r next.head.cards) d ∙ cards) (let w : _ = width16 in omega (arith, few, w)) fit ∙ sym in_place

  lent_by : (r : (Result ℕ Refusal)) → reply ≡ r → filled (numbers_of reply next) records ≡ records_after made.reply records
  lent_by (Ok k) d = lent_fixed k d
  lent_by (Err q) d = lent_refused q d

  pub lent : filled (numbers_of reply next) records ≡ records_after made.reply records
  lent = lent_by reply refl
