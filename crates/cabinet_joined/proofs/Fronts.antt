-- Sheets written one after the other are the sheets joined. Assumes nothing.
use Rattle.std.specs.Prelude.{Result, Ok, Err}
use Rattle.base_refusal.specs.declared.Refusal.{Refusal}
use Prim.Native.Nat.{ℕ, ◌+◌, ◌*◌, ◌-◌, ◌≤◌, ◌<◌}
use mathlib.Core.Path.{◌≡◌, refl, sym, ◌∙◌, ap, ap₂}
use mathlib.Core.Bool.{Bool, true, not, cond}
use mathlib.Core.List.{List, [], ◌∷◌, ◌++◌, append_assoc, append-nil}
use native.Mathlib.Numerals.{add-one}
use native.Mathlib.Omega.{arith}
use lib.Dec.{ltb}
use lib.ListN.{length, take}
use lib.Seq.{take-append-add, take-append-le, length-take-le}
use borrow.Author.Tests.{lt-ltb, le-ltb}
use Rattle.base_laws.specs.Below.{selected}
use Rattle.base_laws.proofs.Below.{selected_first}
use Rattle.base_laws.proofs.Logic.{and_intro}
use Rattle.base_refusal.specs.declared.Refusal.TheVariants.{NoSuchCard, TooShort, BadCabinet}
use Rattle.sheet_lines.specs.Format.{formats}
use Rattle.sheet_pages.specs.Pages.{Page, page_bytes, pages_bytes}
use Rattle.theory_protocol.specs.Model.{is_card}
use Rattle.theory_protocol.specs.Plan.{accepted, written, ◌⇒◌, checked}
use Rattle.theory_protocol.specs.Valid.{valid}
use Rattle.theory_protocol.specs.Codec.{sheet_plan}
use Rattle.theory_codec.specs.Sheets.{sheet_of, joined_sheets, codec}
use Rattle.theory_codec.proofs.Written.{sheets_are}
use Rattle.cabinet_layout.specs.Shape.{limits16, present_of}
use Rattle.cabinet_layout.proofs.Limits.{width16}
use Rattle.cabinet_sheet.specs.Card.{sheet_reply_of, length_told}
use Rattle.cabinet.specs.declared.Cabinet.{Cabinet}
use Rattle.cabinet.specs.View.{view}
use Rattle.cabinet.specs.Writing.{SheetCarried}
use Rattle.cabinet_joined.proofs.Bytes.{few_cards, sheet_few}

-- ---- the sheets of the first cards

pages_append : (xs ys : List Page) → pages_bytes formats (xs ++ ys) ≡ pages_bytes formats xs ++ pages_bytes formats ys
pages_append [] ys = refl
pages_append (x ∷ xs) ys = ap (λ (l : List ℕ). page_bytes formats x ++ l) (pages_append xs ys) ∙ sym (append_assoc (page_bytes formats x) (pages_bytes formats xs) (pages_bytes formats ys))

abbrev pub front : Cabinet → ℕ → List ℕ
front s card = pages_bytes formats (selected card (view s).present (sheet_of limits16 (view s)))

front_more : (s : Cabinet) (card : ℕ) → card < s.core.head.cards → front s (card + 1) ≡ front s card ++ page_bytes formats (sheet_of limits16 (view s) card)
front_more s card h =
    ap (front s) (add-one card)
    ∙ ap (λ (b : Bool). pages_bytes formats (selected card (view s).present (sheet_of limits16 (view s)) ++ cond b (sheet_of limits16 (view s) card ∷ []) [])) (lt-ltb card s.core.head.cards h)
    ∙ pages_append (selected card (view s).present (sheet_of limits16 (view s))) (sheet_of limits16 (view s) card ∷ [])
    ∙ ap (λ (l : List ℕ). front s card ++ l) (append-nil (page_bytes formats (sheet_of limits16 (view s) card)))

-- the first cards are all cards
front_whole : (s : Cabinet) → valid limits16 (view s) ≡ true → front s s.core.head.cards ≡ joined_sheets formats limits16 (view s)
front_whole s e =
    let n : ℕ = s.core.head.cards in
    ap (pages_bytes formats)
    (selected_first (present_of n) (sheet_of limits16 (view s)) n n (omega arith) (λ k h. lt-ltb k n h) (λ k h l. absurd (omega arith))
    ∙ sym (sheets_are limits16 n (view s) (omega (arith, few_cards s e, width16)) (λ c. refl)))

-- ---- one sheet

-- a sheet that has room is written
plan_passes : (s : Cabinet) (card places : ℕ) → valid limits16 (view s) ≡ true → card < s.core.head.cards → length (page_bytes formats (sheet_of limits16 (view s) card)) ≤ places
    → (sheet_plan codec limits16 (view s) card places).reply ≡ accepted (written (page_bytes formats (sheet_of limits16 (view s) card)))
plan_passes s card places e h room =
    let page : List ℕ = page_bytes formats (sheet_of limits16 (view s) card) in
    let there : is_card limits16 (view s) card ≡ true = and_intro (lt-ltb card limits16.width (omega (arith, few_cards s e, width16))) (lt-ltb card s.core.head.cards h) in
    ap (λ (a : Bool). (checked (not a ⇒ BadCabinet ∷ not (is_card limits16 (view s) card) ⇒ NoSuchCard ∷ ltb places (length page) ⇒ TooShort ∷ []) (written page) []).reply) e
    ∙ ap (λ (a : Bool). (checked (not a ⇒ NoSuchCard ∷ ltb places (length page) ⇒ TooShort ∷ []) (written page) []).reply) there
    ∙ ap (λ (a : Bool). (checked (a ⇒ TooShort ∷ []) (written page) []).reply) (le-ltb places (length page) room)

-- the length told of bytes that were accepted
told_as : (after bytes : List ℕ) (q : (Result ℕ Refusal)) → sheet_reply_of after q ≡ accepted (written bytes) → take (length_told q) after ≡ bytes
told_as after bytes (Ok k) z = let y : take k after ≡ bytes = cc in y
told_as after bytes (Err r) z = let k : ◌≡◌ {A = ℕ} 0 1 = cc in absurd (omega arith)

-- ---- the sheets of the first cards stand at the front of the buffer

pub record Joined (s : Cabinet) (b : List ℕ) (card at : ℕ) : Type 0 where
  pub size : length b ≡ 65536
  pub few : at ≤ card * 3913
  pub inside : at ≤ 65536
  pub bytes : take at b ≡ front s card

pub joined_none : (s : Cabinet) (b : List ℕ) → length b ≡ 65536 → Joined s b 0 0
joined_none s b size = record { size = size; few = omega arith; inside = omega arith; bytes = refl }

-- one sheet more, written from there on: 16 sheets have room
module _ {s : Cabinet} {b : List ℕ} {card at : ℕ} {before after : List ℕ} {q : (Result ℕ Refusal)} {next : Cabinet}
    (e : valid limits16 (view s) ≡ true) (h : card < s.core.head.cards) (j : Joined s b card at) (w : SheetCarried s card before after q next) (size : length before ≡ length b - at) where
  abbrev page : List ℕ
  page = page_bytes formats (sheet_of limits16 (view s) card)

  taken : take (length_told q) after ≡ page
  taken =
      told_as after page q
      (w.told.answer ∙ plan_passes s card (length before) e h (omega (arith, size, j.size, j.few, few_cards s e, sheet_few s e card h)))

  length_is : length_told q ≡ length page
  length_is = omega (arith, ap length taken, length-take-le (length_told q) after w.told.inside)

  pub joined_more : (n : ℕ) (rest : List ℕ) → n ≡ length_told q → length (take at b ++ (after ++ rest)) ≡ length b → Joined s (take at b ++ (after ++ rest)) (card + 1) (at + n)
  joined_more n rest z same =
      record {
        size = same ∙ j.size;
        few = omega (arith, z, length_is, sheet_few s e card h, j.few);
        inside = omega (arith, z, length_is, sheet_few s e card h, j.few, few_cards s e);
        bytes =
            ap₂ (λ (x y : ℕ). take (x + y) (take at b ++ (after ++ rest))) (sym (length-take-le at b (omega (arith, j.inside, j.size)))) z
            ∙ take-append-add (take at b) (after ++ rest) (length_told q)
            ∙ ap₂ (λ (x y : List ℕ). x ++ y) j.bytes (take-append-le (length_told q) after rest w.told.inside ∙ taken)
            ∙ sym (front_more s card h);
      }

pub joined_all : {s : Cabinet} {b : List ℕ} {card at : ℕ} → valid limits16 (view s) ≡ true → Joined s b card at → card ≡ s.core.head.cards → (at ≤ 65536) × (take at b ≡ joined_sheets formats limits16 (view s))
joined_all {s} e j z = (j.inside, j.bytes ∙ ap (front s) z ∙ front_whole s e)
