-- How many bytes the sheets of a cabinet that passes 28 have. Assumes nothing.
use Prim.Native.Nat.{ℕ, zero, suc, ◌+◌, ◌*◌, ◌-◌, ◌≤◌, ◌<◌, zero-le}
use mathlib.Core.Path.{◌≡◌, ap}
use mathlib.Core.Bool.{true}
use mathlib.Core.List.{List, [], ◌∷◌, ◌++◌}
use native.Mathlib.Omega.{arith}
use lib.ListN.{length, length-append}
use borrow.Author.Tests.{lt-ltb, le-ltb}
use Rattle.base_laws.specs.Below.{tabulate}
use Rattle.base_laws.proofs.Below.{count_first}
use Rattle.base_laws.proofs.Fill.{length_tabulate}
use Rattle.sheet_digits.specs.declared.Sums.{Sums}
use Rattle.sheet_lines.specs.declared.Frame.{Frame}
use Rattle.sheet_lines.specs.Format.{format, formats}
use Rattle.sheet_lines.specs.Lines.{start_of, header_line, frame_line}
use Rattle.sheet_lines.proofs.Lengths.{header_line_length, frame_line_length}
use Rattle.sheet_pages.specs.Pages.{frames_bytes, page_bytes}
use Rattle.theory_protocol.specs.Valid.{valid}
use Rattle.theory_codec.specs.Sheets.{card_count, sheet_frame, sheet_of}
use Rattle.cabinet_layout.specs.Shape.{limits16, at, present_of}
use Rattle.cabinet_layout.proofs.Limits.{width16}
use Rattle.cabinet.specs.declared.Cabinet.{Cabinet}
use Rattle.cabinet.specs.View.{view}
use Rattle.cabinet_sheet.proofs.Pages.{within}

-- a frame line of n entries, of 16 at most
frame_few : (start : Sums) (n state : ℕ) (fr : Frame) → length fr.entries ≡ n → n ≤ 16 → length (frame_line format start n state fr) ≤ 81
frame_few start n state fr e few = omega (arith, frame_line_length format start n state fr (omega (arith, e)))

frames_join : (start : Sums) (n state : ℕ) (xs ys : List Frame) → length (frames_bytes format start n state (xs ++ ys)) ≡ length (frames_bytes format start n state xs) + length (frames_bytes format start n (state + length xs) ys)
frames_join start n state [] ys = let z : state + 0 ≡ state = omega arith in omega (arith, ap (λ (k : ℕ). length (frames_bytes format start n k ys)) z)
frames_join start n state (x ∷ xs) ys =
    let z : state + 1 + length xs ≡ state + suc (length xs) = omega arith in
    omega (
      arith,
      length-append (frame_line format start n state x) (frames_bytes format start n (state + 1) (xs ++ ys)),
      length-append (frame_line format start n state x) (frames_bytes format start n (state + 1) xs),
      frames_join start n (state + 1) xs ys,
      ap (λ (k : ℕ). length (frames_bytes format start n k ys)) z,
    )

frames_few : (start : Sums) (n state : ℕ) (f : ℕ → Frame) → n ≤ 16 → ((k : ℕ) → length (f k).entries ≡ n) → (count : ℕ) → length (frames_bytes format start n state (tabulate count f)) ≤ count * 81
frames_few start n state f few e zero = zero-le
frames_few start n state f few e (suc count) =
    let last : ℕ = state + length (tabulate count f) in
    omega (
      arith,
      frames_join start n state (tabulate count f) (f count ∷ []),
      frames_few start n state f few e count,
      length-append (frame_line format start n last (f count)) [],
      frame_few start n last (f count) (e count) few,
    )

module _ (s : Cabinet) (e : valid limits16 (view s) ≡ true) where
  pub few_cards : s.core.head.cards ≤ 16
  few_cards = (within s.entries s.changes s.core 0 e).cards

  cards_counted : card_count limits16 (view s) ≡ s.core.head.cards
  cards_counted = count_first (present_of s.core.head.cards) limits16.width s.core.head.cards (omega (arith, few_cards, width16)) (λ k h. lt-ltb k s.core.head.cards h) (λ k h l. le-ltb k s.core.head.cards h)

  -- a card's sheet has at most 3,913 bytes: a header line of 25 and 48 frame lines of 81
  pub sheet_few : (c : ℕ) → c < s.core.head.cards → length (page_bytes formats (sheet_of limits16 (view s) c)) ≤ 3913
  sheet_few c h =
      let base : ℕ = at s.core.base c in
      let count : ℕ = at s.core.stored c - base in
      let frames : (ℕ → Frame) = λ k. sheet_frame limits16 (view s) c (suc (base + k)) in
      let p = sheet_of limits16 (view s) c in
      let n : ℕ = card_count limits16 (view s) in
      omega (
        arith,
        length-append (header_line format p.header) (frames_bytes format (start_of format p.header) n (base + 1) (tabulate count frames)),
        header_line_length format p.header,
        frames_few (start_of format p.header) n (base + 1) frames (omega (arith, cards_counted, few_cards)) (λ k. length_tabulate n ((view s).memory.frame c (suc (base + k)))) count,
        (within s.entries s.changes s.core c e).high h,
      )
