-- What the sheets of a cabinet say of it: which cards they are of, and their frames. Assumes nothing.
use Prim.Native.Nat.{ℕ, suc, ◌+◌, ◌-◌, ◌≤◌, ◌<◌}
use mathlib.Core.Path.{◌≡◌, ◌∙◌}
use mathlib.Core.Bool.{true, false}
use native.Mathlib.Omega.{arith}
use lib.Dec.{ltb}
use lib.ListN.{length, get_or, get_or-eq_default}
use borrow.Author.Tests.{lt-ltb, le-ltb}
use Rattle.base_laws.specs.Below.{tabulate}
use Rattle.base_laws.proofs.Below.{selected_first, count_first}
use Rattle.base_laws.proofs.Fill.{length_tabulate, get_d_tabulate}
use Rattle.sheet_lines.specs.Lines.{no_frame}
use Rattle.theory_protocol.specs.Model.{Limits, Model}
use Rattle.theory_codec.specs.Sheets.{card_count, sheet_frame, sheet_of, sheets}

-- the count of a sheet's frames, and each of them
pub frames_length : (L : Limits) (m : Model) (c : ℕ) → length (sheet_of L m c).frames ≡ m.numbers.stored c - m.numbers.base c
frames_length L m c = length_tabulate (m.numbers.stored c - m.numbers.base c) (λ k. sheet_frame L m c (suc (m.numbers.base c + k)))

pub frame_of : (L : Limits) (m : Model) (c i : ℕ) → i < m.numbers.stored c - m.numbers.base c → get_or (sheet_of L m c).frames i no_frame ≡ sheet_frame L m c (suc (m.numbers.base c + i))
frame_of L m c i h = get_d_tabulate (m.numbers.stored c - m.numbers.base c) (λ k. sheet_frame L m c (suc (m.numbers.base c + k))) no_frame i h

-- the cards are those from 0 to n − 1
module _ (L : Limits) (n : ℕ) (m : Model) (few : n ≤ L.width) (present_is : (c : ℕ) → m.present c ≡ ltb c n) where
  there : (c : ℕ) → c < n → m.present c ≡ true
  there c h = present_is c ∙ lt-ltb c n h

  absent : (c : ℕ) → n ≤ c → m.present c ≡ false
  absent c h = present_is c ∙ le-ltb c n h

  pub count_is : card_count L m ≡ n
  count_is = count_first m.present L.width n few there (λ c h l. absent c h)

  pub sheets_are : sheets L m ≡ tabulate n (sheet_of L m)
  sheets_are = selected_first m.present (sheet_of L m) L.width n few there (λ c h l. absent c h)

  pub entry_written : (c x j : ℕ) → j < n → get_or (sheet_frame L m c x).entries j 0 ≡ m.memory.frame c x j
  entry_written c x j h = rw count_is (get_d_tabulate n (m.memory.frame c x) 0 j h)

  pub entry_absent : (c x j : ℕ) → n ≤ j → get_or (sheet_frame L m c x).entries j 0 ≡ 0
  entry_absent c x j h = rw count_is (get_or-eq_default (tabulate n (m.memory.frame c x)) 0 (omega (arith, h, length_tabulate n (m.memory.frame c x))))

  pub length_entries : (c x : ℕ) → length (sheet_frame L m c x).entries ≡ n
  length_entries c x = rw count_is (length_tabulate n (m.memory.frame c x))
