-- What read_sheet answers, by the length of the input. Assumes nothing.
use Rattle.std.specs.Prelude.{Err}
use Prim.Native.Nat.{ℕ, ◌≤◌, ◌<◌}
use mathlib.Core.Path.{◌≡◌, ◌∙◌}
use mathlib.Core.Bool.{false}
use mathlib.Core.List.{List, []}
use lib.ListN.{length}
use borrow.Author.Tests.{lt-ltb, le-ltb}
use Rattle.base_refusal.specs.declared.Refusal.TheVariants.{TooLong}
use Rattle.sheet_pages.specs.declared.Reading.{Reading}
use Rattle.sheet_pages.specs.Walk.{answered, reading_of, reading_in}
use Rattle.sheet_reader.specs.Single.{sheet_read_of}

pub long_sheet : (card : ℕ) (input : List ℕ) {r : Reading} → 65536 < length input → r ≡ answered (Err TooLong) [] → r ≡ sheet_read_of card input
unfolding sheet_read_of
long_sheet card input l e = e ∙ rw (lt-ltb 65536 (length input) l)

pub short_sheet : (card : ℕ) (input : List ℕ) {r : Reading} → length input ≤ 65536 → r ≡ reading_of false card input → r ≡ sheet_read_of card input
unfolding sheet_read_of reading_in
short_sheet card input l e = e ∙ rw (le-ltb 65536 (length input) l)
