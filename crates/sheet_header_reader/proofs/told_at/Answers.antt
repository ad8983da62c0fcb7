-- `sheet_header_reader::told_at` gives the number of cards that a header tells. Assumes nothing.
use Prim.Native.Nat.{ℕ, ◌+◌, ◌-◌, ◌≤◌}
use Rattle.std.proofs.lemmas.List.{take_min}
use Rattle.std.specs.Prelude.{min}
use mathlib.Core.Path.{◌≡◌, ◌∙◌, ap}
use mathlib.Core.List.{List}
use borrow.Author.Rules.{rules}
use native.Mathlib.Omega.{arith}
use lib.ListN.{length, take, drop, length-drop, drop_of_length-le}
use lib.Seq.{drop-drop}
use Rattle.sheet_digits.specs.Digits.{number}
use Rattle.sheet_header_reader.proofs.told_at.Goals as goal

-- before those digits the input ends
told_none : (s : List ℕ) (at : ℕ) → length s ≤ at + 10 → 0 ≡ number (take 2 (drop 10 (drop at s)))
told_none s at h = rw (drop-drop 10 at s, drop_of_length-le s h)

-- as many of them as there are, up to two
told_few : (s : List ℕ) (at k : ℕ) {v : ℕ} → k ≡ min (length s - at - 10) 2 → v ≡ number (take k (drop (at + 10) s)) → v ≡ number (take 2 (drop 10 (drop at s)))
told_few s at k e d =
    let l : length (drop (at + 10) s) ≡ length s - at - 10 = length-drop (at + 10) s ∙ omega arith in
    let m : k ≡ min 2 (length (drop (at + 10) s)) = omega arith in
    d ∙ rw (drop-drop 10 at s, m) (ap number (take_min 2 (drop (at + 10) s)))

pub returns-then-digits-eq0 : goal.returns-then-digits-eq0
returns-then-digits-eq0 c = told_none c.args.s.now c.args.at (omega (arith, c.if-digits-eq0.true))

pub returns : goal.returns
returns c = told_few c.args.s.now c.args.at _ (search rules) c.number_at.ensures
