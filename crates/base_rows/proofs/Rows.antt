-- One turn of a loop that writes a row; rows at places that the ring has. Assumes nothing.
use Prim.Native.Nat.{ℕ, suc, ◌+◌, ◌*◌, ◌≤◌, ◌<◌}
use mathlib.Core.Path.{◌≡◌, ◌∙◌}
use mathlib.Core.List.{List}
use native.Mathlib.Omega.{arith}
use lib.ListN.{length, drop, get_or, set, drop_of_length-le}
use lib.Seq.{sets, drop-cons}
use borrow.Author.Tests.{lt-ltb}
use Rattle.base_laws.specs.Below.{tabulate}
use Rattle.base_laws.proofs.Logic.{cond_true}
use Rattle.base_rows.specs.Row.{entries_at, row_at, row_put}

pub store_step : (to es : List ℕ) (at j : ℕ) → j < length es → sets (set to (at + j) (get_or es j 0)) (at + (j + 1)) (drop (j + 1) es) ≡ sets to (at + j) (drop j es)
store_step to es at j h =
    let i : j + 1 ≡ suc j = omega arith in
    let q : at + (j + 1) ≡ suc (at + j) = omega arith in
    rw (q, i, drop-cons es j 0 h)

pub store_done : (to es : List ℕ) (at j : ℕ) → length es ≤ j → sets to (at + j) (drop j es) ≡ to
store_done to es at j h = rw (drop_of_length-le es h)

pub row_there : (entries : List ℕ) (p : ℕ) {row : List ℕ} → p < 768 → row ≡ row_at entries p → row ≡ entries_at entries p
row_there entries p l e = e ∙ cond_true (entries_at entries p) (tabulate 16 (λ j. 0)) (lt-ltb p 768 l)

pub put_there : (entries row : List ℕ) (p : ℕ) {next : List ℕ} → p < 768 → next ≡ row_put entries p row → next ≡ sets entries (p * 16) row
put_there entries row p l e = e ∙ cond_true (sets entries (p * 16) row) entries (lt-ltb p 768 l)
