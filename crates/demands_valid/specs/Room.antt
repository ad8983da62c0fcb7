-- "numbers of lost changes into a second list of up to 776". Statements alone: the proofs are in proofs/Room.antt.
use Rattle.base_refusal.specs.declared.Refusal.{Refusal}
use Rattle.std.specs.Prelude.{ℕ, ◌≤◌, ◌≡◌, List, length, Result, Err}
use Rattle.base_refusal.specs.declared.Refusal.TheVariants.{TooShort}
use Rattle.cabinet_recovery.specs.Fix.{count_told}
use Rattle.cabinet.specs.declared.Cabinet.{Cabinet}
use Rattle.cabinet.specs.Fixing.{FixCarried}

-- fix never answers more of them, however long the list
abbrev pub FewLost : Type 0
FewLost =
    (s : Cabinet) (places : ℕ) (before after : List ℕ) (reply : (Result ℕ Refusal)) (next : Cabinet) → FixCarried s places before after reply next
    → count_told reply ≤ 776

-- whoever lends fix 16 card records and 776 numbers, or more, never gets 4, whatever the cabinet
abbrev pub NeverShort : Type 0
NeverShort =
    (s : Cabinet) (places : ℕ) (before after : List ℕ) (reply : (Result ℕ Refusal)) (next : Cabinet) → FixCarried s places before after reply next
    → 16 ≤ places → 776 ≤ length before → reply ≡ Err TooShort → ⊥
