-- What fix leaves in the two lists that the caller lends: card records, and the numbers of the changes lost.
use Rattle.base_refusal.specs.declared.Refusal.{Refusal}
use Rattle.std.specs.Prelude.{ℕ, ◌≡◌, List, length, take, drop, Result}
use Rattle.theory_protocol.specs.Calls.{fix_plan}
use Rattle.cabinet_layout.specs.Shape.{limits16}
use Rattle.cabinet_records.specs.declared.CardRecord.{CardRecord}
pub use Rattle.cabinet_fixing.specs.Fixed.{records_after}
use Rattle.cabinet.specs.declared.Cabinet.{Cabinet}
use Rattle.cabinet.specs.View.{view}
use Rattle.cabinet.specs.Fixing.{FixCarried}

-- call 9 with both lists lent: the plan where there are as many places as each list has, and every place of each list after it
pub record FixLent (s : Cabinet) (records records_now : List CardRecord) (list list_now : List ℕ) (reply : (Result ℕ Refusal)) (next : Cabinet) : Type 0 where
  pub carried : FixCarried s (length records) list list_now reply next
  pub filled : records_now ≡ records_after (fix_plan limits16 (view s) (length records) (length list)).reply records

-- the same where the first n places of an array of card records are lent: the others keep what they held
pub record FixPart (s : Cabinet) (n : ℕ) (records records_now : List CardRecord) (list list_now : List ℕ) (reply : (Result ℕ Refusal)) (next : Cabinet) : Type 0 where
  pub front : FixLent s (take n records) (take n records_now) list list_now reply next
  pub beyond : drop n records_now ≡ drop n records
