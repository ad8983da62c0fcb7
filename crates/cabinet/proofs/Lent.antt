-- What fix leaves in the list of card records that the caller lends. Assumes nothing.
use Rattle.std.specs.Prelude.{Result}
use Rattle.base_refusal.specs.declared.Refusal.{Refusal}
use Prim.Native.Nat.{ℕ, ◌≤◌}
use mathlib.Core.Path.{◌≡◌, ◌∙◌, ap, subst}
use mathlib.Core.List.{List}
use lib.ListN.{length}
use lib.Seq.{length-take-le}
use Rattle.theory_protocol.specs.Edit.{Edit}
use Rattle.theory_protocol.specs.Calls.{fix_plan}
use Rattle.cabinet_layout.specs.Shape.{limits16}
use Rattle.cabinet_records.specs.declared.CardRecord.{CardRecord}
use Rattle.cabinet_records.specs.declared.CardNumbers.{CardNumbers}
use Rattle.cabinet_records.specs.Records.{filled}
use Rattle.cabinet_fixing.specs.Fixed.{numbers_of}
use Rattle.cabinet_fixing.proofs.Lent.{lent}
use Rattle.cabinet.specs.declared.Cabinet.{Cabinet}
use Rattle.cabinet.specs.declared.Answer.{Answer}
use Rattle.cabinet.specs.View.{view}
use Rattle.cabinet.specs.Fixing.{FixCarried}
use Rattle.cabinet.specs.Lent.{FixLent, FixPart}
use Rattle.cabinet.proofs.Call.{core_fixed}

-- the contract of fix, from what the three calls say
pub lends : (s : Cabinet) (records : List CardRecord) (list list_now : List ℕ) (a : Answer ℕ) → FixCarried s (length records) list list_now a.reply a.cabinet
    → (numbers : CardNumbers) (records_now : List CardRecord) → numbers ≡ numbers_of a.reply a.cabinet.core → records_now ≡ filled numbers records → FixLent s records records_now list list_now a.reply a.cabinet
lends s records list list_now a t numbers records_now e f =
    let es : List Edit = (fix_plan limits16 (view s) (length records) (length list)).edits in
    record {
      carried = t;
      filled = f ∙ ap (λ (h : CardNumbers). filled h records) e
          ∙ lent s.entries s.changes s.core records list list_now a.reply a.cabinet.core (record { told = t.told; core = core_fixed s a.cabinet es t.cabinet });
    }

-- where the first n places of an array are lent, fix has n places for card records
pub part_carried : {s : Cabinet} {n : ℕ} {records records_now : List CardRecord} {list list_now : List ℕ} {reply : (Result ℕ Refusal)} {next : Cabinet}
    → FixPart s n records records_now list list_now reply next → n ≤ length records → FixCarried s n list list_now reply next
part_carried {s} {n} {records} {list = list} {list_now} {reply} {next} f fit = subst (λ (k : ℕ). FixCarried s k list list_now reply next) (length-take-le n records fit) f.front.carried
