-- `cabinet_records::fill` writes the records one after the other. The invariant: those so far stand in the list.
use Rattle.std.proofs.Common.{◌-◌}
use Rattle.base_laws.proofs.Fill.{StoredSoFar}
use Rattle.cabinet_records.specs.Records.{record_at}
use Rattle.cabinet_records.proofs.fill.Given as goal

abbrev pub invariant-loop-i : goal.invariant-loop-i
invariant-loop-i l = StoredSoFar l.n (record_at l.numbers) l.initial.list 0 l.list l.i
