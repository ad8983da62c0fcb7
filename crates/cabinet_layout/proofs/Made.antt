-- What holds of nothing made and of each frame made holds of what an edit makes. Assumes nothing.
use Prim.Native.Nat.{ℕ}
use Rattle.theory_history.specs.Vector.{Vector}
use Rattle.theory_protocol.specs.Edit.{Edit}
use Rattle.theory_protocol.specs.Edit as edit
use Rattle.cabinet_layout.specs.Applied.{made}

pub made_by : {A : Type 0} (P : A → Type 0) (e : Edit) (none : A) (f : (c k : ℕ) → Vector → A) → P none → ((c k : ℕ) (v : Vector) → P (f c k v)) → P (made e none f)
made_by P (edit.place p o) none f z g = z
made_by P (edit.latest k) none f z g = z
made_by P (edit.grow c k v) none f z g = g c k v
made_by P (edit.raise c v) none f z g = z
made_by P (edit.keep c x) none f z g = z
made_by P (edit.begin c x) none f z g = z
made_by P (edit.end c x) none f z g = z
made_by P (edit.rebase bases) none f z g = z
made_by P (edit.fall cards) none f z g = z
made_by P edit.halt none f z g = z
made_by P (edit.fix line) none f z g = z
made_by P (edit.lower c) none f z g = z
made_by P edit.renew none f z g = z
