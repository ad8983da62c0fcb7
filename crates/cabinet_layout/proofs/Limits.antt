-- The limits as numbers, and vectors with all entries none. Assumes nothing.
use mathlib.Core.Path.{◌≡◌, refl}
use mathlib.Core.List.{List}
use lib.ListN.{replicate}
use Rattle.base_laws.specs.Below.{tabulate}
use Rattle.theory_history.specs.Vector.{no_entries}
use Rattle.cabinet_layout.specs.declared.Vector.{Vector}
use Rattle.cabinet_layout.specs.Shape.{limits16, vector_for}

pub width16 : limits16.width ≡ 16
unfolding limits16
width16 = refl

pub in_hand48 : limits16.in_hand ≡ 48
unfolding limits16
in_hand48 = refl

pub slots8 : limits16.slots ≡ 8
unfolding limits16
slots8 = refl

pub greatest60000 : limits16.greatest_state ≡ 60000
unfolding limits16
greatest60000 = refl

pub greatest_number32 : limits16.greatest_number ≡ 4294967295
unfolding limits16
greatest_number32 = refl

pub vectors_none : ◌≡◌ {A = List Vector} (replicate 16 (record { entries = replicate 16 0 })) (tabulate limits16.width (λ c. vector_for no_entries))
unfolding limits16
vectors_none = refl
