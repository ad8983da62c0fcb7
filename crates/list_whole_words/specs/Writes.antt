-- What a function that writes a text does at each call.
use Rattle.std.specs.Prelude.{List, ℕ}
use denote.Ref.{MutBor}
use denote.Param.Members.{Shared}
use Rattle.base_text.specs.declared.Progress.{Progress}
use Rattle.base_text.specs.Put.{Put}

-- at each buffer, from each place on, the call writes the text t
abbrev pub Writes : {F : Type 0} → Shared F (MutBor (List ℕ) × (Progress × Unit {0})) (Progress × (MutBor (List ℕ) × Unit {0})) → F → List ℕ → Type 0
Writes g put t = (b : MutBor (List ℕ)) (w r : Progress) (e : MutBor (List ℕ)) → g.post put (b, (w, tt)) (r, (e, tt)) → Put b.now w t r e.now
