-- A fresh cabinet, and the void one that a refused fresh or restart hands back.
use Rattle.std.specs.Prelude.{ℕ, ◌≡◌, cond, replicate}
use Rattle.base_limits.specs.Document.{most_frames, most_entries}
use Rattle.base_refusal.specs.declared.Refusal.TheVariants.{CardCount}
use Rattle.theory_protocol.specs.Plan.{Reply, accepted, refused, done}
use Rattle.theory_protocol.specs.Calls.{fresh_refused}
use Rattle.cabinet_layout.specs.declared.Head.{Head}
use Rattle.cabinet_layout.specs.Shape.{limits16, blank_core}
pub use Rattle.cabinet_parts.specs.Fresh.{fresh_head, void_head}
use Rattle.cabinet.specs.declared.Cabinet.{Cabinet}

-- "all state numbers 0, all entries none"
abbrev pub zero_cabinet : Head → Cabinet
zero_cabinet h = record { entries = replicate most_entries 0; changes = replicate most_frames 0; core = blank_core h }

-- refusal 1, or a fresh cabinet of n cards
pub record Freshly (n : ℕ) (reply : Reply) (next : Cabinet) : Type 0 where
  pub answer : reply ≡ cond (fresh_refused limits16 n) (refused CardCount) (accepted done)
  pub cabinet : next ≡ zero_cabinet (cond (fresh_refused limits16 n) void_head (fresh_head n))
