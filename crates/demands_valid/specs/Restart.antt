-- What the readers of a read-out refuse, restart and the line program refuse: so what is claimed of the reader holds of both. Statements alone: the proofs are in proofs/Restart.antt.
use Rattle.std.specs.Prelude.{◌≡◌, List, ℕ, Err}
use Rattle.base_refusal.specs.declared.Refusal.{Refusal}
use Rattle.base_refusal.specs.Number.{number_of}
use Rattle.sheet_pages.specs.Walk.{no_readout}
use Rattle.sheet_readout.specs.Joint.{readout_of}
use Rattle.theory_protocol.specs.Plan.{Reply, reply_of}
use Rattle.cabinet.specs.declared.Cabinet.{Cabinet}
use Rattle.cabinet.specs.Fresh.{zero_cabinet, void_head}
use Rattle.cabinet_restart.specs.Restart.{Restarted}
use Rattle.cabinet_report.specs.Report.{line_text, refused_text}

-- a restart answers the refusal and hands the void cabinet back; the line program's text is its number alone
pub record RefusedWith (r : Refusal) (bytes : List ℕ) : Type 0 where
  pub restart : (reply : Reply) (next : Cabinet) → Restarted bytes reply next → (reply ≡ reply_of (Err r)) × (next ≡ zero_cabinet void_head)
  pub text : line_text bytes ≡ refused_text (number_of r)

-- of any bytes that the reader refuses
abbrev pub RefusedReadouts : Type 0
RefusedReadouts = (bytes : List ℕ) (r : Refusal) → readout_of bytes ≡ record { readout = no_readout; verdict = Err r } → RefusedWith r bytes
