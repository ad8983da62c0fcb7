-- `cabinet_restart::restart` answers what the read-out's verdict says. Assumes nothing.
use mathlib.Core.Path.{◌∙◌, ap}
use Rattle.cabinet.specs.Fresh.{zero_cabinet}
use Rattle.cabinet_restart.proofs.Shows.{read_within, restart_done, restart_refused}
use Rattle.cabinet_restart.proofs.restart.Goals as goal

pub restarted-requires : goal.restarted-requires
restarted-requires c = read_within c.args.bytes.now c.read_readout-read.result c.read_readout-read.ensures c.in-Ok.is

pub returns-in-Ok : goal.returns-in-Ok
returns-in-Ok c = restart_done c.args.bytes.now c.read_readout-read.result c.read_readout-read.ensures c.restarted.result c.in-Ok.is c.restarted.ensures

pub returns-in-Err : goal.returns-in-Err
returns-in-Err c = restart_refused c.args.bytes.now c.read_readout-read.result c.read_readout-read.ensures c.zeros.result c.in-Err.q c.in-Err.is (c.zeros.ensures ∙ ap zero_cabinet c.head_of.ensures)
