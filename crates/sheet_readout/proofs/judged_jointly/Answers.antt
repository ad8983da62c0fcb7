-- `sheet_readout::judged_jointly` gives the read-out, or zeros where it is refused. Assumes nothing.
use borrow.Author.Rules.{rules}
use Rattle.sheet_readout.proofs.Jointly.{joint_accepted, joint_refused}
use Rattle.sheet_readout.proofs.judged_jointly.Goals as goal

pub returns-in-Ok : goal.returns-in-Ok
returns-in-Ok c = joint_accepted c.args.r c.requires.again c.joint_verdict.ensures c.in-Ok.is

pub returns-in-Err : goal.returns-in-Err
returns-in-Err c = joint_refused c.args.r c.nothing_read.ensures c.joint_verdict.ensures c.in-Err.is
