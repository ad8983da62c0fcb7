-- `cabinet_report::line_text` is the text of what a restart answers. Assumes nothing.
use Rattle.cabinet_report.proofs.Told.{few, left, accepted_same, refused_same}
use Rattle.cabinet_report.proofs.line_text.Goals as goal

pub accepted_text-requires : goal.accepted_text-requires
accepted_text-requires c = (few c.args.bytes.now c.restart-a.result.reply c.restart-a.result.cabinet c.restart-a.ensures c.in-Ok.is, left c.args.bytes.now c.restart-a.result.reply c.restart-a.result.cabinet c.restart-a.ensures c.in-Ok.is)

pub returns-in-Ok : goal.returns-in-Ok
returns-in-Ok c = accepted_same c.args.bytes.now c.restart-a.result.reply c.restart-a.result.cabinet c.restart-a.ensures c.in-Ok.is c.accepted_text.ensures

pub returns-in-Err : goal.returns-in-Err
returns-in-Err c = refused_same c.args.bytes.now c.restart-a.result.reply c.restart-a.result.cabinet c.restart-a.ensures c.in-Err.q c.from.result c.in-Err.is c.from.ensures c.refused_text.ensures
