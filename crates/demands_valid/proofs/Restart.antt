-- Restart and the line program refuse what the reader of a read-out refuses. Assumes nothing.
use Rattle.std.specs.Prelude.{Err}
use mathlib.Core.Path.{◌≡◌, ◌∙◌, ap}
use lib.ListN.{length}
use Rattle.base_refusal.specs.Reply as refusal
use Rattle.sheet_pages.specs.declared.Reading.{Reading}
use Rattle.sheet_readout.specs.Joint.{pages_read, readout_of}
use Rattle.theory_protocol.specs.Plan.{reply_of}
use Rattle.theory_codec.specs.Sheets.{restart_reply, restarted_from}
use Rattle.cabinet_layout.specs.Shape.{limits16}
use Rattle.cabinet_restart.specs.Restart.{cabinet_for}
use Rattle.cabinet_report.specs.Report.{text_for}
use Rattle.demands_valid.specs.Restart.{RefusedReadouts}

pub refused_readouts : RefusedReadouts
refused_readouts bytes r e =
    let v : restart_reply bytes ≡ Err r = ap (λ (x : Reading). x.verdict) e in
    record {
      restart = λ reply next x. (x.answer ∙ ap reply_of v, x.cabinet ∙ ap (λ (a : refusal.Reply). cabinet_for a (readout_of bytes).readout) v);
      text = ap (λ (a : refusal.Reply). text_for a (length (pages_read bytes).pages) (restarted_from limits16 bytes)) v;
    }
