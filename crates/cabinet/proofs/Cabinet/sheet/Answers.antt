use mathlib.Core.Path.{sym, ap}
use mathlib.Core.List.{List}
use lib.ListN.{length}
use Rattle.theory_protocol.specs.Edit.{Edit}
use Rattle.theory_protocol.specs.Plan.{written}
use Rattle.theory_protocol.specs.Codec.{sheet_checks}
use Rattle.theory_codec.specs.Sheets.{codec}
use Rattle.cabinet_layout.specs.Shape.{limits16}
use Rattle.cabinet.specs.View.{view}
use Rattle.cabinet.specs.Apply.{apply_all}
use Rattle.cabinet.proofs.Call.{no_edits}
use Rattle.cabinet.proofs.Cabinet.sheet.Goals as goal

pub returns : goal.returns
returns c =
    let a : _ = c.args in
    let s : _ = a.self in
    record {
      told = c.sheet-reply.ensures;
      cabinet = sym (ap (λ (es : List Edit). apply_all es s) (no_edits (sheet_checks codec limits16 (view s) a.card (length a.buffer.now)) (written (codec.sheet limits16 (view s) a.card))));
    }
