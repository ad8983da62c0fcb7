use Rattle.base_laws.proofs.Fill.{all_none, all_more, all_done}
use Rattle.cabinet_layout.proofs.Limits.{width16}
use Rattle.cabinet_valid.proofs.Hand.{card_whole}
use Rattle.cabinet_valid.proofs.all_cards_valid.Goals as goal

pub loop-c-init : goal.loop-c-init
loop-c-init c = all_none

pub loop-c-preserved : goal.loop-c-preserved
loop-c-preserved c = let a : _ = c.args in all_more c.loop-c.invariant c.loop-c-test.true (card_whole a.entries.now a.changes.now a.core c.loop-c.c _ c.loop-c-test.true c.card_valid-ok.ensures)

pub returns : goal.returns
returns c = all_done c.loop-c.invariant c.loop-c-test.false width16
